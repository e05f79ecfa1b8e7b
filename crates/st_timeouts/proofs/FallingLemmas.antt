-- The same order from the last to the first, as it is kept.
use Rattle.std.proofs.Common.{◌≡◌, ℕ, zero, suc, ◌+◌, ◌-◌, ◌<◌, ◌≤◌, Bool, true, false, if◌then◌else◌, List, [], ◌∷◌, ◌++◌, refl, sym, ap, subst, ◌∙◌, arith, length, take, drop, reverse, append-nil}
use Rattle.std.specs.Prelude.{Option, Some, None, is_some, OnSome}
use Rattle.std.specs.List.{filter, slice_get, insert, remove}
use Rattle.std.proofs.lemmas.List.{append_assoc, reverse-append, reverse-reverse, length-reverse, take-append-drop, length-drop}
use Rattle.std.proofs.lemmas.List.Elements.{filter-append}
use Rattle.st_events.specs.declared.timer.Timer.{Timer}
use Rattle.st_events.specs.Timers.{same_timer}
use Rattle.st_events.proofs.ComparedLemmas.{same_timer_self}
use Rattle.st_timeouts.specs.declared.key.Key.{Key}
use Rattle.st_timeouts.specs.Keys.{before, put_late, AllBefore, NoneBefore, InOrder}
use Rattle.st_timeouts.specs.Order.{has_come, is_other, NoneElse, OtherThan, OnceEach, first_key, other_keys}
use Rattle.st_timeouts.proofs.DueLemmas.{not_before_both, before_flips, put_late_at}

-- one comes before none of some
abbrev pub BeforeNone : Key → List Key → Type 0
BeforeNone one [] = Unit {0}
BeforeNone one (other ∷ others) = (before one other ≡ false) × BeforeNone one others

-- none comes before one that stands behind it
abbrev pub Falling : List Key → Type 0
Falling [] = Unit {0}
Falling (one ∷ others) = BeforeNone one others × Falling others

-- ---- a list cut in two
pub drop_at : {X : Type 0} (xs : List X) (i : ℕ) (y : X) → slice_get xs i ≡ Some y → drop i xs ≡ y ∷ drop (suc i) xs
drop_at [] i y h = cc
drop_at (x ∷ xs) zero y h = let same : x ≡ y = cc in rw same refl
drop_at (x ∷ xs) (suc i) y h = drop_at xs i y h

pub take_at : (xs : List Key) (i : ℕ) (y : Key) → slice_get xs i ≡ Some y → take (suc i) xs ≡ take i xs ++ y ∷ []
take_at [] i y h = cc
take_at (x ∷ xs) zero y h = let same : x ≡ y = cc in rw same refl
take_at (x ∷ xs) (suc i) y h = ap (λ t. x ∷ t) (take_at xs i y h)

-- ---- of a list and of one turned round
none_append : (o : Key) (xs ys : List Key) → NoneBefore o xs → NoneBefore o ys → NoneBefore o (xs ++ ys)
none_append o [] ys h k = k
none_append o (x ∷ xs) ys h k = (h.0, none_append o xs ys h.1 k)

all_append : (o : Key) (xs ys : List Key) → AllBefore o xs → AllBefore o ys → AllBefore o (xs ++ ys)
all_append o [] ys h k = k
all_append o (x ∷ xs) ys h k = (h.0, all_append o xs ys h.1 k)

pub none_reverse : (o : Key) (xs : List Key) → NoneBefore o xs → NoneBefore o (reverse xs)
none_reverse o [] h = tt
none_reverse o (x ∷ xs) h = rw (reverse-append (x ∷ []) xs) (none_append o (reverse xs) (x ∷ []) (none_reverse o xs h.1) (h.0, tt))

pub all_reverse : (o : Key) (xs : List Key) → AllBefore o xs → AllBefore o (reverse xs)
all_reverse o [] h = tt
all_reverse o (x ∷ xs) h = rw (reverse-append (x ∷ []) xs) (all_append o (reverse xs) (x ∷ []) (all_reverse o xs h.1) (h.0, tt))

before_none_more : (z y : Key) (zs : List Key) → BeforeNone z zs → before z y ≡ false → BeforeNone z (zs ++ y ∷ [])
before_none_more z y [] h e = (e, tt)
before_none_more z y (x ∷ zs) h e = (h.0, before_none_more z y zs h.1 e)

falling_more : (zs : List Key) (y : Key) → Falling zs → NoneBefore y zs → Falling (zs ++ y ∷ [])
falling_more [] y h k = (tt, tt)
falling_more (z ∷ zs) y h k = (before_none_more z y zs h.0 k.0, falling_more zs y h.1 k.1)

falling_reverse : (ys : List Key) → InOrder ys → Falling (reverse ys)
falling_reverse [] h = tt
falling_reverse (y ∷ ys) h = rw (reverse-append (y ∷ []) ys) (falling_more (reverse ys) y (falling_reverse ys h.1) (none_reverse y ys h.0))

pub falling : (xs : List Key) → InOrder (reverse xs) → Falling xs
falling xs h = subst Falling (reverse-reverse xs) (falling_reverse (reverse xs) h)

-- ---- around a place
falling_drop : (xs : List Key) (i : ℕ) → Falling xs → Falling (drop i xs)
falling_drop xs zero h = h
falling_drop [] (suc i) h = tt
falling_drop (x ∷ xs) (suc i) h = falling_drop xs i h.1

before_none_at : (x y : Key) (xs : List Key) (i : ℕ) → BeforeNone x xs → slice_get xs i ≡ Some y → before x y ≡ false
before_none_at x y [] i h e = cc
before_none_at x y (z ∷ xs) zero h e = let same : z ≡ y = cc in subst (λ (w : Key). before x w ≡ false) same h.0
before_none_at x y (z ∷ xs) (suc i) h e = before_none_at x y xs i h.1 e

none_up_to : (xs : List Key) (i : ℕ) (y : Key) → Falling xs → slice_get xs i ≡ Some y → NoneBefore y (take i xs)
none_up_to [] i y h e = cc
none_up_to (x ∷ xs) zero y h e = tt
none_up_to (x ∷ xs) (suc i) y h e = (before_none_at x y xs i h.0 e, none_up_to xs i y h.1 e)

-- what comes before one, and so all from there on
all_behind_by : (b : Bool) (y z key : Key) → before z key ≡ b → before y key ≡ true → before y z ≡ false → b ≡ true
all_behind_by true y z key e h k = refl
all_behind_by false y z key e h k = let wrong : true ≡ false = sym h ∙ not_before_both y z key k e in cc

all_behind : (y key : Key) (xs : List Key) → BeforeNone y xs → before y key ≡ true → AllBefore key xs
all_behind y key [] h e = tt
all_behind y key (z ∷ xs) h e = (all_behind_by (before z key) y z key refl e h.0, all_behind y key xs h.1 e)

pub before_from : (xs : List Key) (i : ℕ) (y key : Key) → InOrder (reverse xs) → slice_get xs i ≡ Some y → before y key ≡ true → AllBefore key (drop i xs)
before_from xs i y key h e k =
    let here = drop_at xs i y e in
    let parts = subst Falling here (falling_drop xs i (falling xs h)) in
    subst (AllBefore key) (sym here) (k, all_behind y key (drop (suc i) xs) parts.0 k)

none_behind : (y key : Key) (xs : List Key) → NoneBefore y xs → before y key ≡ false → NoneBefore key xs
none_behind y key [] h e = tt
none_behind y key (z ∷ xs) h e = (not_before_both z y key h.0 e, none_behind y key xs h.1 e)

pub none_to : (xs : List Key) (i : ℕ) (y key : Key) → InOrder (reverse xs) → slice_get xs i ≡ Some y → before y key ≡ false → NoneBefore key (take (suc i) xs)
none_to xs i y key h e k =
    subst (NoneBefore key) (sym (take_at xs i y e))
    (none_append key (take i xs) (y ∷ []) (none_behind y key (take i xs) (none_up_to xs i y (falling xs h) e) k) (k, tt))

-- ---- one more
pub inserted : (xs : List Key) (place : ℕ) (key : Key) → AllBefore key (drop place xs) → NoneBefore key (take place xs)
    → reverse (insert xs place key) ≡ put_late key (reverse xs)
inserted xs place key h k =
    let cut : reverse xs ≡ reverse (drop place xs) ++ reverse (take place xs) =
    sym (ap reverse (take-append-drop place xs)) ∙ reverse-append (take place xs) (drop place xs) in
    let more = put_late_at key (reverse (drop place xs)) (reverse (take place xs)) (all_reverse key (drop place xs) h) (none_reverse key (take place xs) k) in
    let turned : reverse (take place xs ++ key ∷ drop place xs) ≡ reverse (drop place xs) ++ key ∷ reverse (take place xs) =
    reverse-append (take place xs) (key ∷ drop place xs)
    ∙ (ap (λ t. t ++ reverse (take place xs)) (reverse-append (key ∷ []) (drop place xs)) ∙ append_assoc (reverse (drop place xs)) (key ∷ []) (reverse (take place xs))) in
    turned ∙ (sym more ∙ ap (put_late key) (sym cut))

none_late_by : (b : Bool) (x o y : Key) (ys late : List Key) → before y o ≡ b → before o x ≡ false → NoneBefore x (y ∷ ys) → NoneBefore x late
    → NoneBefore x (if b then y ∷ late else o ∷ y ∷ ys)
none_late_by true x o y ys late e f h k = (h.0, k)
none_late_by false x o y ys late e f h k = (f, h)

none_late : (x o : Key) (ys : List Key) → before o x ≡ false → NoneBefore x ys → NoneBefore x (put_late o ys)
none_late x o [] f h = (f, tt)
none_late x o (y ∷ ys) f h = none_late_by (before y o) x o y ys (put_late o ys) refl f h (none_late x o ys f h.1)

late_by : (b : Bool) (o y : Key) (ys : List Key) → before y o ≡ b → InOrder (y ∷ ys) → InOrder (put_late o ys)
    → InOrder (if b then y ∷ put_late o ys else o ∷ y ∷ ys)
late_by true o y ys e h k = (none_late y o ys (before_flips y o e) h.0, k)
late_by false o y ys e h k = ((e, none_behind y o ys h.0 e), h)

pub late_in_order : (o : Key) (ys : List Key) → InOrder ys → InOrder (put_late o ys)
late_in_order o [] h = (tt, tt)
late_in_order o (y ∷ ys) h = late_by (before y o) o y ys refl h (late_in_order o ys h.1)

-- ---- those that have come
abbrev pub AllCome : ℕ → List Key → Type 0
AllCome now [] = Unit {0}
AllCome now (one ∷ others) = (has_come now one ≡ true) × AllCome now others

abbrev NoneCome : ℕ → List Key → Type 0
NoneCome now [] = Unit {0}
NoneCome now (one ∷ others) = (has_come now one ≡ false) × NoneCome now others

filter_come : (now : ℕ) (xs : List Key) → AllCome now xs → filter (has_come now) xs ≡ xs
filter_come now [] h = refl
filter_come now (x ∷ xs) h = rw h.0 (ap (λ t. x ∷ t) (filter_come now xs h.1))

filter_none_come : (now : ℕ) (xs : List Key) → NoneCome now xs → filter (has_come now) xs ≡ []
filter_none_come now [] h = refl
filter_none_come now (x ∷ xs) h = rw h.0 (filter_none_come now xs h.1)

pub come_later : (now : ℕ) (z y : Key) → before z y ≡ false → has_come now y ≡ false → has_come now z ≡ false
come_later now z y h k = grind (arith, h, k)

none_come : (now : ℕ) (y : Key) (xs : List Key) → NoneBefore y xs → has_come now y ≡ false → NoneCome now xs
none_come now y [] h e = tt
none_come now y (z ∷ xs) h e = (come_later now z y h.0 e, none_come now y xs h.1 e)

filter_one : (b : Bool) (p : Key → Bool) (x : Key) (xs : List Key) → p x ≡ b → reverse (filter p xs) ++ filter p (x ∷ []) ≡ reverse (filter p (x ∷ xs))
filter_one true p x xs e = rw e (sym (reverse-append (x ∷ []) (filter p xs)))
filter_one false p x xs e = rw e (append-nil (reverse (filter p xs)))

filter_reverse : (p : Key → Bool) (xs : List Key) → filter p (reverse xs) ≡ reverse (filter p xs)
filter_reverse p [] = refl
filter_reverse p (x ∷ xs) =
    ap (filter p) (reverse-append (x ∷ []) xs)
    ∙ (filter-append p (reverse xs) (x ∷ []) ∙ (ap (λ t. t ++ filter p (x ∷ [])) (filter_reverse p xs) ∙ filter_one (p x) p x xs refl))

come_from : (now : ℕ) (xs : List Key) (place : ℕ) → NoneCome now (take place xs) → AllCome now (drop place xs) → place ≤ length xs
    → length xs - place ≡ length (filter (has_come now) (reverse xs))
come_from now xs place h k within =
    let cut : filter (has_come now) xs ≡ drop place xs =
    sym (ap (filter (has_come now)) (take-append-drop place xs))
    ∙ (filter-append (has_come now) (take place xs) (drop place xs)
    ∙ (ap (λ t. t ++ filter (has_come now) (drop place xs)) (filter_none_come now (take place xs) h) ∙ filter_come now (drop place xs) k)) in
    sym (ap length (filter_reverse (has_come now) xs)
    ∙ (length-reverse (filter (has_come now) xs) ∙ (ap length cut ∙ length-drop place xs)))

none_come_more : (now : ℕ) (xs : List Key) (y : Key) → NoneCome now xs → has_come now y ≡ false → NoneCome now (xs ++ y ∷ [])
none_come_more now [] y h e = (e, tt)
none_come_more now (x ∷ xs) y h e = (h.0, none_come_more now xs y h.1 e)

-- all have come
pub all_come : (now : ℕ) (xs : List Key) → AllCome now xs → length xs ≡ length (filter (has_come now) (reverse xs))
all_come now xs h =
    let all = come_from now xs zero tt h (omega arith) in
    let none_less : length xs - zero ≡ length xs = omega arith in
    sym none_less ∙ all

-- those from a place on have come, and the one in front of it has not
pub come_behind : (now : ℕ) (xs : List Key) (before_it : ℕ) (y : Key) → InOrder (reverse xs) → slice_get xs before_it ≡ Some y → has_come now y ≡ false
    → AllCome now (drop (suc before_it) xs) → suc before_it ≤ length xs → length xs - suc before_it ≡ length (filter (has_come now) (reverse xs))
come_behind now xs before_it y h e f k within =
    come_from now xs (suc before_it) (subst (NoneCome now) (sym (take_at xs before_it y e)) (none_come_more now (take before_it xs) y (none_come now y (take before_it xs) (none_up_to xs before_it y (falling xs h) e) f) f)) k within

pub come_more : (now : ℕ) (xs : List Key) (place : ℕ) (y : Key) → slice_get xs place ≡ Some y → has_come now y ≡ true → AllCome now (drop (suc place) xs) → AllCome now (drop place xs)
come_more now xs place y e f h = subst (AllCome now) (sym (drop_at xs place y e)) (f, h)

-- ---- the first of them
take_all : (xs : List Key) (n : ℕ) → n ≡ length xs → take n xs ≡ xs
take_all [] zero h = refl
take_all [] (suc n) h = refl
take_all (x ∷ xs) zero h = cc
take_all (x ∷ xs) (suc n) h = ap (λ t. x ∷ t) (take_all xs n (omega (arith, h)))

drop_all : (xs : List Key) (n : ℕ) → n ≡ length xs → drop n xs ≡ []
drop_all [] zero h = refl
drop_all [] (suc n) h = refl
drop_all (x ∷ xs) zero h = cc
drop_all (x ∷ xs) (suc n) h = drop_all xs n (omega (arith, h))

pub first_reversed : (xs : List Key) (i : ℕ) (y : Key) → slice_get xs i ≡ Some y → suc i ≡ length xs → Some y ≡ first_key (reverse xs)
first_reversed xs i y e last =
    let cut : xs ≡ take i xs ++ y ∷ [] = sym (take_all xs (suc i) last) ∙ take_at xs i y e in
    sym (ap first_key (ap reverse cut ∙ reverse-append (take i xs) (y ∷ [])))

pub others_reversed : (xs : List Key) (i : ℕ) (y : Key) → slice_get xs i ≡ Some y → suc i ≡ length xs → reverse (remove xs i) ≡ other_keys (reverse xs)
others_reversed xs i y e last =
    let cut : xs ≡ take i xs ++ y ∷ [] = sym (take_all xs (suc i) last) ∙ take_at xs i y e in
    let gone : remove xs i ≡ take i xs = ap (λ t. take i xs ++ t) (drop_all xs (suc i) last) ∙ append-nil (take i xs) in
    ap reverse gone ∙ sym (ap other_keys (ap reverse cut ∙ reverse-append (take i xs) (y ∷ [])))

-- ---- without a timer's
pub other_filter : (timer : Timer) (xs : List Key) → OtherThan timer xs → filter (is_other timer) xs ≡ xs
other_filter timer [] h = refl
other_filter timer (x ∷ xs) h = rw h.0 (ap (λ t. x ∷ t) (other_filter timer xs h.1))

other_append : (timer : Timer) (xs ys : List Key) → OtherThan timer xs → OtherThan timer ys → OtherThan timer (xs ++ ys)
other_append timer [] ys h k = k
other_append timer (x ∷ xs) ys h k = (h.0, other_append timer xs ys h.1 k)

other_reverse : (timer : Timer) (xs : List Key) → OtherThan timer xs → OtherThan timer (reverse xs)
other_reverse timer [] h = tt
other_reverse timer (x ∷ xs) h = rw (reverse-append (x ∷ []) xs) (other_append timer (reverse xs) (x ∷ []) (other_reverse timer xs h.1) (h.0, tt))

pub other_more : (xs : List Key) (place : ℕ) (y : Key) (timer : Timer) → slice_get xs place ≡ Some y → same_timer timer y.timer ≡ false → OtherThan timer (drop (suc place) xs) → OtherThan timer (drop place xs)
other_more xs place y timer e f h = subst (OtherThan timer) (sym (drop_at xs place y e)) (f, h)

-- none is the timer's among those that come before where it stands
other_before_by : (b : Bool) (key z : Key) → same_timer key.timer z.timer ≡ b → before z key ≡ true
    → (same_timer key.timer z.timer ≡ true → before z key ≡ false) → b ≡ false
other_before_by true key z e f h = let wrong : true ≡ false = sym f ∙ h e in cc
other_before_by false key z e f h = refl

other_before : (key : Key) (xs : List Key) → AllBefore key xs → NoneElse key xs → OtherThan key.timer xs
other_before key [] h k = tt
other_before key (z ∷ xs) h k = (other_before_by (same_timer key.timer z.timer) key z refl h.0 k.0, other_before key xs h.1 k.1)

else_left : (key : Key) (xs ys : List Key) → NoneElse key (xs ++ ys) → NoneElse key xs
else_left key [] ys h = tt
else_left key (x ∷ xs) ys h = (h.0, else_left key xs ys h.1)

pub other_behind : (key : Key) (xs : List Key) (place : ℕ) → AllBefore key (drop place xs) → NoneElse key (reverse xs) → OtherThan key.timer (drop place xs)
other_behind key xs place h k =
    let cut : reverse xs ≡ reverse (drop place xs) ++ reverse (take place xs) =
    sym (ap reverse (take-append-drop place xs)) ∙ reverse-append (take place xs) (drop place xs) in
    let parts = else_left key (reverse (drop place xs)) (reverse (take place xs)) (subst (NoneElse key) cut k) in
    let turned = other_before key (reverse (drop place xs)) (all_reverse key (drop place xs) h) parts in
    subst (OtherThan key.timer) (reverse-reverse (drop place xs)) (other_reverse key.timer (reverse (drop place xs)) turned)

-- where it is found, it alone goes
once_right : (xs ys : List Key) → OnceEach (xs ++ ys) → OnceEach ys
once_right [] ys h = h
once_right (x ∷ xs) ys h = once_right xs ys h.1

pub forgotten : (xs : List Key) (place : ℕ) (y : Key) (timer : Timer) → slice_get xs place ≡ Some y → y.timer ≡ timer → OtherThan timer (drop (suc place) xs)
    → OnceEach (reverse xs) → reverse (remove xs place) ≡ filter (is_other timer) (reverse xs)
forgotten xs place y timer e same h once =
    let front = take place xs in
    let back = drop (suc place) xs in
    let cut : xs ≡ front ++ y ∷ back = sym (take-append-drop place xs) ∙ ap (λ t. front ++ t) (drop_at xs place y e) in
    let turned : reverse xs ≡ reverse back ++ y ∷ reverse front =
    ap reverse cut ∙ (reverse-append front (y ∷ back) ∙ (ap (λ t. t ++ reverse front) (reverse-append (y ∷ []) back) ∙ append_assoc (reverse back) (y ∷ []) (reverse front))) in
    let alone = once_right (reverse back) (y ∷ reverse front) (subst OnceEach turned once) in
    let others = other_filter timer (reverse front) (subst (λ (t : Timer). OtherThan t (reverse front)) same alone.0) in
    let it : same_timer timer y.timer ≡ true = rw same (same_timer_self timer) in
    let head : filter (is_other timer) (y ∷ reverse front) ≡ reverse front = rw it others in
    reverse-append front back
    ∙ sym (ap (filter (is_other timer)) turned
    ∙ (filter-append (is_other timer) (reverse back) (y ∷ reverse front)
    ∙ (ap (λ t. t ++ filter (is_other timer) (y ∷ reverse front)) (other_filter timer (reverse back) (other_reverse timer back h))
    ∙ ap (λ t. reverse back ++ t) head)))

-- where it is not found, all stay
pub none_forgotten : (xs : List Key) (timer : Timer) → OtherThan timer (drop zero xs) → reverse xs ≡ filter (is_other timer) (reverse xs)
none_forgotten xs timer h = sym (other_filter timer (reverse xs) (other_reverse timer xs h))

none_filtered_by : (b : Bool) (o x : Key) (rest : List Key) → before x o ≡ false → NoneBefore o rest → NoneBefore o (if b then x ∷ rest else rest)
none_filtered_by true o x rest e h = (e, h)
none_filtered_by false o x rest e h = h

none_filtered : (p : Key → Bool) (o : Key) (ys : List Key) → NoneBefore o ys → NoneBefore o (filter p ys)
none_filtered p o [] h = tt
none_filtered p o (y ∷ ys) h = none_filtered_by (p y) o y (filter p ys) h.0 (none_filtered p o ys h.1)

filtered_by : (b : Bool) (x : Key) (rest : List Key) → NoneBefore x rest → InOrder rest → InOrder (if b then x ∷ rest else rest)
filtered_by true x rest h k = (h, k)
filtered_by false x rest h k = k

pub in_order_filtered : (p : Key → Bool) (ys : List Key) → InOrder ys → InOrder (filter p ys)
in_order_filtered p [] h = tt
in_order_filtered p (y ∷ ys) h = filtered_by (p y) y (filter p ys) (none_filtered p y ys h.0) (in_order_filtered p ys h.1)

pub in_order_others : (ys : List Key) → InOrder ys → InOrder (other_keys ys)
in_order_others [] h = tt
in_order_others (y ∷ ys) h = h.1

pub is_some_within : {X : Type 0} (xs : List X) (place : ℕ) → place < length xs → is_some (slice_get xs place) ≡ true
is_some_within [] place h = absurd (omega (arith, h))
is_some_within (x ∷ xs) zero h = refl
is_some_within (x ∷ xs) (suc place) h = is_some_within xs place (omega (arith, h))

pub on_some : {X : Type 0} (found : Option X) (P : Type 0) → is_some found ≡ true → OnSome found P → P
on_some None P e h = cc
on_some (Some x) P e h = h

-- with one element less there is one less
pub shorter : {X : Type 0} (xs : List X) (place : ℕ) → place < length xs → length (remove xs place) + 1 ≡ length xs
shorter [] place h = absurd (omega (arith, h))
shorter (x ∷ xs) zero h = omega arith
shorter (x ∷ xs) (suc place) h = let rest = shorter xs place (omega (arith, h)) in omega (arith, rest)
