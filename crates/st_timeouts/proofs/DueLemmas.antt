-- The order in which time-outs are due: with one more, with fewer, and its first ones.
use Rattle.std.proofs.Common.{◌≡◌, Bool, true, false, if◌then◌else◌, List, [], ◌∷◌, ◌++◌, refl, sym, ap, ◌∙◌, arith}
use Rattle.std.specs.List.{filter}
use Rattle.st_timeouts.specs.declared.key.Key.{Key}
use Rattle.st_timeouts.specs.declared.running.Running.{Running}
use Rattle.st_timeouts.specs.Running.{is_before, put_in_order, in_order}
use Rattle.st_timeouts.specs.Keys.{before, put_key, ordered, put_late, AllBefore, NoneBefore, InOrder, key_of, keys_of}

-- ---- one before another
pub before_self : (x : Key) → before x x ≡ false
before_self x = grind arith

before_both : (x y z : Key) → before x y ≡ true → before y z ≡ true → before x z ≡ true
before_both x y z h k = grind (arith, h, k)

-- what does not come before one that does not come before a third does not come before the third
pub not_before_both : (x y z : Key) → before x y ≡ false → before y z ≡ false → before x z ≡ false
not_before_both x y z h k = grind (arith, h, k)

-- what comes before one comes before all that do not come before this one
before_step_by : (b : Bool) (x y z : Key) → before x y ≡ b → before x z ≡ true → before y z ≡ false → b ≡ true
before_step_by true x y z e h k = refl
before_step_by false x y z e h k = let wrong : true ≡ false = sym h ∙ not_before_both x y z e k in cc

before_step : (x y z : Key) → before x z ≡ true → before y z ≡ false → before x y ≡ true
before_step x y z h k = before_step_by (before x y) x y z refl h k

pub before_flips : (x y : Key) → before x y ≡ true → before y x ≡ false
before_flips x y h = grind (arith, h)

-- ---- one is set later than all others
late_by : (xy yo xo : Bool) (x y o : Key) (ys put late : List Key) → before x y ≡ xy → before y o ≡ yo → before x o ≡ xo
    → put_key x late ≡ put_late o put → put ≡ put_key x ys → late ≡ put_late o ys
    → put_key x (if yo then y ∷ late else o ∷ y ∷ ys) ≡ put_late o (if xy then x ∷ y ∷ ys else y ∷ put)
late_by true true true x y o ys put late e f g h i j = rw (e, g, f, j) refl
late_by true true false x y o ys put late e f g h i j = let wrong : true ≡ false = sym (before_both x y o e f) ∙ g in cc
late_by true false true x y o ys put late e f g h i j = rw (g, f) refl
late_by true false false x y o ys put late e f g h i j = rw (g, e) refl
late_by false true xo x y o ys put late e f g h i j = rw (e, f) (ap (λ t. y ∷ t) h)
late_by false false true x y o ys put late e f g h i j = let wrong : true ≡ false = sym (before_step x y o g f) ∙ e in cc
late_by false false false x y o ys put late e f g h i j = rw (g, e, f, i) refl

late_or : (b : Bool) (x o : Key) → before x o ≡ b → put_key x (o ∷ []) ≡ put_late o (x ∷ [])
late_or true x o e = rw e refl
late_or false x o e = rw e refl

put_late_put : (x o : Key) (ys : List Key) → put_key x (put_late o ys) ≡ put_late o (put_key x ys)
put_late_put x o [] = late_or (before x o) x o refl
put_late_put x o (y ∷ ys) =
    late_by (before x y) (before y o) (before x o) x y o ys (put_key x ys) (put_late o ys) refl refl refl (put_late_put x o ys) refl refl

pub ordered_more : (xs : List Key) (o : Key) → ordered (xs ++ o ∷ []) ≡ put_late o (ordered xs)
ordered_more [] o = refl
ordered_more (x ∷ xs) o = ap (put_key x) (ordered_more xs o) ∙ put_late_put x o (ordered xs)

-- its place is behind all that come before it, and in front of all that do not
put_late_first : (o : Key) (ys : List Key) → NoneBefore o ys → put_late o ys ≡ o ∷ ys
put_late_first o [] h = refl
put_late_first o (y ∷ ys) h = rw h.0 refl

pub put_late_at : (o : Key) (xs ys : List Key) → AllBefore o xs → NoneBefore o ys → put_late o (xs ++ ys) ≡ xs ++ o ∷ ys
put_late_at o [] ys h k = put_late_first o ys k
put_late_at o (x ∷ xs) ys h k = rw h.0 (ap (λ t. x ∷ t) (put_late_at o xs ys h.1 k))

-- ---- it is in order
none_put : (b : Bool) (o x y : Key) (ys put : List Key) → before x o ≡ false → NoneBefore o (y ∷ ys) → NoneBefore o put
    → NoneBefore o (if b then x ∷ y ∷ ys else y ∷ put)
none_put true o x y ys put e h k = (e, h)
none_put false o x y ys put e h k = (h.0, k)

none_before_put : (o x : Key) (ys : List Key) → before x o ≡ false → NoneBefore o ys → NoneBefore o (put_key x ys)
none_before_put o x [] e h = (e, tt)
none_before_put o x (y ∷ ys) e h = none_put (before x y) o x y ys (put_key x ys) e h (none_before_put o x ys e h.1)

-- what does not come before one does not come before one that is before this one
none_earlier : (x y : Key) (ys : List Key) → before x y ≡ true → NoneBefore y ys → NoneBefore x ys
none_earlier x y [] e h = tt
none_earlier x y (z ∷ ys) e h = (not_before_both z y x h.0 (before_flips x y e), none_earlier x y ys e h.1)

in_order_by : (b : Bool) (x y : Key) (ys : List Key) → before x y ≡ b → InOrder (y ∷ ys) → InOrder (put_key x ys)
    → InOrder (if b then x ∷ y ∷ ys else y ∷ put_key x ys)
in_order_by true x y ys e h k = ((before_flips x y e, none_earlier x y ys e h.0), h)
in_order_by false x y ys e h k = (none_before_put y x ys e h.0, k)

put_in_order_is : (x : Key) (ys : List Key) → InOrder ys → InOrder (put_key x ys)
put_in_order_is x [] h = (tt, tt)
put_in_order_is x (y ∷ ys) h = in_order_by (before x y) x y ys refl h (put_in_order_is x ys h.1)

pub ordered_is : (xs : List Key) → InOrder (ordered xs)
ordered_is [] = tt
ordered_is (x ∷ xs) = put_in_order_is x (ordered xs) (ordered_is xs)

-- ---- fewer of them
none_filtered_by : (b : Bool) (o x : Key) (rest : List Key) → before x o ≡ false → NoneBefore o rest → NoneBefore o (if b then x ∷ rest else rest)
none_filtered_by true o x rest e h = (e, h)
none_filtered_by false o x rest e h = h

none_filtered : (p : Key → Bool) (o : Key) (ys : List Key) → NoneBefore o ys → NoneBefore o (filter p ys)
none_filtered p o [] h = tt
none_filtered p o (y ∷ ys) h = none_filtered_by (p y) o y (filter p ys) h.0 (none_filtered p o ys h.1)

-- in front of all of them it comes first
put_first : (x y : Key) (ys : List Key) → before x y ≡ true → NoneBefore y ys → put_key x ys ≡ x ∷ ys
put_first x y [] e h = refl
put_first x y (z ∷ ys) e h = let front : before x z ≡ true = before_step x z y e h.0 in rw front refl

filter_put_by : (px py xy : Bool) (p : Key → Bool) (x y : Key) (ys : List Key) → p x ≡ px → p y ≡ py → before x y ≡ xy → NoneBefore y ys
    → filter p (put_key x ys) ≡ (if px then put_key x (filter p ys) else filter p ys)
    → filter p (if xy then x ∷ y ∷ ys else y ∷ put_key x ys)
    ≡ (if px then put_key x (if py then y ∷ filter p ys else filter p ys) else (if py then y ∷ filter p ys else filter p ys))
filter_put_by true true true p x y ys e f g h i = rw (e, f, g) refl
filter_put_by true false true p x y ys e f g h i = rw (e, f, put_first x y (filter p ys) g (none_filtered p y ys h)) refl
filter_put_by false true true p x y ys e f g h i = rw (e, f) refl
filter_put_by false false true p x y ys e f g h i = rw (e, f) refl
filter_put_by true true false p x y ys e f g h i = rw (f, g) (ap (λ t. y ∷ t) i)
filter_put_by true false false p x y ys e f g h i = rw f i
filter_put_by false true false p x y ys e f g h i = rw f (ap (λ t. y ∷ t) i)
filter_put_by false false false p x y ys e f g h i = rw f i

filter_put : (p : Key → Bool) (x : Key) (ys : List Key) → InOrder ys
    → filter p (put_key x ys) ≡ (if p x then put_key x (filter p ys) else filter p ys)
filter_put p x [] h = refl
filter_put p x (y ∷ ys) h = filter_put_by (p x) (p y) (before x y) p x y ys refl refl refl h.0 (filter_put p x ys h.1)

ordered_if : (b : Bool) (x : Key) (xs : List Key) → ordered (if b then x ∷ xs else xs) ≡ (if b then put_key x (ordered xs) else ordered xs)
ordered_if true x xs = refl
ordered_if false x xs = refl

pub ordered_filter : (p : Key → Bool) (xs : List Key) → ordered (filter p xs) ≡ filter p (ordered xs)
ordered_filter p [] = refl
ordered_filter p (x ∷ xs) =
    ordered_if (p x) x (filter p xs)
    ∙ (ap (λ t. if p x then put_key x t else t) (ordered_filter p xs) ∙ sym (filter_put p x (ordered xs) (ordered_is xs)))

-- ---- with their contents they are in the same order
module _ {C : Type 0} where
  keys_put_by : (b : Bool) (one other : Running C) (others put : List (Running C)) → keys_of put ≡ put_key (key_of one) (keys_of others)
      → keys_of (if b then one ∷ other ∷ others else other ∷ put)
      ≡ (if b then key_of one ∷ key_of other ∷ keys_of others else key_of other ∷ put_key (key_of one) (keys_of others))
  keys_put_by true one other others put h = refl
  keys_put_by false one other others put h = ap (λ t. key_of other ∷ t) h

  keys_put : (one : Running C) (others : List (Running C)) → keys_of (put_in_order one others) ≡ put_key (key_of one) (keys_of others)
  keys_put one [] = refl
  keys_put one (other ∷ others) = keys_put_by (is_before one other) one other others (put_in_order one others) (keys_put one others)

  pub keys_in_order : (running : List (Running C)) → keys_of (in_order running) ≡ ordered (keys_of running)
  keys_in_order [] = refl
  keys_in_order (one ∷ running) = keys_put one (in_order running) ∙ ap (put_key (key_of one)) (keys_in_order running)
