-- Places at which elements come and go.
use Rattle.std.proofs.Common.{◌≡◌, ℕ, zero, suc, true, false, set, get_or, nat_lt, IsTrue, ◌==◌, ◌↔◌, ◌<◌, ◌≤◌, ◌++◌, List, [], ◌∷◌, Option, Some, None, refl, sym, ap, ◌∙◌, map, reverse, take, length, append-nil, arith}
use Rattle.std.specs.Option.{option_to_list, option_flatten, IsSome, IsNone, IfNone}
use Rattle.std.specs.List.{refill}
use Rattle.std.specs.Prelude.{slice_get}
use Rattle.std.specs.Iterator.{YieldsFirst}
use Rattle.std.proofs.lemmas.List.{map-append, map-set, take-map, take_all, drop_all, length-map}
use Rattle.std.proofs.lemmas.List.Elements.{filter_map-append}
use Rattle.std.proofs.lemmas.Option.{slice_get_past, slice_get-get_or}
use Rattle.std.proofs.lemmas.Grind.{reverse_onto}
use Rattle.st_events.specs.Places.{present, IsFull}

-- the elements of places that are all taken
pub present-taken : {T : Type 0} (xs : List T) → present (map Some xs) ≡ xs
present-taken [] = refl
present-taken (x ∷ xs) = ap (λ t. x ∷ t) (present-taken xs)

pub full_from : {T : Type 0} (places : List (Option T)) (xs : List T) → places ≡ map Some xs → IsFull places
full_from places xs same = rw (same, present-taken xs) refl

-- one place more
pub present-more : {T : Type 0} (places : List (Option T)) (x : Option T) → present (places ++ x ∷ []) ≡ present places ++ option_to_list x
present-more places None = filter_map-append (λ place. place) places (None ∷ [])
present-more places (Some x) = filter_map-append (λ place. place) places (Some x ∷ [])

pub full-more : {T : Type 0} (places : List (Option T)) (x : T) → IsFull places → IsFull (places ++ Some x ∷ [])
full-more places x full = full_from _ (present places ++ x ∷ [])
    (ap (λ t. t ++ Some x ∷ []) full ∙ sym (map-append Some (present places) (x ∷ [])))

-- as many elements as places
pub full-length : {T : Type 0} (places : List (Option T)) → IsFull places → length places ≡ length (present places)
full-length places full = ap length full ∙ length-map (present places) Some

-- fewer places
pub full-take : {T : Type 0} (n : _) (places : List (Option T)) → IsFull places → IsFull (take n places)
full-take n places full = full_from _ (take n (present places)) (ap (λ t. take n t) full ∙ take-map Some n (present places))

-- the last place is not empty
no_empty_last : {T : Type 0} (places : List (Option T)) (xs : List T) → places ++ None ∷ [] ≡ map Some xs → ⊥
no_empty_last [] [] same = cc
no_empty_last [] (x ∷ xs) same = cc
no_empty_last (place ∷ places) [] same = cc
no_empty_last (place ∷ places) (x ∷ xs) same = no_empty_last places xs cc

pub last_is_taken : {T : Type 0} (places : List (Option T)) → IsFull (places ++ None ∷ []) → ⊥
last_is_taken places full = no_empty_last places _ full

-- one place fewer: what was taken out, and where it is nothing
pub present-fewer : {T : Type 0} (old new : List (Option T)) (taken : Option (Option T)) → old ≡ new ++ option_to_list taken
    → present old ≡ present new ++ option_to_list (option_flatten taken)
present-fewer old new None same = ap present same ∙ filter_map-append (λ place. place) new []
present-fewer old new (Some place) same = ap present same ∙ present-more new place

pub none_where_empty : {T : Type 0} (old new : List (Option T)) (taken : Option (Option T)) → IsFull old → old ≡ new ++ option_to_list taken
    → (0 < length old → IsSome taken) → IsNone (option_flatten taken) → present old ≡ []
none_where_empty [] new taken full same some none = refl
none_where_empty (place ∷ old) new None full same some none = let contrary = some (omega arith) in absurd cc
none_where_empty (place ∷ old) new (Some None) full same some none = absurd (last_is_taken new (rw (← same) full))
none_where_empty (place ∷ old) new (Some (Some x)) full same some none = absurd cc

pub empty_gives_none : {T : Type 0} (old new : List T) (taken : Option T) → old ≡ new ++ option_to_list taken → old ≡ [] → IsNone taken
empty_gives_none old new None same empty = refl
empty_gives_none old [] (Some x) same empty = absurd cc
empty_gives_none old (y ∷ new) (Some x) same empty = absurd cc

pub none_keeps : {T : Type 0} (old new : List T) (taken : Option T) → old ≡ new ++ option_to_list taken → IfNone taken (new ≡ old)
none_keeps old new None same = sym (same ∙ append-nil new)
none_keeps old new (Some x) same = tt

-- the first place is not empty
no_empty_first : {T : Type 0} (rest : List (Option T)) (xs : List T) → None ∷ rest ≡ map Some xs → ⊥
no_empty_first rest [] same = cc
no_empty_first rest (x ∷ xs) same = cc

-- there is no element where there is no place, and nowhere else
pub present-none : {T : Type 0} (places : List (Option T)) → IsFull places → IsTrue (length places == 0) ↔ (present places ≡ [])
present-none [] full = (λ _. refl, λ _. refl)
present-none (None ∷ places) full = absurd (no_empty_first places _ full)
present-none (Some x ∷ places) full =
    (λ some. let contrary : suc (length places) ≡ 0 = grind (arith, some) in absurd (omega (arith, contrary)), λ none. absurd (omega (arith, ap length none)))

-- the first element is taken out of its place: the other places are full, and hold what is left
pub full-rest : {T : Type 0} (places rest : List (Option T)) (first : Option T) → IsFull places → places ≡ first ∷ rest → IsFull rest
full-rest places rest None full same = absurd (no_empty_first rest _ (rw same at full))
full-rest places rest (Some x) full same = let whole = rw same at full in cc

pub present-first : {T : Type 0} (places rest : List (Option T)) (first : Option T) → IsFull places → places ≡ first ∷ rest
    → YieldsFirst (λ (left : List T). left) (present places) first (present rest)
present-first places rest None full same = absurd (no_empty_first rest _ (rw same at full))
present-first places rest (Some x) full same = ap present same

-- the places in the other order
reverse-map : {A B : Type 0} (f : A → B) (xs : List A) → reverse (map f xs) ≡ map f (reverse xs)
reverse-map f [] = refl
reverse-map f (x ∷ xs) = reverse_onto (map f xs) (f x) [] ∙ (ap (λ t. t ++ f x ∷ []) (reverse-map f xs)
    ∙ (sym (map-append f (reverse xs) (x ∷ [])) ∙ ap (map f) (sym (reverse_onto xs x []))))

-- places that were lent, turned round and written back, all of them
pub turned_round : {X : Type 0} (old lent new : List X) → lent ≡ old → length new ≡ length lent → new ≡ reverse lent
    → refill (length old) old new ≡ reverse old
turned_round old lent new same as_long turned =
    let whole = as_long ∙ ap length same in
    rw (drop_all (length new) old (omega (arith, whole)), append-nil new)
    (take_all (length old) new (omega (arith, whole)) ∙ (turned ∙ ap reverse same))

taken-reverse : {T : Type 0} (places : List (Option T)) → IsFull places → reverse places ≡ map Some (reverse (present places))
taken-reverse places full = ap reverse full ∙ reverse-map Some (present places)

pub full-reverse : {T : Type 0} (places : List (Option T)) → IsFull places → IsFull (reverse places)
full-reverse places full = full_from _ _ (taken-reverse places full)

pub present-reverse : {T : Type 0} (places : List (Option T)) → IsFull places → present (reverse places) ≡ reverse (present places)
present-reverse places full = ap present (taken-reverse places full) ∙ present-taken _

-- another element at a place
taken-set : {T : Type 0} (places : List (Option T)) (index : ℕ) (x : T) → IsFull places → set places index (Some x) ≡ map Some (set (present places) index x)
taken-set places index x full = ap (λ t. set t index (Some x)) full ∙ sym (map-set Some (present places) index x)

pub full-set : {T : Type 0} (places : List (Option T)) (index : ℕ) (x : T) → IsFull places → IsFull (set places index (Some x))
full-set places index x full = full_from _ _ (taken-set places index x full)

pub present-set : {T : Type 0} (places : List (Option T)) (index : ℕ) (x : T) → IsFull places → present (set places index (Some x)) ≡ set (present places) index x
present-set places index x full = ap present (taken-set places index x full) ∙ present-taken _

slice_get-map : {T : Type 0} (xs : List T) (index : ℕ) → option_flatten (slice_get (map Some xs) index) ≡ slice_get xs index
slice_get-map [] index = refl
slice_get-map (x ∷ xs) zero = refl
slice_get-map (x ∷ xs) (suc index) = slice_get-map xs index

pub present-get : {T : Type 0} (places : List (Option T)) (index : ℕ) → IsFull places → option_flatten (slice_get places index) ≡ slice_get (present places) index
present-get places index full = ap (λ t. option_flatten (slice_get t index)) full ∙ slice_get-map (present places) index

-- what a place holds that is there
pub held-at : {T : Type 0} (places : List (Option T)) (index : ℕ) (place : Option T) → index < length places → place ≡ get_or places index place
    → place ≡ option_flatten (slice_get places index)
held-at places index place inside at = ap option_flatten (sym (slice_get-get_or places index place inside ∙ ap Some (sym at)))

pub present-at : {T : Type 0} (places : List (Option T)) (index : ℕ) (place : Option T) → IsFull places → true ≡ nat_lt index (length places)
    → place ≡ get_or places index place → place ≡ slice_get (present places) index
present-at places index place full within at =
    let inside : index < length places = grind (arith, within) in
    held-at places index place inside at ∙ present-get places index full

-- there is nothing where there are not so many places
pub held-past : {T : Type 0} (places : List (Option T)) (index : ℕ) → length places ≤ index → None ≡ option_flatten (slice_get places index)
held-past places index behind = ap option_flatten (sym (slice_get_past places index behind))

pub present-past : {T : Type 0} (places : List (Option T)) (index : ℕ) → IsFull places → false ≡ nat_lt index (length places)
    → None ≡ slice_get (present places) index
present-past places index full past =
    let behind : length places ≤ index = grind (arith, past) in
    held-past places index behind ∙ present-get places index full
