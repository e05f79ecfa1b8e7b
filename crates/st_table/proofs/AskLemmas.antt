-- What one ask more asks for.
use Rattle.std.proofs.Common.{◌≡◌, ℕ, ◌+◌, ◌<◌, List, [], ◌∷◌, ◌++◌, length, get_or, take, Option, Some, None, refl, ap, ◌∙◌}
use Rattle.std.specs.List.{filter_map, cons_option}
use Rattle.std.specs.Option.{option_to_list}
use Rattle.std.proofs.lemmas.List.{take_more}
use Rattle.std.proofs.lemmas.List.Elements.{filter_map-append}

-- an option as a list, in two words
as_cons : {Y : Type 0} (o : Option Y) → option_to_list o ≡ cons_option o []
as_cons None = refl
as_cons (Some y) = refl

-- of one element more, what it gives is behind what the others give
pub one_more : {X Y : Type 0} (h : X → Option Y) (xs : List X) (i : ℕ) (x : X) (ys zs : List Y) (o : Option Y) → i < length xs → x ≡ get_or xs i x → ys ≡ filter_map h (take i xs) → o ≡ h x → zs ≡ ys ++ option_to_list o → zs ≡ filter_map h (take (i + 1) xs)
one_more h xs i x ys zs o in_range read so_far gives pushed =
    let a : take (i + 1) xs ≡ take i xs ++ get_or xs i x ∷ [] = take_more xs i x in_range in
    let b : filter_map h (take i xs ++ x ∷ []) ≡ filter_map h (take i xs) ++ filter_map h (x ∷ []) = filter_map-append h (take i xs) (x ∷ []) in
    let c : option_to_list o ≡ filter_map h (x ∷ []) = as_cons o ∙ ap (λ p. cons_option p []) gives in
    cc
