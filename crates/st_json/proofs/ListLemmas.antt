-- How the array of a list grows by an item.
use Rattle.std.proofs.Common.{◌≡◌, ℕ, zero, suc, ◌+◌, ◌<◌, List, [], ◌∷◌, ◌++◌, Some, None, length, take, map, slice_get, sym, ap, ◌∙◌, arith}
use Rattle.std.proofs.lemmas.List.{map-append, take_more}
use Rattle.std.proofs.lemmas.Option.{get_or_from_slice_get}
use Rattle.serde_json.specs.Data.{Data}

module _ {T : Type 0} where
  -- an element is at each place within
  pub some_there : (elements : List T) (place : ℕ) → place < length elements → None ≡ slice_get elements place → ⊥
  some_there [] place within none = omega arith
  some_there (first ∷ elements) zero within none = cc
  some_there (first ∷ elements) (suc place) within none = some_there elements place (omega arith) none

  -- one item more
  pub one_item_more : (data_of : T → Data) (elements : List T) (place : ℕ) (element : T) (before after : List Data) → place < length elements
      → Some element ≡ slice_get elements place → before ≡ map data_of (take place elements) → after ≡ before ++ data_of element ∷ []
      → after ≡ map data_of (take (place + 1) elements)
  one_item_more data_of elements place element before after within found so_far grows =
      let there = get_or_from_slice_get elements place element element (sym found) in
      let more = take_more elements place element within ∙ ap (λ e. take place elements ++ e ∷ []) there in
      grows ∙ ap (λ l. l ++ data_of element ∷ []) so_far ∙ sym (map-append data_of (take place elements) (element ∷ [])) ∙ ap (map data_of) (sym more)
