-- A request is taken out.
use Rattle.std.proofs.Common.{◌≡◌, ℕ, zero, suc, List, [], ◌∷◌, map, remove, slice_get, Some, sym, ap, ◌∙◌}
use Rattle.std.specs.Map.{keys_of, values_of}
use Rattle.indexmap.proofs.SetLemmas.{map-remove}
use Rattle.st_events.specs.declared.tag.Tag.{Tag}
use Rattle.st_collection.specs.declared.sent.Sent.{Sent}
use Rattle.st_collection.specs.Collection.{tag_of}

some_is : {X : Type 0} (one other : X) → Some one ≡ Some other → one ≡ other
some_is one other h = cc

-- ---- the entry at a place
module _ {K X : Type 0} where
  -- its value is that at the place
  pub value_at : (entries : List (K × X)) (place : ℕ) (entry : K × X) (x : X) → slice_get entries place ≡ Some entry → slice_get (values_of entries) place ≡ Some x
      → entry.1 ≡ x
  value_at [] place entry x there value = cc
  value_at (one ∷ others) zero entry x there value = let here : one ≡ entry = cc in rw (← here) (some_is one.1 x value)
  value_at (one ∷ others) (suc place) entry x there value = value_at others place entry x there value

module _ {Q L : Type 0} (tag_is : Q → Tag) where
  -- where one is removed, the keys are the tags again
  pub tags_without : (entries : List (Tag × Sent Q L)) (place : ℕ) → keys_of entries ≡ map (tag_of tag_is) (values_of entries)
      → keys_of (remove entries place) ≡ map (tag_of tag_is) (values_of (remove entries place))
  tags_without entries place tags =
      map-remove _ entries place ∙ (ap (λ (all : List Tag). remove all place) tags
      ∙ (sym (map-remove (tag_of tag_is) (values_of entries) place) ∙ ap (map (tag_of tag_is)) (sym (map-remove _ entries place))))
