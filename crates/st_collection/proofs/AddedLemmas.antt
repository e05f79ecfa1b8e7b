-- A request found by the place of its tag, which takes another label there, and one that is put behind the others.
use Rattle.std.proofs.Common.{◌≡◌, ℕ, zero, suc, ◌<◌, ◌≤◌, Bool, true, false, inl, inr, List, [], ◌∷◌, ◌++◌, length, map, position, slice_get, slice_index_or, nat_lt, Some, None, sym, refl, ap, ◌∙◌, arith}
use Rattle.std.specs.List.{position_or_len}
use Rattle.std.proofs.lemmas.Bool.{cases_Bool, ltb-false}
use Rattle.std.proofs.lemmas.List.{map-append}
use Rattle.std.proofs.lemmas.List.Quantifiers.{position-Some}
use Rattle.std.specs.Map.{keys_of, values_of}
use Rattle.indexmap.specs.IndexMap.{set_value_at, insert_entry}
use Rattle.st_events.specs.declared.tag.Tag.{Tag}
use Rattle.st_requests.specs.Requests.{same_tag}
use Rattle.st_collection.specs.declared.sent.Sent.{Sent}
use Rattle.st_collection.specs.Collection.{tag_of, place_of, added, with_label}

-- ---- the first element that passes a test
module _ {X : Type 0} (test : X → Bool) where
  -- at this place stands the first that passes
  abbrev pub IsFirstAt : List X → ℕ → Type 0
  IsFirstAt [] place = ⊥
  IsFirstAt (one ∷ others) zero = test one ≡ true
  IsFirstAt (one ∷ others) (suc place) = (test one ≡ false) × IsFirstAt others place

  first_by_place : (xs : List X) (place : ℕ) (d : X) → place < length xs → test (slice_index_or xs place d) ≡ true
      → ((k : ℕ) → k < place → test (slice_index_or xs k d) ≡ false) → IsFirstAt xs place
  first_by_place [] place d within here before = absurd (omega (arith, within))
  first_by_place (one ∷ others) zero d within here before = here
  first_by_place (one ∷ others) (suc place) d within here before =
      (before 0 (omega arith), first_by_place others place d (omega (arith, within)) here (λ k less. before (suc k) (omega (arith, less))))

  pub first_at : (xs : List X) (place : ℕ) (d : X) → position test xs ≡ Some place → IsFirstAt xs place
  first_at xs place d found = let parts = position-Some test xs place d found in first_by_place xs place d parts.0 parts.1 parts.2

  -- none passes
  abbrev pub NonePasses : List X → Type 0
  NonePasses [] = Unit {0}
  NonePasses (one ∷ others) = (test one ≡ false) × NonePasses others

  none_by_place : (xs : List X) → length xs ≤ position_or_len test xs → NonePasses xs
  none_by_place [] h = tt
  none_by_place (one ∷ others) h = elim (cases_Bool (test one)) [
    | inl passes ↦ let less = rw passes at h in absurd (omega (arith, less))
    | inr fails ↦ let more = rw fails at h in (fails, none_by_place others (omega (arith, more)))
  ]

  pub none_passes : (xs : List X) → position test xs ≡ None → NonePasses xs
  none_passes xs none = elim (cases_Bool (nat_lt (position_or_len test xs) (length xs))) [
    | inl less ↦ let some = rw less at none in cc
    | inr more ↦ none_by_place xs (ltb-false _ _ more)
  ]

module _ {Q L : Type 0} where
  -- ---- a label is put to a request
  -- what the values of the entries are after it
  pub values_set : (entries : List (Tag × Sent Q L)) (place : ℕ) (sent : Sent Q L) (label : L) → slice_get (values_of entries) place ≡ Some sent
      → values_of (set_value_at entries place (record sent { label = label })) ≡ with_label place label (values_of entries)
  values_set [] place sent label there = refl
  values_set (entry ∷ entries) zero sent label there =
      let here : entry.1 ≡ sent = cc in
      rw here refl
  values_set (entry ∷ entries) (suc place) sent label there =
      ap (λ (all : List (Sent Q L)). entry.1 ∷ all) (values_set entries place sent label there)

module _ {Q L : Type 0} (tag_is : Q → Tag) where
  -- the tags stay
  pub tags_stay : (place : ℕ) (label : L) (collection : List (Sent Q L)) → map (tag_of tag_is) (with_label place label collection) ≡ map (tag_of tag_is) collection
  tags_stay place label [] = refl
  tags_stay zero label (sent ∷ others) = refl
  tags_stay (suc place) label (sent ∷ others) = ap (λ (tags : List Tag). tag_is sent.request ∷ tags) (tags_stay place label others)

  label_at : (request : Q) (label : L) (collection : List (Sent Q L)) (place : ℕ) → IsFirstAt (same_tag (tag_is request)) (map (tag_of tag_is) collection) place
      → with_label place label collection ≡ added tag_is request label collection
  label_at request label [] place h = absurd h
  label_at request label (sent ∷ others) zero h = rw h refl
  label_at request label (sent ∷ others) (suc place) h = rw h.0 (ap (λ (all : List (Sent Q L)). sent ∷ all) (label_at request label others place h.1))

  -- where one of the tag is there, that one takes the label
  pub added_there : (request : Q) (label : L) (collection : List (Sent Q L)) (place : ℕ) → place_of tag_is (tag_is request) collection ≡ Some place
      → with_label place label collection ≡ added tag_is request label collection
  added_there request label collection place found =
      label_at request label collection place (first_at (same_tag (tag_is request)) (map (tag_of tag_is) collection) place (tag_is request) found)

  -- ---- a request is put behind the others
  put_behind : (request : Q) (label : L) (collection : List (Sent Q L)) → NonePasses (same_tag (tag_is request)) (map (tag_of tag_is) collection)
      → added tag_is request label collection ≡ collection ++ record { request = request; label = label } ∷ []
  put_behind request label [] h = refl
  put_behind request label (sent ∷ others) h = rw h.0 (ap (λ (all : List (Sent Q L)). sent ∷ all) (put_behind request label others h.1))

  entry_behind : (tag : Tag) (sent : Sent Q L) (entries : List (Tag × Sent Q L)) → NonePasses (same_tag tag) (keys_of entries)
      → insert_entry same_tag entries tag sent ≡ entries ++ (tag, sent) ∷ []
  entry_behind tag sent [] h = refl
  entry_behind tag sent (entry ∷ entries) h = rw h.0 (ap (λ (all : List (Tag × Sent Q L)). entry ∷ all) (entry_behind tag sent entries h.1))

  module _ (request : Q) (label : L) (entries new : List (Tag × Sent Q L)) (tags : keys_of entries ≡ map (tag_of tag_is) (values_of entries))
      (none : place_of tag_is (tag_is request) (values_of entries) ≡ None)
      (inserted : new ≡ insert_entry same_tag entries (tag_is request) (record { request = request; label = label })) where
    is_behind : new ≡ entries ++ (tag_is request, record { request = request; label = label }) ∷ []
    is_behind =
        inserted ∙ entry_behind (tag_is request) _ entries (none_passes (same_tag (tag_is request)) (keys_of entries) (ap (position (same_tag (tag_is request))) tags ∙ none))

    -- where none of the tag is there, it stands last
    pub added_new : values_of new ≡ added tag_is request label (values_of entries)
    added_new =
        ap values_of is_behind ∙ (map-append _ entries _
        ∙ sym (put_behind request label (values_of entries) (none_passes (same_tag (tag_is request)) (map (tag_of tag_is) (values_of entries)) none)))

    -- and the keys are the tags again
    pub tags_new : keys_of new ≡ map (tag_of tag_is) (values_of new)
    tags_new =
        let behind : List (Tag × Sent Q L) = (tag_is request, record { request = request; label = label }) ∷ [] in
        rw is_behind (map-append _ entries behind ∙ (ap (λ (all : List Tag). all ++ tag_is request ∷ []) tags
        ∙ (sym (map-append (tag_of tag_is) (values_of entries) (record { request = request; label = label } ∷ [])) ∙ ap (map (tag_of tag_is)) (sym (map-append _ entries behind)))))
