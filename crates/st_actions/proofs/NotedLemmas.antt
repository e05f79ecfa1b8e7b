-- Elements of a list that are looked at one after another, for one that passes a test.
use Rattle.std.proofs.Common.{◌≡◌, ℕ, ◌+◌, ◌≤◌, ◌<◌, Bool, true, false, Some, None, List, refl, sym, ◌∙◌, length, take, get_or, ◌⊎◌, inl, inr, arith}
use Rattle.std.specs.Prelude.{slice_get, ◌||◌}
use Rattle.std.specs.List.{list_any}
use Rattle.std.specs.Option.{option_to_list}
use Rattle.std.proofs.lemmas.Bool.{true≢false}
use Rattle.std.proofs.lemmas.List.Folds.{list_any_more, list_any_at}
use Rattle.std.proofs.lemmas.Option.{slice_get_cases}

no_or : (first : Bool) → (first || false) ≡ false → first ≡ false
no_or true h = h
no_or false h = refl

or_false : (first : Bool) → (first || false) ≡ true → first ≡ true
or_false true h = refl
or_false false h = h

-- ---- an element that passes a test
module _ {X : Type 0} (passes : X → Bool) where
  -- one element more was looked at
  pub none_of_more : (elements : List X) (index : ℕ) → index < length elements → list_any passes (take index elements) ≡ false
      → list_any passes (option_to_list (slice_get elements index)) ≡ false
      → list_any passes (take (index + 1) elements) ≡ false
  none_of_more elements index within none one = more (slice_get_cases elements index).1 where
    more : ((element : X) × (index < length elements) × (slice_get elements index ≡ Some element) × (get_or elements index element ≡ element))
        ⊎ ((length elements ≤ index) × (slice_get elements index ≡ None))
        → list_any passes (take (index + 1) elements) ≡ false
    more (inl (element, there, found, read)) =
        list_any_more passes elements index element there ∙ rw (none, read) (no_or (passes element) (rw found at one))
    more (inr (past, nothing)) = absurd (omega (arith, within, past))

  -- one of them passes it
  pub one_of_them : (elements : List X) (index : ℕ) → list_any passes (option_to_list (slice_get elements index)) ≡ true
      → list_any passes elements ≡ true
  one_of_them elements index one = there (slice_get_cases elements index).1 where
    there : ((element : X) × (index < length elements) × (slice_get elements index ≡ Some element) × (get_or elements index element ≡ element))
        ⊎ ((length elements ≤ index) × (slice_get elements index ≡ None))
        → list_any passes elements ≡ true
    there (inl (element, within, found, read)) =
        list_any_at passes elements index element within (rw read (or_false (passes element) (rw found at one)))
    there (inr (past, nothing)) = absurd (true≢false (sym (rw nothing at one)))
