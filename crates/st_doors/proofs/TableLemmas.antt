-- A table of doors as it lies in memory: what its search finds, and what changes at a place.
use Rattle.std.proofs.Common.{◌≡◌, ◌≢◌, ℕ, zero, suc, ◌<◌, ◌≤◌, false, nat_eq, List, [], ◌∷◌, length, get_or, set, map, find, slice_get, Some, None, Result, Ok, Err, IfSome, IfNone, refl, ap, sym, ◌∙◌, arith, inl, inr}
use Rattle.std.specs.List.{remove}
use Rattle.std.specs.List.Sorted.{IsSearchInRange, IsBinarySearchResult, IsNonDecreasingBy}
use Rattle.std.specs.Result.{result_ok}
use Rattle.std.specs.Ordering.{nat_cmp, ordering_index}
use Rattle.std.proofs.lemmas.Bool.{cases_Bool, eq-eqb, cases_lt}
use Rattle.std.proofs.lemmas.Bool.Decides.{nat_tests}
use Rattle.std.proofs.lemmas.Cmp.{ranked}
use Rattle.st_doors.specs.Doors.{KeptDoor, IsFirst}
use Rattle.st_doors.specs.Numbers.{Numbered, DoRise, has_number, without_number, unnumbered, kept_doors, with_door}
use Rattle.st_doors.proofs.NumberLemmas.{other_number}

-- a table of things that have an entry each
module _ {X A : Type 0} (entry_of : X → Numbered A) where
  abbrev pub number_in : X → ℕ
  number_in x = (entry_of x).0

  -- ---- what is at a place
  pub unnumbered-at : (xs : List X) (place : ℕ) (x : X) → place < length (map entry_of xs) → x ≡ get_or xs place x → slice_get (unnumbered (map entry_of xs)) place ≡ Some (entry_of x).1
  unnumbered-at [] place x within at = absurd (omega (arith, within))
  unnumbered-at (y ∷ ys) zero x within at = ap (λ (z : X). Some (entry_of z).1) (sym at)
  unnumbered-at (y ∷ ys) (suc place) x within at = unnumbered-at ys place x (omega (arith, within)) at

  pub kept-at : (xs : List X) (place : ℕ) (x : X) → place < length (map entry_of xs) → x ≡ get_or xs place x → slice_get (kept_doors (map entry_of xs)) place ≡ Some (entry_of x).1.1
  kept-at [] place x within at = absurd (omega (arith, within))
  kept-at (y ∷ ys) zero x within at = ap (λ (z : X). Some (entry_of z).1.1) (sym at)
  kept-at (y ∷ ys) (suc place) x within at = kept-at ys place x (omega (arith, within)) at

  -- another door at a place
  pub changed-at : (xs : List X) (place : ℕ) (x y : X) (door : KeptDoor) → place < length (map entry_of xs) → x ≡ get_or xs place x
      → entry_of y ≡ ((entry_of x).0, ((entry_of x).1.0, door)) → map entry_of (set xs place y) ≡ with_door (map entry_of xs) place door
  changed-at [] place x y door within at same = refl
  changed-at (z ∷ zs) zero x y door within at same =
      ap (λ t. t ∷ map entry_of zs) (same ∙ ap (λ (t : X). ((entry_of t).0, ((entry_of t).1.0, door))) at)
  changed-at (z ∷ zs) (suc place) x y door within at same = ap (λ t. entry_of z ∷ t) (changed-at zs place x y door (omega (arith, within)) at same)

  -- ---- numbers rise
  above-at : (from : ℕ) (xs : List X) (place : ℕ) (d : X) → DoRise from (map entry_of xs) → place < length xs → from ≤ number_in (get_or xs place d)
  above-at from [] place d rise within = absurd (omega (arith, within))
  above-at from (x ∷ xs) zero d rise within = rise.0
  above-at from (x ∷ xs) (suc place) d rise within =
      let rest : suc (number_in x) ≤ number_in (get_or xs place d) = above-at (suc (number_in x)) xs place d rise.1 (omega (arith, within)) in
      omega (arith, rise.0, rest)

  rise-at : (from : ℕ) (xs : List X) (i j : ℕ) (d : X) → DoRise from (map entry_of xs) → i ≤ j → j < length xs → number_in (get_or xs i d) ≤ number_in (get_or xs j d)
  rise-at from [] i j d rise before within = absurd (omega (arith, within))
  rise-at from (x ∷ xs) zero zero d rise before within = omega arith
  rise-at from (x ∷ xs) zero (suc j) d rise before within =
      let rest : suc (number_in x) ≤ number_in (get_or xs j d) = above-at (suc (number_in x)) xs j d rise.1 (omega (arith, within)) in
      omega (arith, rest)
  rise-at from (x ∷ xs) (suc i) zero d rise before within = absurd (omega (arith, before))
  rise-at from (x ∷ xs) (suc i) (suc j) d rise before within = rise-at (suc (number_in x)) xs i j d rise.1 (omega (arith, before)) (omega (arith, within))

  comparisons-rise : (xs : List X) (number : ℕ) → DoRise 0 (map entry_of xs) → IsNonDecreasingBy (λ x. ordering_index (nat_cmp (number_in x) number)) xs
  comparisons-rise xs number rise i j d before within =
      let less : number_in (get_or xs i d) ≤ number_in (get_or xs j d) = rise-at 0 xs i j d rise before within in
      grind (arith, nat_tests)

  -- ---- where a search ends
  -- at the entry of a number
  first-at : (from : ℕ) (xs : List X) (place : ℕ) (d : X) (number : ℕ) → DoRise from (map entry_of xs) → place < length xs → number_in (get_or xs place d) ≡ number
      → IsFirst (has_number number) (map entry_of xs) place
  first-at from [] place d number rise within same = absurd (omega (arith, within))
  first-at from (x ∷ xs) zero d number rise within same = eq-eqb number (number_in x) (sym same)
  first-at from (x ∷ xs) (suc place) d number rise within same =
      let least : suc (number_in x) ≤ number_in (get_or xs place d) = above-at (suc (number_in x)) xs place d rise.1 (omega (arith, within)) in
      (other_number number (number_in x) (omega (arith, least, same)), first-at (suc (number_in x)) xs place d number rise.1 (omega (arith, within)) same)

  -- where there is none
  none-at : (xs : List X) (number : ℕ) → ((place : ℕ) (d : X) → place < length xs → number_in (get_or xs place d) ≢ number) → find (has_number number) (map entry_of xs) ≡ None
  none-at [] number differ = refl
  none-at (x ∷ xs) number differ =
      let other : nat_eq number (number_in x) ≡ false = other_number number (number_in x) (λ same. differ 0 x (omega arith) (sym same)) in
      rw other (none-at xs number (λ place d within. differ (suc place) d (omega (arith, within))))

  pub searched : (xs : List X) (number : ℕ) (r : Result ℕ ℕ) → DoRise 0 (map entry_of xs) → IsSearchInRange r (length xs) → IsBinarySearchResult (λ x. nat_cmp (number_in x) number) xs r
      → record { found : IfSome (result_ok r) (IsFirst (has_number number) (map entry_of xs)); missing : IfNone (result_ok r) (find (has_number number) (map entry_of xs) ≡ None) }
  searched [] number (Ok place) rise within equal = absurd (omega (arith, within))
  searched (x ∷ xs) number (Ok place) rise within equal = record { found = first-at 0 (x ∷ xs) place x number rise within (ranked _ number _ (sym (equal x))); missing = tt }
  searched xs number (Err gap) rise within parted =
      let parts = parted (comparisons-rise xs number rise) in
      record {
        found = tt;
        missing = none-at xs number (λ place d less same. elim (cases_lt place gap) [
          | inl before ↦ let under : number_in (get_or xs place d) < number = ranked _ number _ (sym (parts.0 place d (omega arith) before)) in omega (arith, under, same)
          | inr behind ↦ let over : number < number_in (get_or xs place d) = ranked _ number _ (sym (parts.1 place d behind less)) in omega (arith, over, same)
        ]);
      }

  -- ---- an entry less
  pub removed-at : (xs : List X) (place number : ℕ) → IsFirst (has_number number) (map entry_of xs) place → map entry_of (remove xs place) ≡ without_number number (map entry_of xs)
  removed-at [] place number first = absurd first
  removed-at (x ∷ xs) zero number first = rw first refl
  removed-at (x ∷ xs) (suc place) number first = rw first.0 (ap (λ t. entry_of x ∷ t) (removed-at xs place number first.1))

  pub kept-whole : (xs : List X) (number : ℕ) → find (has_number number) (map entry_of xs) ≡ None → map entry_of xs ≡ without_number number (map entry_of xs)
  kept-whole xs number none = whole (map entry_of xs) none
    where
      whole : (es : List (Numbered A)) → find (has_number number) es ≡ None → es ≡ without_number number es
      whole [] none = refl
      whole (e ∷ es) none = elim (cases_Bool (has_number number e)) [
        | inl here ↦ let some = rw here at none in cc
        | inr other ↦ rw other (ap (λ t. e ∷ t) (whole es (rw other at none)))
      ]
