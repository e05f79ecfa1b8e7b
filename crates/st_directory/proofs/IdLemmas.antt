-- Ids compared.
use Rattle.std.proofs.Common.{◌≡◌, ◌≢◌, ℕ, ◌+◌, ◌≤◌, Bool, true, false, ◌&&◌, ◌==◌, Some, List, slice_get, refl, sym, ap, ◌∙◌, arith, inl, inr, eqb-true}
use Rattle.std.proofs.lemmas.Bool.{cases_Bool, and_parts}
use Rattle.st_events.specs.declared.machine_id.MachineId.{MachineId}
use Rattle.st_directory.specs.DirectoryState.{same_id}

numbers_flip : (m n : ℕ) → (m == n) ≡ (n == m)
numbers_flip m n = grind arith

same_number : (n : ℕ) → (n == n) ≡ true
same_number n = grind arith

other_number : (m n : ℕ) → m ≢ n → (m == n) ≡ false
other_number m n h = grind arith

never_both : (b : Bool) → (b && false) ≡ false
never_both true = refl
never_both false = refl

-- ids compare either way round
pub ids_flip : (one other : MachineId) → same_id one other ≡ same_id other one
ids_flip one other = rw (numbers_flip one.slot other.slot, numbers_flip one.serial other.serial) refl

-- an id is the same as itself
pub same_id_self : (id : MachineId) → same_id id id ≡ true
same_id_self id = rw (same_number id.slot, same_number id.serial) refl

-- ids that are the same are equal
pub ids_same : (one other : MachineId) → same_id one other ≡ true → one ≡ other
ids_same one other h =
    let parts = and_parts (one.slot == other.slot) (one.serial == other.serial) h in
    let slots : one.slot ≡ other.slot = eqb-true one.slot other.slot parts.0 in
    let serials : one.serial ≡ other.serial = eqb-true one.serial other.serial parts.1 in
    ap (λ (n : ℕ). record one { slot = n }) slots ∙ ap (λ (n : ℕ). record other { serial = n }) serials

-- ids of different serials are not the same
pub other_serial : (one other : MachineId) → one.serial ≢ other.serial → same_id one other ≡ false
other_serial one other h = rw (other_number one.serial other.serial h) (never_both (one.slot == other.slot))

-- ids that are not equal are not the same
pub others_differ : (one other : MachineId) → one ≢ other → same_id one other ≡ false
others_differ one other differs = elim (cases_Bool (same_id one other)) [
  | inl same ↦ absurd (differs (ids_same one other same))
  | inr apart ↦ apart
]

later_than : (at vacancy : ℕ) → vacancy ≤ at → (at == vacancy) ≡ false → vacancy + 1 ≤ at
later_than at vacancy below differs = grind arith

-- where one is another, and all later ones are, all from it on are
pub others_from : (ids : List MachineId) (id first : MachineId) (vacancy : ℕ) → slice_get ids vacancy ≡ Some first → same_id id first ≡ false
    → ((at : ℕ) (other : MachineId) → vacancy + 1 ≤ at → slice_get ids at ≡ Some other → same_id id other ≡ false)
    → (at : ℕ) (other : MachineId) → vacancy ≤ at → slice_get ids at ≡ Some other → same_id id other ≡ false
others_from ids id first vacancy here differs later at other below there = elim (cases_Bool (at == vacancy)) [
  | inl same ↦
      let found : Some other ≡ Some first = sym there ∙ (ap (slice_get ids) (eqb-true at vacancy same) ∙ here) in
      let is : other ≡ first = cc in
      ap (same_id id) is ∙ differs
  | inr apart ↦ later at other (later_than at vacancy below apart) there
]
