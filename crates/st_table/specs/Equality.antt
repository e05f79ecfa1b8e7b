-- Equality of values: those that compare equal are one value. The laws that `==` owes stand here, where its impl can cite them.
use Rattle.std.proofs.Common.{◌≡◌, ℕ, Bool, true, false, refl, ap, ◌∙◌, sym}
use Rattle.std.specs.Prelude.{◌==◌, ◌&&◌}
use Rattle.std.specs.Bool.{Decides}
use Rattle.std.specs.Cmp.{IsEquivalence, IsPartialEquivalence, decided, partial_equiv_from_equiv}
use Rattle.std.proofs.lemmas.Bool.{false≢true, eqb-true, eq-eqb}
use Rattle.std.proofs.lemmas.Slice.Eq.{bytes_eq-Decides}
use Rattle.st_events.specs.declared.machine_id.MachineId.{MachineId}
use Rattle.st_events.specs.declared.tag.Tag.{Tag}
use Rattle.st_table.specs.declared.value.Value.{Value}
use Rattle.st_table.specs.declared.value.Value.TheVariants.{Nothing, Number, Call, Machine, Text}
use Rattle.st_table.specs.Values.{same_machine, same_tag, same_value}

both : (a b : Bool) → (a && b) ≡ true → (a ≡ true) × (b ≡ true)
both true b is = (refl, is)
both false b is = absurd (false≢true is)

joined : (a b : Bool) → a ≡ true → b ≡ true → (a && b) ≡ true
joined a b first second = ap (λ t. t && b) first ∙ second

-- ---- equal values are one

same_machine-is : (one other : MachineId) → same_machine one other ≡ true → one ≡ other
same_machine-is one other same =
    let parts = both (one.slot == other.slot) (one.serial == other.serial) same in
    let make : ℕ → ℕ → MachineId = λ slot serial. record { slot = slot; serial = serial } in
    ap (λ s. make s one.serial) (eqb-true one.slot other.slot parts.0) ∙ ap (λ s. make other.slot s) (eqb-true one.serial other.serial parts.1)

same_tag-is : (one other : Tag) → same_tag one other ≡ true → one ≡ other
same_tag-is one other same =
    let parts = both (same_machine one.machine other.machine) (one.request == other.request) same in
    let make : MachineId → ℕ → Tag = λ machine request. record { machine = machine; request = request } in
    ap (λ m. make m one.request) (same_machine-is one.machine other.machine parts.0) ∙ ap (λ r. make other.machine r) (eqb-true one.request other.request parts.1)

same_value-is : (one other : Value) → same_value one other ≡ true → one ≡ other
same_value-is Nothing Nothing same = refl
same_value-is (Number one) (Number other) same = ap Number (eqb-true one other same)
same_value-is (Call one) (Call other) same = ap Call (same_tag-is one other same)
same_value-is (Machine one) (Machine other) same = ap Machine (same_machine-is one other same)
same_value-is (Text one) (Text other) same = ap Text ((bytes_eq-Decides one other).0 same)
same_value-is one other same = absurd (false≢true same)

-- ---- a value is equal to itself

same_machine-itself : (id : MachineId) → same_machine id id ≡ true
same_machine-itself id = joined (id.slot == id.slot) (id.serial == id.serial) (eq-eqb id.slot id.slot refl) (eq-eqb id.serial id.serial refl)

same_value-itself : (value : Value) → same_value value value ≡ true
same_value-itself Nothing = refl
same_value-itself (Number number) = eq-eqb number number refl
same_value-itself (Call tag) = joined (same_machine tag.machine tag.machine) (tag.request == tag.request) (same_machine-itself tag.machine) (eq-eqb tag.request tag.request refl)
same_value-itself (Machine id) = same_machine-itself id
same_value-itself (Text text) = (bytes_eq-Decides text text).1 refl

same_value-Decides : (one other : Value) → Decides (same_value one other) (one ≡ other)
same_value-Decides one other = (same_value-is one other, λ is. ap (λ w. same_value one w) (sym is) ∙ same_value-itself one)

-- ---- so equality of values is an equivalence

pub values_equiv : IsEquivalence same_value
values_equiv = decided same_value same_value-Decides

pub values_per : IsPartialEquivalence same_value
values_per = partial_equiv_from_equiv values_equiv
