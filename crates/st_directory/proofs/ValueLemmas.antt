-- The values of a directory, with one more and with one less.
use Rattle.std.proofs.Common.{◌≡◌, ◌≢◌, ℕ, ◌+◌, ◌<◌, ◌≤◌, true, false, nat_lt, Some, None, is_some, List, [], ◌∷◌, length, All, refl, sym, ap, ◌∙◌, arith, inl, inr}
use Rattle.std.proofs.lemmas.Bool.{cases_Bool, ltb-true, ltb-false}
use Rattle.std.proofs.lemmas.List.Elements.{All-cons, All-head, All-tail, All-nil}
use Rattle.st_events.specs.declared.machine_id.MachineId.{MachineId}
use Rattle.st_directory.specs.DirectoryState.{same_id, value_in, with_value, without_value}
use Rattle.st_directory.specs.InOrder.{WasGiven, StandsBehind, StandsElsewhere, SlotsRise, HasAnotherSerial, SerialsStandOnce}
use Rattle.st_directory.proofs.IdLemmas.{ids_same, same_id_self, other_serial}

later_slot : (one other : ℕ) → one ≢ other → one ≤ other → one < other
later_slot one other differs no_less = grind arith

module _ {T : Type 0} where
  -- ---- with one more
  -- another id names what it named
  pub value_in-with_other : (id other : MachineId) (value : T) (values : List (MachineId × T)) → same_id other id ≡ false
      → value_in other (with_value id value values) ≡ value_in other values
  value_in-with_other id other value [] apart = rw apart refl
  value_in-with_other id other value (first ∷ later) apart = elim (cases_Bool (nat_lt id.slot first.0.slot)) [
    | inl before ↦ rw (before, apart) refl
    | inr behind ↦ elim (cases_Bool (same_id other first.0)) [
      | inl same ↦ rw (behind, same) refl
      | inr differs ↦ rw (behind, differs) (value_in-with_other id other value later apart)
    ]
  ]

  -- its id names it, if it named none
  pub value_in-with : (id : MachineId) (value : T) (values : List (MachineId × T)) → value_in id values ≡ None
      → value_in id (with_value id value values) ≡ Some value
  value_in-with id value [] none = rw (same_id_self id) refl
  value_in-with id value (first ∷ later) none = elim (cases_Bool (nat_lt id.slot first.0.slot)) [
    | inl before ↦ rw (before, same_id_self id) refl
    | inr behind ↦ elim (cases_Bool (same_id id first.0)) [
      | inl same ↦ let some = rw same at none in cc
      | inr differs ↦ rw (behind, differs) (value_in-with id value later (rw differs at none))
    ]
  ]

  -- what is so of the values, and of it, is so of all
  pub All-with_value : (P : MachineId × T → Type 0) (id : MachineId) (value : T) (values : List (MachineId × T)) → P (id, value) → All P values
      → All P (with_value id value values)
  All-with_value P id value [] this all = All-cons P (id, value) [] this (All-nil P)
  All-with_value P id value (first ∷ later) this all = elim (cases_Bool (nat_lt id.slot first.0.slot)) [
    | inl before ↦ rw before (All-cons P (id, value) (first ∷ later) this all)
    | inr behind ↦ rw behind (All-cons P first (with_value id value later) (All-head P first later all) (All-with_value P id value later this (All-tail P first later all)))
  ]

  pub length-with_value : (id : MachineId) (value : T) (values : List (MachineId × T)) → length (with_value id value values) ≡ length values + 1
  length-with_value id value [] = refl
  length-with_value id value (first ∷ later) = elim (cases_Bool (nat_lt id.slot first.0.slot)) [
    | inl before ↦ rw before (omega arith)
    | inr behind ↦ rw behind (omega (arith, length-with_value id value later))
  ]

  -- serials that were given are none that is new
  none_new : (serial begun : ℕ) → begun < serial → (values : List (MachineId × T)) → All (WasGiven begun) values
      → All (HasAnotherSerial serial) values
  none_new serial begun new [] given = All-nil (HasAnotherSerial serial)
  none_new serial begun new (first ∷ later) given =
      let was = All-head (WasGiven begun) first later given in
      All-cons (HasAnotherSerial serial) first later (λ same. omega (arith, same, was.1, new)) (none_new serial begun new later (All-tail (WasGiven begun) first later given))

  -- no serial stands twice, if the new one was not given
  pub SerialsStandOnce-with : (id : MachineId) (value : T) (begun : ℕ) → begun < id.serial → (values : List (MachineId × T)) → All (WasGiven begun) values
      → SerialsStandOnce values → SerialsStandOnce (with_value id value values)
  SerialsStandOnce-with id value begun new [] given once = (All-nil (HasAnotherSerial id.serial), tt)
  SerialsStandOnce-with id value begun new (first ∷ later) given once = elim (cases_Bool (nat_lt id.slot first.0.slot)) [
    | inl before ↦ rw before (none_new id.serial begun new (first ∷ later) given, once)
    | inr behind ↦
        let was = All-head (WasGiven begun) first later given in
        rw behind (
          All-with_value (HasAnotherSerial first.0.serial) id value later (λ same. omega (arith, same, was.1, new)) once.0,
          SerialsStandOnce-with id value begun new later (All-tail (WasGiven begun) first later given) once.1,
        )
  ]

  -- an id of a serial that no value has names none
  no_such : (id : MachineId) (values : List (MachineId × T)) → All (HasAnotherSerial id.serial) values → value_in id values ≡ None
  no_such id [] none = refl
  no_such id (first ∷ later) none =
      let apart = All-head (HasAnotherSerial id.serial) first later none in
      rw (other_serial id first.0 (λ same. apart (sym same))) (no_such id later (All-tail (HasAnotherSerial id.serial) first later none))

  -- an id of a serial that is new names none
  pub value_in-new : (id : MachineId) (begun : ℕ) → begun < id.serial → (values : List (MachineId × T)) → All (WasGiven begun) values → value_in id values ≡ None
  value_in-new id begun new values given = no_such id values (none_new id.serial begun new values given)

  -- what stands behind a slot stands behind an earlier one
  behind_all : (slot later : ℕ) → slot < later → (values : List (MachineId × T)) → All (StandsBehind later) values → All (StandsBehind slot) values
  behind_all slot later less [] behind = All-nil (StandsBehind slot)
  behind_all slot later less (first ∷ others) behind =
      let here : later < first.0.slot = All-head (StandsBehind later) first others behind in
      All-cons (StandsBehind slot) first others (omega (arith, less, here)) (behind_all slot later less others (All-tail (StandsBehind later) first others behind))

  -- slots rise, if the slot was vacant
  pub SlotsRise-with : (id : MachineId) (value : T) (values : List (MachineId × T)) → All (StandsElsewhere id.slot) values → SlotsRise values
      → SlotsRise (with_value id value values)
  SlotsRise-with id value [] vacant rise = (All-nil (StandsBehind id.slot), tt)
  SlotsRise-with id value (first ∷ later) vacant rise = elim (cases_Bool (nat_lt id.slot first.0.slot)) [
    | inl before ↦
        let less : id.slot < first.0.slot = ltb-true id.slot first.0.slot before in
        rw before (All-cons (StandsBehind id.slot) first later less (behind_all id.slot first.0.slot less later rise.0), rise)
    | inr behind ↦
        let other = All-head (StandsElsewhere id.slot) first later vacant in
        let less : first.0.slot < id.slot = later_slot first.0.slot id.slot other (ltb-false id.slot first.0.slot behind) in
        rw behind (
          All-with_value (StandsBehind first.0.slot) id value later less rise.0,
          SlotsRise-with id value later (All-tail (StandsElsewhere id.slot) first later vacant) rise.1,
        )
  ]

  -- ---- with one less
  pub value_in-without_other : (id other : MachineId) (values : List (MachineId × T)) → same_id other id ≡ false
      → value_in other (without_value id values) ≡ value_in other values
  value_in-without_other id other [] apart = refl
  value_in-without_other id other (first ∷ later) apart = elim (cases_Bool (same_id id first.0)) [
    | inl this ↦
        let is : id ≡ first.0 = ids_same id first.0 this in
        let not_first : same_id other first.0 ≡ false = ap (λ (one : MachineId). same_id other one) (sym is) ∙ apart in
        rw (this, not_first) refl
    | inr kept ↦ elim (cases_Bool (same_id other first.0)) [
      | inl same ↦ rw (kept, same) refl
      | inr differs ↦ rw (kept, differs) (value_in-without_other id other later apart)
    ]
  ]

  -- an id that named none names none
  pub none-without : (id other : MachineId) (values : List (MachineId × T)) → value_in other values ≡ None → value_in other (without_value id values) ≡ None
  none-without id other [] none = refl
  none-without id other (first ∷ later) none = elim (cases_Bool (same_id other first.0)) [
    | inl same ↦ let some = rw same at none in cc
    | inr differs ↦ elim (cases_Bool (same_id id first.0)) [
      | inl this ↦ rw this (rw differs at none)
      | inr kept ↦ rw (kept, differs) (none-without id other later (rw differs at none))
    ]
  ]

  pub All-without_value : (P : MachineId × T → Type 0) (id : MachineId) (values : List (MachineId × T)) → All P values → All P (without_value id values)
  All-without_value P id [] all = All-nil P
  All-without_value P id (first ∷ later) all = elim (cases_Bool (same_id id first.0)) [
    | inl this ↦ rw this (All-tail P first later all)
    | inr kept ↦ rw kept (All-cons P first (without_value id later) (All-head P first later all) (All-without_value P id later (All-tail P first later all)))
  ]

  pub length-without_value : (id : MachineId) (values : List (MachineId × T)) → length (without_value id values) ≤ length values
  length-without_value id [] = omega arith
  length-without_value id (first ∷ later) = elim (cases_Bool (same_id id first.0)) [
    | inl this ↦ rw this (omega arith)
    | inr kept ↦ rw kept (omega (arith, length-without_value id later))
  ]

  pub SlotsRise-without : (id : MachineId) (values : List (MachineId × T)) → SlotsRise values → SlotsRise (without_value id values)
  SlotsRise-without id [] rise = tt
  SlotsRise-without id (first ∷ later) rise = elim (cases_Bool (same_id id first.0)) [
    | inl this ↦ rw this rise.1
    | inr kept ↦ rw kept (All-without_value (StandsBehind first.0.slot) id later rise.0, SlotsRise-without id later rise.1)
  ]

  pub SerialsStandOnce-without : (id : MachineId) (values : List (MachineId × T)) → SerialsStandOnce values → SerialsStandOnce (without_value id values)
  SerialsStandOnce-without id [] once = tt
  SerialsStandOnce-without id (first ∷ later) once = elim (cases_Bool (same_id id first.0)) [
    | inl this ↦ rw this once.1
    | inr kept ↦ rw kept (All-without_value (HasAnotherSerial first.0.serial) id later once.0, SerialsStandOnce-without id later once.1)
  ]

  -- an id whose value is gone names none
  pub value_in-without : (id : MachineId) (values : List (MachineId × T)) → SerialsStandOnce values → value_in id (without_value id values) ≡ None
  value_in-without id [] once = refl
  value_in-without id (first ∷ later) once = elim (cases_Bool (same_id id first.0)) [
    | inl this ↦
        let is : id ≡ first.0 = ids_same id first.0 this in
        rw this (no_such id later (rw is once.0))
    | inr kept ↦ rw (kept, kept) (value_in-without id later once.1)
  ]

  -- an id that names a value was given
  pub found_given : (id : MachineId) (begun : ℕ) (values : List (MachineId × T)) → All (WasGiven begun) values → is_some (value_in id values) ≡ true → id.serial ≤ begun
  found_given id begun [] given some = cc
  found_given id begun (first ∷ later) given some = elim (cases_Bool (same_id id first.0)) [
    | inl this ↦
        let is : id ≡ first.0 = ids_same id first.0 this in
        let was = All-head (WasGiven begun) first later given in
        rw is was.1
    | inr apart ↦ found_given id begun later (All-tail (WasGiven begun) first later given) (rw apart at some)
  ]

  -- what was given at a count was given at a later one
  pub given-more : (begun more : ℕ) → begun ≤ more → (values : List (MachineId × T)) → All (WasGiven begun) values → All (WasGiven more) values
  given-more begun more less [] given = All-nil (WasGiven more)
  given-more begun more less (first ∷ later) given =
      let was = All-head (WasGiven begun) first later given in
      All-cons (WasGiven more) first later (was.0, omega (arith, was.1, less)) (given-more begun more less later (All-tail (WasGiven begun) first later given))
