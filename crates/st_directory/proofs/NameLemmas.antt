-- The names of a directory, with one more and with some less.
use Rattle.std.proofs.Common.{◌≡◌, ◌≢◌, ℕ, ◌<◌, ◌≤◌, true, false, Some, None, is_some, List, [], ◌∷◌, ◌++◌, All, refl, sym, ap, ◌∙◌, arith, inl, inr, bytes_eq}
use Rattle.std.proofs.lemmas.Bool.{cases_Bool}
use Rattle.std.proofs.lemmas.List.Elements.{All-cons, All-head, All-tail, All-nil, All-append}
use Rattle.std.proofs.lemmas.Slice.Eq.{bytes_eq-Decides}
use Rattle.st_events.specs.declared.machine_id.MachineId.{MachineId}
use Rattle.st_directory.specs.DirectoryState.{Named, same_id, id_in, without_name, without_names_of, with_value, without_value}
use Rattle.st_directory.specs.InOrder.{NamesStandOnce, NamesAnother, IdsNamedOnce, NamesOneOf, WasGiven}
use Rattle.st_directory.proofs.IdLemmas.{ids_flip, other_serial}
use Rattle.st_directory.proofs.ValueLemmas.{value_in-with_other, value_in-without_other, found_given}

-- names compare either way round
names_flip : (one other : List ℕ) → bytes_eq one other ≡ false → bytes_eq other one ≡ false
names_flip one other apart = elim (cases_Bool (bytes_eq other one)) [
  | inl same ↦
      let is : other ≡ one = (bytes_eq-Decides other one).0 same in
      let also : bytes_eq one other ≡ true = (bytes_eq-Decides one other).1 (sym is) in cc
  | inr differs ↦ differs
]

-- a name is the same as itself
same_name_self : (name : List ℕ) → bytes_eq name name ≡ true
same_name_self name = (bytes_eq-Decides name name).1 refl

-- ---- with one more
-- a name that is not there stays away
id_in-pushed : (name other : List ℕ) (id : MachineId) (names : List Named) → id_in name names ≡ None → bytes_eq name other ≡ false
    → id_in name (names ++ (other, id) ∷ []) ≡ None
id_in-pushed name other id [] none apart = rw apart refl
id_in-pushed name other id (first ∷ later) none apart = elim (cases_Bool (bytes_eq name first.0)) [
  | inl same ↦ let some = rw same at none in cc
  | inr differs ↦ rw differs (id_in-pushed name other id later (rw differs at none) apart)
]

-- the new name names its id
pub id_in-new : (name : List ℕ) (id : MachineId) (names : List Named) → id_in name names ≡ None → id_in name (names ++ (name, id) ∷ []) ≡ Some id
id_in-new name id [] none = rw (same_name_self name) refl
id_in-new name id (first ∷ later) none = elim (cases_Bool (bytes_eq name first.0)) [
  | inl same ↦ let some = rw same at none in cc
  | inr differs ↦ rw differs (id_in-new name id later (rw differs at none))
]

-- it is not the first, and none of the others
not_first : (name : List ℕ) (first : Named) (later : List Named) → id_in name (first ∷ later) ≡ None → (bytes_eq name first.0 ≡ false) × (id_in name later ≡ None)
not_first name first later none = elim (cases_Bool (bytes_eq name first.0)) [
  | inl same ↦ let some = rw same at none in cc
  | inr differs ↦ (differs, rw differs at none)
]

pub NamesStandOnce-pushed : (name : List ℕ) (id : MachineId) (names : List Named) → id_in name names ≡ None → NamesStandOnce names
    → NamesStandOnce (names ++ (name, id) ∷ [])
NamesStandOnce-pushed name id [] none once = (refl, tt)
NamesStandOnce-pushed name id (first ∷ later) none once =
    let parts = not_first name first later none in (
      id_in-pushed first.0 name id later once.0 (names_flip name first.0 parts.0),
      NamesStandOnce-pushed name id later parts.1 once.1,
    )

-- it is not this id that is named
abbrev pub IsApartFrom : MachineId → Named → Type 0
IsApartFrom id named = id ≢ named.1

-- no id is named twice, if the new one is not named yet
pub IdsNamedOnce-pushed : (name : List ℕ) (id : MachineId) (names : List Named) → All (IsApartFrom id) names → IdsNamedOnce names
    → IdsNamedOnce (names ++ (name, id) ∷ [])
IdsNamedOnce-pushed name id [] new once = (All-nil (NamesAnother id), tt)
IdsNamedOnce-pushed name id (first ∷ later) new once = (
  All-append (NamesAnother first.1) later ((name, id) ∷ []) once.0
      (All-cons (NamesAnother first.1) (name, id) [] (All-head (IsApartFrom id) first later new) (All-nil (NamesAnother first.1))),
  IdsNamedOnce-pushed name id later (All-tail (IsApartFrom id) first later new) once.1,
)

-- ---- with one less
pub All-without_name : (P : Named → Type 0) (name : List ℕ) (names : List Named) → All P names → All P (without_name name names)
All-without_name P name [] all = All-nil P
All-without_name P name (first ∷ later) all = elim (cases_Bool (bytes_eq name first.0)) [
  | inl this ↦ rw this (All-tail P first later all)
  | inr kept ↦ rw kept (All-cons P first (without_name name later) (All-head P first later all) (All-without_name P name later (All-tail P first later all)))
]

id_in-without_name : (name other : List ℕ) (names : List Named) → id_in other names ≡ None → id_in other (without_name name names) ≡ None
id_in-without_name name other [] none = refl
id_in-without_name name other (first ∷ later) none =
    let parts = not_first other first later none in
    elim (cases_Bool (bytes_eq name first.0)) [
      | inl this ↦ rw this parts.1
      | inr kept ↦ rw (kept, parts.0) (id_in-without_name name other later parts.1)
    ]

pub NamesStandOnce-without_name : (name : List ℕ) (names : List Named) → NamesStandOnce names → NamesStandOnce (without_name name names)
NamesStandOnce-without_name name [] once = tt
NamesStandOnce-without_name name (first ∷ later) once = elim (cases_Bool (bytes_eq name first.0)) [
  | inl this ↦ rw this once.1
  | inr kept ↦ rw kept (id_in-without_name name first.0 later once.0, NamesStandOnce-without_name name later once.1)
]

pub IdsNamedOnce-without_name : (name : List ℕ) (names : List Named) → IdsNamedOnce names → IdsNamedOnce (without_name name names)
IdsNamedOnce-without_name name [] once = tt
IdsNamedOnce-without_name name (first ∷ later) once = elim (cases_Bool (bytes_eq name first.0)) [
  | inl this ↦ rw this once.1
  | inr kept ↦ rw kept (All-without_name (NamesAnother first.1) name later once.0, IdsNamedOnce-without_name name later once.1)
]

-- ---- without those of an id
pub All-without_names_of : (P : Named → Type 0) (id : MachineId) (names : List Named) → All P names → All P (without_names_of id names)
All-without_names_of P id [] all = All-nil P
All-without_names_of P id (first ∷ later) all = elim (cases_Bool (same_id id first.1)) [
  | inl this ↦ rw this (All-without_names_of P id later (All-tail P first later all))
  | inr kept ↦ rw kept (All-cons P first (without_names_of id later) (All-head P first later all) (All-without_names_of P id later (All-tail P first later all)))
]

id_in-without_names_of : (id : MachineId) (other : List ℕ) (names : List Named) → id_in other names ≡ None → id_in other (without_names_of id names) ≡ None
id_in-without_names_of id other [] none = refl
id_in-without_names_of id other (first ∷ later) none =
    let parts = not_first other first later none in
    elim (cases_Bool (same_id id first.1)) [
      | inl this ↦ rw this (id_in-without_names_of id other later parts.1)
      | inr kept ↦ rw (kept, parts.0) (id_in-without_names_of id other later parts.1)
    ]

pub NamesStandOnce-without_names_of : (id : MachineId) (names : List Named) → NamesStandOnce names → NamesStandOnce (without_names_of id names)
NamesStandOnce-without_names_of id [] once = tt
NamesStandOnce-without_names_of id (first ∷ later) once = elim (cases_Bool (same_id id first.1)) [
  | inl this ↦ rw this (NamesStandOnce-without_names_of id later once.1)
  | inr kept ↦ rw kept (id_in-without_names_of id first.0 later once.0, NamesStandOnce-without_names_of id later once.1)
]

pub IdsNamedOnce-without_names_of : (id : MachineId) (names : List Named) → IdsNamedOnce names → IdsNamedOnce (without_names_of id names)
IdsNamedOnce-without_names_of id [] once = tt
IdsNamedOnce-without_names_of id (first ∷ later) once = elim (cases_Bool (same_id id first.1)) [
  | inl this ↦ rw this (IdsNamedOnce-without_names_of id later once.1)
  | inr kept ↦ rw kept (All-without_names_of (NamesAnother first.1) id later once.0, IdsNamedOnce-without_names_of id later once.1)
]

module _ {T : Type 0} where
  -- the names name what they named, where one value goes with its names
  pub names_there-without : (id : MachineId) (values : List (MachineId × T)) (names : List Named) → All (NamesOneOf values) names
      → All (NamesOneOf (without_value id values)) (without_names_of id names)
  names_there-without id values [] there = All-nil (NamesOneOf (without_value id values))
  names_there-without id values (first ∷ later) there = elim (cases_Bool (same_id id first.1)) [
    | inl this ↦ rw this (names_there-without id values later (All-tail (NamesOneOf values) first later there))
    | inr kept ↦
        let same = value_in-without_other id first.1 values (ids_flip first.1 id ∙ kept) in
        rw kept (All-cons (NamesOneOf (without_value id values)) first (without_names_of id later) (ap is_some same ∙ All-head (NamesOneOf values) first later there)
        (names_there-without id values later (All-tail (NamesOneOf values) first later there)))
  ]

  -- and where a value with a new serial comes in
  pub names_there-with : (id : MachineId) (value : T) (begun : ℕ) → begun < id.serial → (values : List (MachineId × T)) → All (WasGiven begun) values
      → (names : List Named) → All (NamesOneOf values) names → All (NamesOneOf (with_value id value values)) names
  names_there-with id value begun new values given [] there = All-nil (NamesOneOf (with_value id value values))
  names_there-with id value begun new values given (first ∷ later) there =
      let here = All-head (NamesOneOf values) first later there in
      let was : first.1.serial ≤ begun = found_given first.1 begun values given here in
      let same = value_in-with_other id first.1 value values (other_serial first.1 id (λ equal. omega (arith, equal, was, new))) in
      All-cons (NamesOneOf (with_value id value values)) first later (ap is_some same ∙ here)
      (names_there-with id value begun new values given later (All-tail (NamesOneOf values) first later there))

  -- the new id is not named yet
  pub not_named : (id : MachineId) (begun : ℕ) → begun < id.serial → (values : List (MachineId × T)) → All (WasGiven begun) values
      → (names : List Named) → All (NamesOneOf values) names → All (IsApartFrom id) names
  not_named id begun new values given [] there = All-nil (IsApartFrom id)
  not_named id begun new values given (first ∷ later) there =
      let was : first.1.serial ≤ begun = found_given first.1 begun values given (All-head (NamesOneOf values) first later there) in
      All-cons (IsApartFrom id) first later (λ equal. omega (arith, ap (λ (one : MachineId). one.serial) equal, was, new))
      (not_named id begun new values given later (All-tail (NamesOneOf values) first later there))
