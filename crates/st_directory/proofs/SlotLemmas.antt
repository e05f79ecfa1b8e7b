-- The slots of a slab, and the values under their ids.
use Rattle.std.proofs.Common.{◌≡◌, ◌≢◌, ℕ, zero, suc, ◌+◌, ◌<◌, ◌≤◌, true, false, ◌==◌, nat_lt, if◌then◌else◌, Option, Some, None, is_some, cond, count_by, List, [], ◌∷◌, length, get_or, map, set, All, refl, sym, ap, ◌∙◌, arith, inl, inr, eqb-true}
use Rattle.std.proofs.lemmas.Bool.{cases_Bool}
use Rattle.std.specs.Borrow.{Bor}
use Rattle.std.specs.Option.{option_copied}
use Rattle.std.proofs.lemmas.List.Elements.{All-cons, All-nil}
use Rattle.std.proofs.lemmas.List.Sums.{sum_by-cons}
use Rattle.st_events.specs.declared.machine_id.MachineId.{MachineId}
use Rattle.st_directory.specs.declared.values.Stored.{Stored}
use Rattle.st_directory.specs.DirectoryState.{same_id, value_in, with_value, without_value}
use Rattle.st_directory.specs.InOrder.{StandsElsewhere}
use Rattle.st_directory.specs.Slots.{id_at, ids_of, values_from}
use Rattle.slab.specs.Slab.{entries_from}

-- ---- numbers compared
is_less : (m n : ℕ) → m < n → nat_lt m n ≡ true
is_less m n h = grind arith

is_no_less : (m n : ℕ) → n ≤ m → nat_lt m n ≡ false
is_no_less m n h = grind arith

is_same : (m n : ℕ) → m ≡ n → (m == n) ≡ true
is_same m n h = grind arith

is_other : (m n : ℕ) → m ≢ n → (m == n) ≡ false
is_other m n h = grind arith

-- an id of another slot is another
other_slot : (id : MachineId) (slot serial : ℕ) → id.slot ≢ slot → same_id id (id_at slot serial) ≡ false
other_slot id slot serial h = rw (is_other id.slot slot h) refl

-- at one slot the serials decide
same_slot : (id : MachineId) (slot serial : ℕ) → id.slot ≡ slot → same_id id (id_at slot serial) ≡ (id.serial == serial)
same_slot id slot serial h = rw (is_same id.slot slot h) refl

-- a value that is there is there as a copy
pub some_copied : {T : Type 0} (one : Option (Bor T)) (other : Option T) → option_copied one ≡ other → is_some one ≡ true → is_some other ≡ true
some_copied None other copied h = cc
some_copied (Some x) other copied h = ap is_some (sym copied)

module _ {T : Type 0} where
  -- as many values as slots that have one
  pub length-values_from : (slot : ℕ) (slots : List (Option (Stored T))) → length (values_from slot slots) ≡ count_by is_some slots
  length-values_from slot [] = refl
  length-values_from slot (None ∷ later) = omega (arith, length-values_from (slot + 1) later, sum_by-cons (λ o. cond (is_some o) 1 0) None later)
  length-values_from slot (Some stored ∷ later) = omega (arith, length-values_from (slot + 1) later, sum_by-cons (λ o. cond (is_some o) 1 0) (Some stored) later)

  -- slots that hold the same have the same values
  same_values : (slot : ℕ) (old new : List (Option (Stored T))) → ((at : ℕ) → get_or new at None ≡ get_or old at None)
      → values_from slot new ≡ values_from slot old
  same_values slot [] [] same = refl
  same_values slot [] (None ∷ news) same = same_values (slot + 1) [] news (λ at. same (suc at))
  same_values slot [] (Some stored ∷ news) same = let first = same zero in cc
  same_values slot (None ∷ olds) [] same = same_values (slot + 1) olds [] (λ at. same (suc at))
  same_values slot (Some stored ∷ olds) [] same = let first = same zero in cc
  same_values slot (None ∷ olds) (None ∷ news) same = same_values (slot + 1) olds news (λ at. same (suc at))
  same_values slot (None ∷ olds) (Some stored ∷ news) same = let first = same zero in cc
  same_values slot (Some stored ∷ olds) (None ∷ news) same = let first = same zero in cc
  same_values slot (Some was ∷ olds) (Some stored ∷ news) same =
      let first = same zero in
      let is : stored ≡ was = cc in
      rw is (ap (λ (later : List (MachineId × T)). (id_at slot was.serial, was.value) ∷ later) (same_values (slot + 1) olds news (λ at. same (suc at))))

  -- a value of a lower slot goes first
  goes_first : (id : MachineId) (value : T) (slot : ℕ) (slots : List (Option (Stored T))) → id.slot < slot
      → with_value id value (values_from slot slots) ≡ (id, value) ∷ values_from slot slots
  goes_first id value slot [] less = refl
  goes_first id value slot (None ∷ later) less = goes_first id value (slot + 1) later (omega (arith, less))
  goes_first id value slot (Some stored ∷ later) less = rw (is_less id.slot slot less) refl

  -- a vacant slot gets a value, and no other slot changes
  pub values_from-put : (slot at key : ℕ) (old new : List (Option (Stored T))) (stored : Stored T) → key ≡ slot + at
      → get_or old at None ≡ None → get_or new at None ≡ Some stored
      → ((other : ℕ) → other ≢ at → get_or new other None ≡ get_or old other None)
      → values_from slot new ≡ with_value (id_at key stored.serial) stored.value (values_from slot old)
  values_from-put slot at key old [] stored is vacant put others = cc
  values_from-put slot zero key [] (first ∷ news) stored is vacant put others =
      let here : key ≡ slot = omega (arith, is) in
      let rest : values_from (slot + 1) news ≡ values_from (slot + 1) [] = same_values (slot + 1) [] news (λ at. others (suc at) (omega arith)) in
      rw (put, here, rest) refl
  values_from-put slot zero key (was ∷ olds) (first ∷ news) stored is vacant put others =
      let here : key ≡ slot = omega (arith, is) in
      let rest : values_from (slot + 1) news ≡ values_from (slot + 1) olds = same_values (slot + 1) olds news (λ at. others (suc at) (omega arith)) in
      let less : slot < slot + 1 = omega arith in
      rw (put, vacant, here, rest, goes_first (id_at slot stored.serial) stored.value (slot + 1) olds less) refl
  values_from-put slot (suc at) key [] (None ∷ news) stored is vacant put others =
      values_from-put (slot + 1) at key [] news stored (omega (arith, is)) refl put (λ other differs. others (suc other) (λ same. differs (omega (arith, same))))
  values_from-put slot (suc at) key [] (Some first ∷ news) stored is vacant put others =
      let none = others zero (omega arith) in cc
  values_from-put slot (suc at) key (None ∷ olds) (None ∷ news) stored is vacant put others =
      values_from-put (slot + 1) at key olds news stored (omega (arith, is)) vacant put (λ other differs. others (suc other) (λ same. differs (omega (arith, same))))
  values_from-put slot (suc at) key (None ∷ olds) (Some first ∷ news) stored is vacant put others =
      let none = others zero (omega arith) in cc
  values_from-put slot (suc at) key (Some was ∷ olds) (None ∷ news) stored is vacant put others =
      let none = others zero (omega arith) in cc
  values_from-put slot (suc at) key (Some was ∷ olds) (Some first ∷ news) stored is vacant put others =
      let kept = others zero (omega arith) in
      let here : first ≡ was = cc in
      let later = values_from-put (slot + 1) at key olds news stored (omega (arith, is)) vacant put (λ other differs. others (suc other) (λ same. differs (omega (arith, same)))) in
      let more : slot ≤ key = omega (arith, is) in
      rw (here, is_no_less key slot more) (ap (λ (rest : List (MachineId × T)). (id_at slot was.serial, was.value) ∷ rest) later)

  -- a slot loses its value
  pub values_from-cleared : (slot at : ℕ) (id : MachineId) (slots : List (Option (Stored T))) (stored : Stored T) → id.slot ≡ slot + at
      → get_or slots at None ≡ Some stored → id.serial ≡ stored.serial
      → values_from slot (set slots at None) ≡ without_value id (values_from slot slots)
  values_from-cleared slot at id [] stored is held serial = cc
  values_from-cleared slot zero id (first ∷ later) stored is held serial =
      rw (held, same_slot id slot stored.serial (omega (arith, is)), is_same id.serial stored.serial serial) refl
  values_from-cleared slot (suc at) id (None ∷ later) stored is held serial =
      values_from-cleared (slot + 1) at id later stored (omega (arith, is)) held serial
  values_from-cleared slot (suc at) id (Some first ∷ later) stored is held serial =
      rw (other_slot id slot first.serial (λ same. omega (arith, is, same)))
      (ap (λ (rest : List (MachineId × T)). (id_at slot first.serial, first.value) ∷ rest) (values_from-cleared (slot + 1) at id later stored (omega (arith, is)) held serial))

  -- the value of a slot, where it has this serial
  abbrev pub value_if : ℕ → Option (Stored T) → Option T
  value_if serial None = None
  value_if serial (Some stored) = if serial == stored.serial then Some stored.value else None

  -- no later slot has an id of a lower one
  none_later : (id : MachineId) (slot : ℕ) (slots : List (Option (Stored T))) → id.slot < slot → value_in id (values_from slot slots) ≡ None
  none_later id slot [] less = refl
  none_later id slot (None ∷ later) less = none_later id (slot + 1) later (omega (arith, less))
  none_later id slot (Some stored ∷ later) less =
      rw (other_slot id slot stored.serial (λ same. omega (arith, less, same))) (none_later id (slot + 1) later (omega (arith, less)))

  -- the value of an id is that of its slot, if it has its serial
  pub value_in-values_from : (slot at : ℕ) (id : MachineId) (slots : List (Option (Stored T))) → id.slot ≡ slot + at
      → value_in id (values_from slot slots) ≡ value_if id.serial (get_or slots at None)
  value_in-values_from slot at id [] is = refl
  value_in-values_from slot zero id (None ∷ later) is = none_later id (slot + 1) later (omega (arith, is))
  value_in-values_from slot zero id (Some stored ∷ later) is =
      rw (same_slot id slot stored.serial (omega (arith, is)), none_later id (slot + 1) later (omega (arith, is))) refl
  value_in-values_from slot (suc at) id (None ∷ later) is = value_in-values_from (slot + 1) at id later (omega (arith, is))
  value_in-values_from slot (suc at) id (Some first ∷ later) is =
      rw (other_slot id slot first.serial (λ same. omega (arith, is, same))) (value_in-values_from (slot + 1) at id later (omega (arith, is)))

  -- a slot that has none has no value under any id
  pub nothing_at : (id : MachineId) (slots : List (Option (Stored T))) → get_or slots id.slot None ≡ None → value_in id (values_from 0 slots) ≡ None
  nothing_at id slots none = value_in-values_from 0 id.slot id slots (omega arith) ∙ ap (value_if id.serial) none

  -- the value of a slot has the id of its serial
  pub value_at : (id : MachineId) (slots : List (Option (Stored T))) (stored : Stored T) → get_or slots id.slot None ≡ Some stored
      → stored.serial ≡ id.serial → value_in id (values_from 0 slots) ≡ Some stored.value
  value_at id slots stored held same =
      let serials : (id.serial == stored.serial) ≡ true = is_same id.serial stored.serial (sym same) in
      let by_serial : value_if id.serial (Some stored) ≡ Some stored.value = rw serials refl in
      value_in-values_from 0 id.slot id slots (omega arith) ∙ (ap (value_if id.serial) held ∙ by_serial)

  -- and no other id
  pub another_at : (id : MachineId) (slots : List (Option (Stored T))) (stored : Stored T) → get_or slots id.slot None ≡ Some stored
      → stored.serial ≢ id.serial → value_in id (values_from 0 slots) ≡ None
  another_at id slots stored held differs =
      let serials : (id.serial == stored.serial) ≡ false = is_other id.serial stored.serial (λ same. differs (sym same)) in
      let by_serial : value_if id.serial (Some stored) ≡ None = rw serials refl in
      value_in-values_from 0 id.slot id slots (omega arith) ∙ (ap (value_if id.serial) held ∙ by_serial)

  -- what is stored, where there is a value
  pub record IsStored (serial : ℕ) (slot : Option (Stored T)) : Type 0 where
    pub stored : Stored T
    pub held : slot ≡ Some stored
    pub same : stored.serial ≡ serial

  stored_by : (serial : ℕ) (slot : Option (Stored T)) → is_some (value_if serial slot) ≡ true → IsStored serial slot
  stored_by serial None h = cc
  stored_by serial (Some stored) h = elim (cases_Bool (serial == stored.serial)) [
    | inl same ↦ record { stored = stored; held = refl; same = sym (eqb-true serial stored.serial same) }
    | inr other ↦ let none = rw other at h in cc
  ]

  -- where an id has a value, its slot has it under its serial
  pub stored_at : (id : MachineId) (slots : List (Option (Stored T))) → is_some (value_in id (values_from 0 slots)) ≡ true
      → IsStored id.serial (get_or slots id.slot None)
  stored_at id slots h =
      stored_by id.serial (get_or slots id.slot None) (ap is_some (sym (value_in-values_from 0 id.slot id slots (omega arith))) ∙ h)

  -- later slots are others
  elsewhere_later : (key slot : ℕ) (slots : List (Option (Stored T))) → key < slot → All (StandsElsewhere key) (values_from slot slots)
  elsewhere_later key slot [] less = All-nil (StandsElsewhere key)
  elsewhere_later key slot (None ∷ later) less = elsewhere_later key (slot + 1) later (omega (arith, less))
  elsewhere_later key slot (Some stored ∷ later) less =
      All-cons (StandsElsewhere key) (id_at slot stored.serial, stored.value) (values_from (slot + 1) later) (λ same. omega (arith, less, same))
      (elsewhere_later key (slot + 1) later (omega (arith, less)))

  -- no value stands at a vacant slot
  pub values_from-vacant : (slot at key : ℕ) (slots : List (Option (Stored T))) → key ≡ slot + at → get_or slots at None ≡ None
      → All (StandsElsewhere key) (values_from slot slots)
  values_from-vacant slot at key [] is vacant = All-nil (StandsElsewhere key)
  values_from-vacant slot zero key (None ∷ later) is vacant = elsewhere_later key (slot + 1) later (omega (arith, is))
  values_from-vacant slot zero key (Some stored ∷ later) is vacant = cc
  values_from-vacant slot (suc at) key (None ∷ later) is vacant = values_from-vacant (slot + 1) at key later (omega (arith, is)) vacant
  values_from-vacant slot (suc at) key (Some stored ∷ later) is vacant =
      All-cons (StandsElsewhere key) (id_at slot stored.serial, stored.value) (values_from (slot + 1) later) (λ same. omega (arith, is, same))
      (values_from-vacant (slot + 1) at key later (omega (arith, is)) vacant)

-- ---- ids
-- the id of an entry of a slab
abbrev pub id_of_entry : {T : Type 0} → ℕ × Stored T → MachineId
id_of_entry entry = id_at entry.0 entry.1.serial

-- the ids of a slab's entries are those of its values
pub ids_of_entries : {T : Type 0} (slot : ℕ) (slots : List (Option (Stored T))) → map id_of_entry (entries_from slot slots) ≡ ids_of (values_from slot slots)
ids_of_entries slot [] = refl
ids_of_entries slot (None ∷ later) = ids_of_entries (slot + 1) later
ids_of_entries slot (Some stored ∷ later) = ap (λ (ids : List MachineId). id_at slot stored.serial ∷ ids) (ids_of_entries (slot + 1) later)
