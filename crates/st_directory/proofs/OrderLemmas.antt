-- Each change leaves a directory in order.
use Rattle.std.proofs.Common.{◌≡◌, ◌≢◌, ℕ, ◌+◌, ◌<◌, ◌≤◌, ◌^◌, false, ◌==◌, nat_lt, Option, Some, None, is_some, List, [], ◌∷◌, length, All, refl, ap, arith, inl, inr}
use Rattle.std.proofs.lemmas.Bool.{cases_Bool, ltb-true}
use Rattle.std.proofs.lemmas.List.Elements.{All-cons, All-nil, All-append}
use Rattle.st_events.specs.declared.machine_id.MachineId.{MachineId}
use Rattle.st_events.specs.declared.refusal.Refusal.{Refusal}
use Rattle.st_directory.specs.DirectoryState.{DirectoryState, VacancyState, found, id_of_name, id_in, with_name, with_value, state_of, inserted, unregistered, removed}
use Rattle.st_directory.specs.Admission.{Admits, first_due, taken_by, name_refusal, value_refusal, is_bad_name, bytes_at_most, values_at_most}
use Rattle.st_directory.specs.InOrder.{IsDirectory, StandsElsewhere, HasFairLength, NamesStandOnce, IdsNamedOnce, NamesOneOf, WasGiven}
use Rattle.st_directory.proofs.IdLemmas.{others_differ}
use Rattle.st_directory.proofs.ValueLemmas.{value_in-with_other, value_in-with, value_in-new, SlotsRise-with, SlotsRise-without, All-with_value, All-without_value, length-with_value, length-without_value, SerialsStandOnce-with, SerialsStandOnce-without, given-more}
use Rattle.st_directory.proofs.NameLemmas.{id_in-new, NamesStandOnce-pushed, IdsNamedOnce-pushed, All-without_name, NamesStandOnce-without_name, IdsNamedOnce-without_name, All-without_names_of, NamesStandOnce-without_names_of, IdsNamedOnce-without_names_of, names_there-without, names_there-with, not_named}

-- ---- what is admitted
both_none : (one other : Option Refusal) → first_due one other ≡ None → (one ≡ None) × (other ≡ None)
both_none (Some due) other h = cc
both_none None other h = (refl, h)

not_taken : (id : Option MachineId) → taken_by id ≡ None → id ≡ None
not_taken (Some id) h = cc
not_taken None h = refl

not_zero : (n : ℕ) → (n == 0) ≡ false → 0 < n
not_zero n h = grind arith

not_more : (m n : ℕ) → nat_lt m n ≡ false → n ≤ m
not_more m n h = grind arith

-- a name that is admitted is of fair length
fair : (name : List ℕ) → is_bad_name name ≡ false → (0 < length name) × (length name ≤ bytes_at_most)
fair name h = elim (cases_Bool (length name == 0)) [
  | inl empty ↦ let bad = rw empty at h in cc
  | inr some ↦ (not_zero (length name) some, not_more bytes_at_most (length name) (rw some at h))
]

module _ {T : Type 0} where
  -- there is a place left
  pub place_left : (d : DirectoryState T) → value_refusal d ≡ None → length d.values < values_at_most
  place_left d h = elim (cases_Bool (nat_lt (length d.values) values_at_most)) [
    | inl less ↦ ltb-true (length d.values) values_at_most less
    | inr more ↦ let full = rw more at h in cc
  ]

  -- a name that is admitted is of fair length, and is not registered
  admitted_name : (name : List ℕ) (d : DirectoryState T) → name_refusal (Some name) d ≡ None
      → ((0 < length name) × (length name ≤ bytes_at_most)) × (id_in name d.names ≡ None)
  admitted_name name d h = elim (cases_Bool (is_bad_name name)) [
    | inl bad ↦ let some = rw bad at h in cc
    | inr good ↦ (fair name good, not_taken (id_in name d.names) (rw good at h))
  ]

  -- the names, with that of a new value
  names_in_order : (name : Option (List ℕ)) (id : MachineId) (value : T) (d : DirectoryState T) → d.begun < id.serial → name_refusal name d ≡ None → IsDirectory d
      → NamesStandOnce (with_name name id d.names) × IdsNamedOnce (with_name name id d.names)
      × All HasFairLength (with_name name id d.names) × All (NamesOneOf (with_value id value d.values)) (with_name name id d.names)
  names_in_order None id value d new admitted order = (
    order.names_once,
    order.ids_once,
    order.names_fair,
    names_there-with id value d.begun new d.values order.serials_given d.names order.names_there,
  )
  names_in_order (Some name) id value d new admitted order =
      let parts = admitted_name name d admitted in
      let there = names_there-with id value d.begun new d.values order.serials_given d.names order.names_there in (
        NamesStandOnce-pushed name id d.names parts.1 order.names_once,
        IdsNamedOnce-pushed name id d.names (not_named id d.begun new d.values order.serials_given d.names order.names_there) order.ids_once,
        All-append HasFairLength d.names ((name, id) ∷ []) order.names_fair (All-cons HasFairLength (name, id) [] parts.0 (All-nil HasFairLength)),
        All-append (NamesOneOf (with_value id value d.values)) d.names ((name, id) ∷ []) there
            (All-cons (NamesOneOf (with_value id value d.values)) (name, id) [] (ap is_some (value_in-with id value d.values (value_in-new id d.begun new d.values order.serials_given))) (All-nil (NamesOneOf (with_value id value d.values)))),
      )

  -- ---- the changes
  -- a value is put in
  pub inserted_in_order : (name : Option (List ℕ)) (id : MachineId) (value : T) (d : DirectoryState T) → id.serial ≡ d.begun + 1 → d.begun + 1 < 2 ^ 63
      → Admits d name → All (StandsElsewhere id.slot) d.values → IsDirectory d → IsDirectory (state_of (with_name name id d.names) (with_value id value d.values) id.serial)
  inserted_in_order name id value d serial left admitted vacant order =
      let new : d.begun < id.serial = omega (arith, serial) in
      let more : d.begun ≤ id.serial = omega (arith, serial) in
      let due = both_none (name_refusal name d) (value_refusal d) admitted in
      let names = names_in_order name id value d new due.0 order in
      let place = place_left d due.1 in
      record {
        names_once = names.0;
        ids_once = names.1;
        names_fair = names.2;
        names_there = names.3;
        slots_rise = SlotsRise-with id value d.values vacant order.slots_rise;
        serials_once = SerialsStandOnce-with id value d.begun new d.values order.serials_given order.serials_once;
        serials_given = All-with_value (WasGiven id.serial) id value d.values (omega (arith, serial), omega arith) (given-more d.begun id.serial more d.values order.serials_given);
        begun_fits = omega (arith, serial, left);
        values_fit = omega (arith, length-with_value id value d.values, place);
      }

  -- a name is unregistered
  pub unregistered_in_order : (name : List ℕ) (d : DirectoryState T) → IsDirectory d → IsDirectory (unregistered name d)
  unregistered_in_order name d order = record {
    names_once = NamesStandOnce-without_name name d.names order.names_once;
    ids_once = IdsNamedOnce-without_name name d.names order.ids_once;
    names_fair = All-without_name HasFairLength name d.names order.names_fair;
    names_there = All-without_name (NamesOneOf d.values) name d.names order.names_there;
    slots_rise = order.slots_rise;
    serials_once = order.serials_once;
    serials_given = order.serials_given;
    begun_fits = order.begun_fits;
    values_fit = order.values_fit;
  }

  -- a value is removed
  pub removed_in_order : (id : MachineId) (d : DirectoryState T) → IsDirectory d → IsDirectory (removed id d)
  removed_in_order id d order = record {
    names_once = NamesStandOnce-without_names_of id d.names order.names_once;
    ids_once = IdsNamedOnce-without_names_of id d.names order.ids_once;
    names_fair = All-without_names_of HasFairLength id d.names order.names_fair;
    names_there = names_there-without id d.values d.names order.names_there;
    slots_rise = SlotsRise-without id d.values order.slots_rise;
    serials_once = SerialsStandOnce-without id d.values order.serials_once;
    serials_given = All-without_value (WasGiven d.begun) id d.values order.serials_given;
    begun_fits = order.begun_fits;
    values_fit = omega (arith, length-without_value id d.values, order.values_fit);
  }

  -- ---- what is found of a value that was put in
  -- its id names it
  pub inserted_found : (place : VacancyState) (value : T) (d : DirectoryState T) → place.id.serial ≡ d.begun + 1 → IsDirectory d → found place.id (inserted place value d) ≡ Some value
  inserted_found place value d serial order =
      value_in-with place.id value d.values (value_in-new place.id d.begun (omega (arith, serial)) d.values order.serials_given)

  -- and so does its name
  pub inserted_named : (place : VacancyState) (value : T) (d : DirectoryState T) (name : List ℕ) → Admits d place.name → place.name ≡ Some name
      → id_of_name name (inserted place value d) ≡ Some place.id
  inserted_named place value d name admitted is =
      let due = both_none (name_refusal place.name d) (value_refusal d) admitted in
      let free = admitted_name name d (rw is at due.0) in
      rw is (id_in-new name place.id d.names free.1)

  -- and the others name what they named
  pub inserted_others : (place : VacancyState) (value : T) (d : DirectoryState T) (other : MachineId) → other ≢ place.id → found other (inserted place value d) ≡ found other d
  inserted_others place value d other differs = value_in-with_other place.id other value d.values (others_differ other place.id differs)
