-- Each machine of a registry stays there under its own id.
use Rattle.std.proofs.Common.{◌≡◌, Some, Result, Ok, Err, OnOk, OnErr, List, [], ◌∷◌, All, sym, ap, ◌∙◌, inl, inr, subst}
use Rattle.std.specs.Arc.{arc_value}
use Rattle.std.proofs.lemmas.Bool.{cases_Bool}
use Rattle.std.proofs.lemmas.List.Elements.{All-head, All-tail}
use Rattle.st_events.specs.declared.machine_id.MachineId.{MachineId}
use Rattle.st_directory.specs.DirectoryState.{DirectoryState, DirectoryView, same_id, value_in, removed}
use Rattle.st_directory.proofs.IdLemmas.{ids_same}
use Rattle.st_directory.proofs.ValueLemmas.{All-without_value}

-- what holds holds on `Ok`
pub on_ok : {V E P : Type 0} (result : Result V E) → P → OnOk result P
on_ok (Ok value) holds = holds
on_ok (Err refusal) holds = tt

module _ {T : Type 0} (id_is : T → MachineId) where
  -- the value of an id has that id
  pub id_at : (id : MachineId) (value : T) (values : List (MachineId × T)) → All (λ (entry : MachineId × T). id_is entry.1 ≡ entry.0) values
      → value_in id values ≡ Some value → id_is value ≡ id
  id_at id value [] own there = absurd cc
  id_at id value (first ∷ later) own there = elim (cases_Bool (same_id id first.0)) [
    | inl same ↦
        let found : Some first.1 ≡ Some value = rw same at there in
        let is : first.1 ≡ value = cc in
        ap id_is (sym is) ∙ (All-head (λ (entry : MachineId × T). id_is entry.1 ≡ entry.0) first later own ∙ sym (ids_same id first.0 same))
    | inr differs ↦ id_at id value later (All-tail (λ (entry : MachineId × T). id_is entry.1 ≡ entry.0) first later own) (rw differs at there)
  ]

  -- where one is removed, or nothing changes, each has its id
  pub removed_own : {V E : Type 0} (result : Result V E) (old new : DirectoryView T) (id : MachineId) → OnOk result (new.state ≡ removed id old.state) → OnErr result (new ≡ old)
      → All (λ (entry : MachineId × T). id_is entry.1 ≡ entry.0) old.state.values → All (λ (entry : MachineId × T). id_is entry.1 ≡ entry.0) new.state.values
  removed_own (Ok value) old new id gone unchanged own =
      subst (λ (state : DirectoryState T). All (λ (entry : MachineId × T). id_is entry.1 ≡ entry.0) state.values) (sym gone)
      (All-without_value (λ (entry : MachineId × T). id_is entry.1 ≡ entry.0) id old.state.values own)
  removed_own (Err refusal) old new id gone unchanged own =
      subst (λ (view : DirectoryView T). All (λ (entry : MachineId × T). id_is entry.1 ≡ entry.0) view.state.values) (sym unchanged) own
