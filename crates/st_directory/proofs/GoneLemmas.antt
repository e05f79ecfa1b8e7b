-- An id whose value is gone names nothing for good.
use Rattle.std.proofs.Common.{◌≡◌, Some, is_some, List, [], ◌∷◌, ap, ◌∙◌, arith, inl, inr}
use Rattle.st_events.specs.declared.machine_id.MachineId.{MachineId}
use Rattle.st_directory.specs.DirectoryState.{DirectoryState, found, removed}
use Rattle.st_directory.specs.InOrder.{IsDirectory}
use Rattle.st_directory.specs.Changes.{Changes, LeadTo, IsGone}
use Rattle.st_directory.proofs.IdLemmas.{other_serial}
use Rattle.st_directory.proofs.ValueLemmas.{value_in-with_other, value_in-without, none-without, found_given}

module _ {T : Type 0} where
  -- an id is gone once its value is removed
  pub removed_gone : (d : DirectoryState T) (id : MachineId) (value : T) → IsDirectory d → found id d ≡ Some value → IsGone id (removed id d)
  removed_gone d id value order there = (
    found_given id d.begun d.values order.serials_given (ap is_some there),
    value_in-without id d.values order.serials_once,
  )

  -- it stays gone at a change
  changed_gone : (id : MachineId) (old new : DirectoryState T) → Changes old new → IsGone id old → IsGone id new
  changed_gone id old new (inl put) gone =
      let apart = other_serial id put.0.id (λ same. omega (arith, same, put.2, gone.0)) in
      rw put.3 (omega (arith, gone.0), value_in-with_other put.0.id id put.1 old.values apart ∙ gone.1)
  changed_gone id old new (inr (inl taken)) gone = rw taken.1 gone
  changed_gone id old new (inr (inr cleared)) gone = rw cleared.1 (gone.0, none-without cleared.0 id old.values gone.1)

  -- and at any number of them
  pub led_gone : (id : MachineId) (old : DirectoryState T) (between : List (DirectoryState T)) (last : DirectoryState T) → LeadTo old between last
      → IsGone id old → IsGone id last
  led_gone id old [] last leads gone = rw leads gone
  led_gone id old (next ∷ later) last leads gone = led_gone id next later last leads.1 (changed_gone id old next leads.0 gone)
