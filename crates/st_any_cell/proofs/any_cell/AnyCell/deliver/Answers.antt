use Rattle.std.proofs.Common.{◌≡◌, subst}
use Rattle.st_core.specs.Callbacks.{callbacks_of}
use Rattle.st_scheduled.specs.ScheduledMachine.{id_of}
use Rattle.st_cell.specs.Calls.{Delivers}
use Rattle.st_cell.proofs.CellLemmas.{delivers_kept, delivers_unchanged}
use Rattle.st_any_cell.specs.AnyCell.{AnyCellState, IsAnyCell, Leaves, state_of}
use Rattle.st_any_cell.proofs.FormLemmas.{any_kept, any_unchanged, in_journaled, journaled_called, unjournaled_called}
use Rattle.st_any_cell.proofs.any_cell.AnyCell.deliver.Goals as goal
use Rattle.st_any_cell.proofs.any_cell.AnyCell.deliver.Goals.{in-Journaled, in-Unjournaled}

-- the message is to the machine of the form at hand
pub deliver-requires : goal.deliver-requires
deliver-requires g c =
    in_journaled (λ cell. c.args.message.target ≡ id_of cell.scheduled) c.self.inside.form c.in-Journaled.cell c.deref_mut.result.now c.args.self.now
    c.in-Journaled.is c.deref_mut.ensures.value c.self.view_is c.requires

-- it stays a cell
pub invariant_of-self : goal.invariant_of-self
invariant_of-self g c =
    any_kept (callbacks_of g.M.Module g.M.State.PartialEq.eq) (Delivers (callbacks_of g.M.Module g.M.State.PartialEq.eq) (state_of c.self.inside.form).cell c.args.message c.match-self.result) (state_of c.self.inside.form) (state_of c.match-self.self-inside.form)
    (λ after does. delivers_kept (callbacks_of g.M.Module g.M.State.PartialEq.eq) (state_of c.self.inside.form).cell after c.args.message c.match-self.result does c.self.invariant.journaled)
    (elim c.match-self.branch [
      | in-Journaled w ↦ journaled_called (λ old result after. Delivers (callbacks_of g.M.Module g.M.State.PartialEq.eq) old c.args.message result after) c.self.inside.form c.match-self.self-inside w.in-Journaled.cell w.deref_mut.result.now w.deliver.new.self w.deliver.result c.match-self.result
          w.in-Journaled.is w.deref_mut.ensures.value w.self-inside-is w.result-is w.deliver.ensures.does
      | in-Unjournaled w ↦ unjournaled_called (λ old result after. Delivers (callbacks_of g.M.Module g.M.State.PartialEq.eq) old c.args.message result after) c.self.inside.form c.match-self.self-inside w.in-Unjournaled.bare w.deliver-in-Unjournaled.new.self w.deliver-in-Unjournaled.result c.match-self.result
          w.in-Unjournaled.is w.self-inside-is w.result-is w.deliver-in-Unjournaled.ensures.does
    ])

-- it does what a cell does
pub returns-clause-does : goal.returns-clause-does
returns-clause-does g c =
    subst (λ (state : AnyCellState _ _ _ _). Leaves state (Delivers (callbacks_of g.M.Module g.M.State.PartialEq.eq) state.cell c.args.message c.match-self.result) (state_of c.match-self.self-inside.form)) c.self.view_is
    (elim c.match-self.branch [
      | in-Journaled w ↦ journaled_called (λ old result after. Delivers (callbacks_of g.M.Module g.M.State.PartialEq.eq) old c.args.message result after) c.self.inside.form c.match-self.self-inside w.in-Journaled.cell w.deref_mut.result.now w.deliver.new.self w.deliver.result c.match-self.result
          w.in-Journaled.is w.deref_mut.ensures.value w.self-inside-is w.result-is w.deliver.ensures.does
      | in-Unjournaled w ↦ unjournaled_called (λ old result after. Delivers (callbacks_of g.M.Module g.M.State.PartialEq.eq) old c.args.message result after) c.self.inside.form c.match-self.self-inside w.in-Unjournaled.bare w.deliver-in-Unjournaled.new.self w.deliver-in-Unjournaled.result c.match-self.result
          w.in-Unjournaled.is w.self-inside-is w.result-is w.deliver-in-Unjournaled.ensures.does
    ])

-- a refused delivery changes nothing
pub returns-clause-unchanged : goal.returns-clause-unchanged
returns-clause-unchanged g c =
    any_unchanged (callbacks_of g.M.Module g.M.State.PartialEq.eq) (Delivers (callbacks_of g.M.Module g.M.State.PartialEq.eq) c.args.self.now.cell c.args.message c.match-self.result) c.args.self.now (state_of c.match-self.self-inside.form) c.match-self.result
    (λ after does. delivers_unchanged (callbacks_of g.M.Module g.M.State.PartialEq.eq) c.args.self.now.cell after c.args.message c.match-self.result does)
    (subst (λ (state : AnyCellState _ _ _ _). IsAnyCell (callbacks_of g.M.Module g.M.State.PartialEq.eq) state) c.self.view_is c.self.invariant) (returns-clause-does g c)

-- and gives the message back
pub returns-clause-returned : goal.returns-clause-returned
returns-clause-returned g c = elim c.match-self.branch [
  | in-Journaled w ↦ rw w.result-is w.deliver.ensures.returned
  | in-Unjournaled w ↦ rw w.result-is w.deliver-in-Unjournaled.ensures.returned
]
