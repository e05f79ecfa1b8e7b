use Rattle.std.proofs.Common.{subst}
use Rattle.st_core.specs.Callbacks.{callbacks_of}
use Rattle.st_cell.specs.Calls.{TakesOut}
use Rattle.st_cell.proofs.CellLemmas.{takes_kept, takes_unchanged}
use Rattle.st_any_cell.specs.AnyCell.{AnyCellState, IsAnyCell, state_of}
use Rattle.st_any_cell.proofs.FormLemmas.{any_kept, any_unchanged, journaled_called, unjournaled_called}
use Rattle.st_any_cell.proofs.any_cell.AnyCell.take_out.Goals as goal
use Rattle.st_any_cell.proofs.any_cell.AnyCell.take_out.Goals.{in-Journaled, in-Unjournaled}

-- it stays a cell
pub invariant_of-self : goal.invariant_of-self
invariant_of-self g c =
    any_kept (callbacks_of g.M.Module g.M.State.PartialEq.eq) (TakesOut (callbacks_of g.M.Module g.M.State.PartialEq.eq) (state_of c.self.inside.form).cell c.args.token c.match-self.result) (state_of c.self.inside.form) (state_of c.match-self.self-inside.form)
    (λ after does. takes_kept (callbacks_of g.M.Module g.M.State.PartialEq.eq) (state_of c.self.inside.form).cell after c.args.token c.match-self.result does c.self.invariant.journaled)
    (elim c.match-self.branch [
      | in-Journaled w ↦ journaled_called (λ old result after. TakesOut (callbacks_of g.M.Module g.M.State.PartialEq.eq) old c.args.token result after) c.self.inside.form c.match-self.self-inside w.in-Journaled.cell w.deref_mut.result.now w.take_out.new.self w.take_out.result c.match-self.result
          w.in-Journaled.is w.deref_mut.ensures.value w.self-inside-is w.result-is w.take_out.ensures.does
      | in-Unjournaled w ↦ unjournaled_called (λ old result after. TakesOut (callbacks_of g.M.Module g.M.State.PartialEq.eq) old c.args.token result after) c.self.inside.form c.match-self.self-inside w.in-Unjournaled.bare w.take_out-in-Unjournaled.new.self w.take_out-in-Unjournaled.result c.match-self.result
          w.in-Unjournaled.is w.self-inside-is w.result-is w.take_out-in-Unjournaled.ensures.does
    ])

-- it does what a cell does
pub returns-clause-does : goal.returns-clause-does
returns-clause-does g c =
    rw (← c.self.view_is) (elim c.match-self.branch [
      | in-Journaled w ↦ journaled_called (λ old result after. TakesOut (callbacks_of g.M.Module g.M.State.PartialEq.eq) old c.args.token result after) c.self.inside.form c.match-self.self-inside w.in-Journaled.cell w.deref_mut.result.now w.take_out.new.self w.take_out.result c.match-self.result
          w.in-Journaled.is w.deref_mut.ensures.value w.self-inside-is w.result-is w.take_out.ensures.does
      | in-Unjournaled w ↦ unjournaled_called (λ old result after. TakesOut (callbacks_of g.M.Module g.M.State.PartialEq.eq) old c.args.token result after) c.self.inside.form c.match-self.self-inside w.in-Unjournaled.bare w.take_out-in-Unjournaled.new.self w.take_out-in-Unjournaled.result c.match-self.result
          w.in-Unjournaled.is w.self-inside-is w.result-is w.take_out-in-Unjournaled.ensures.does
    ])

-- a refused take-out changes nothing
pub returns-clause-unchanged : goal.returns-clause-unchanged
returns-clause-unchanged g c =
    any_unchanged (callbacks_of g.M.Module g.M.State.PartialEq.eq) (TakesOut (callbacks_of g.M.Module g.M.State.PartialEq.eq) c.args.self.now.cell c.args.token c.match-self.result) c.args.self.now (state_of c.match-self.self-inside.form) c.match-self.result
    (λ after does. takes_unchanged (callbacks_of g.M.Module g.M.State.PartialEq.eq) c.args.self.now.cell after c.args.token c.match-self.result does)
    (subst (λ (state : AnyCellState _ _ _ _). IsAnyCell (callbacks_of g.M.Module g.M.State.PartialEq.eq) state) c.self.view_is c.self.invariant) (returns-clause-does g c)

-- and gives the token back
pub returns-clause-returned : goal.returns-clause-returned
returns-clause-returned g c = elim c.match-self.branch [
  | in-Journaled w ↦ rw w.result-is w.take_out.ensures.returned
  | in-Unjournaled w ↦ rw w.result-is w.take_out-in-Unjournaled.ensures.returned
]
