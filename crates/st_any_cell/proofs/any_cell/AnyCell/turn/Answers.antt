use Rattle.st_core.specs.Callbacks.{callbacks_of}
use Rattle.st_cell.specs.Calls.{Turns}
use Rattle.st_cell.proofs.CellLemmas.{turns_kept}
use Rattle.st_any_cell.specs.AnyCell.{state_of}
use Rattle.st_any_cell.proofs.FormLemmas.{any_kept, journaled_called, unjournaled_called, turn_unchanged, turn_returned}
use Rattle.st_any_cell.proofs.any_cell.AnyCell.turn.Goals as goal
use Rattle.st_any_cell.proofs.any_cell.AnyCell.turn.Goals.{in-Journaled, in-Unjournaled}

-- it stays a cell
pub invariant_of-self : goal.invariant_of-self
invariant_of-self g c =
    any_kept (callbacks_of g.M.Module g.M.State.PartialEq.eq) (Turns (callbacks_of g.M.Module g.M.State.PartialEq.eq) (state_of c.self.inside.form).cell c.args.token c.args.now c.match-self.result) (state_of c.self.inside.form) (state_of c.match-self.self-inside.form)
    (λ after does. turns_kept (callbacks_of g.M.Module g.M.State.PartialEq.eq) (state_of c.self.inside.form).cell after c.args.token c.args.now c.match-self.result does c.self.invariant.journaled)
    (elim c.match-self.branch [
      | in-Journaled w ↦ journaled_called (λ old result after. Turns (callbacks_of g.M.Module g.M.State.PartialEq.eq) old c.args.token c.args.now result after) c.self.inside.form c.match-self.self-inside w.in-Journaled.cell w.deref_mut.result.now w.turn.new.self w.turn.result c.match-self.result
          w.in-Journaled.is w.deref_mut.ensures.value w.self-inside-is w.result-is w.turn.ensures.does
      | in-Unjournaled w ↦ unjournaled_called (λ old result after. Turns (callbacks_of g.M.Module g.M.State.PartialEq.eq) old c.args.token c.args.now result after) c.self.inside.form c.match-self.self-inside w.in-Unjournaled.bare w.turn-in-Unjournaled.new.self w.turn-in-Unjournaled.result c.match-self.result
          w.in-Unjournaled.is w.self-inside-is w.result-is w.turn-in-Unjournaled.ensures.does
    ])

-- it does what a cell does
pub returns-clause-does : goal.returns-clause-does
returns-clause-does g c =
    rw (← c.self.view_is) (elim c.match-self.branch [
      | in-Journaled w ↦ journaled_called (λ old result after. Turns (callbacks_of g.M.Module g.M.State.PartialEq.eq) old c.args.token c.args.now result after) c.self.inside.form c.match-self.self-inside w.in-Journaled.cell w.deref_mut.result.now w.turn.new.self w.turn.result c.match-self.result
          w.in-Journaled.is w.deref_mut.ensures.value w.self-inside-is w.result-is w.turn.ensures.does
      | in-Unjournaled w ↦ unjournaled_called (λ old result after. Turns (callbacks_of g.M.Module g.M.State.PartialEq.eq) old c.args.token c.args.now result after) c.self.inside.form c.match-self.self-inside w.in-Unjournaled.bare w.turn-in-Unjournaled.new.self w.turn-in-Unjournaled.result c.match-self.result
          w.in-Unjournaled.is w.self-inside-is w.result-is w.turn-in-Unjournaled.ensures.does
    ])

-- a refused turn changes nothing
pub returns-clause-unchanged : goal.returns-clause-unchanged
returns-clause-unchanged g c =
    rw (← c.self.view_is) (turn_unchanged (callbacks_of g.M.Module g.M.State.PartialEq.eq) (state_of c.self.inside.form) (state_of c.match-self.self-inside.form) c.args.token c.args.now c.match-self.result c.self.invariant
    (elim c.match-self.branch [
      | in-Journaled w ↦ journaled_called (λ old result after. Turns (callbacks_of g.M.Module g.M.State.PartialEq.eq) old c.args.token c.args.now result after) c.self.inside.form c.match-self.self-inside w.in-Journaled.cell w.deref_mut.result.now w.turn.new.self w.turn.result c.match-self.result
          w.in-Journaled.is w.deref_mut.ensures.value w.self-inside-is w.result-is w.turn.ensures.does
      | in-Unjournaled w ↦ unjournaled_called (λ old result after. Turns (callbacks_of g.M.Module g.M.State.PartialEq.eq) old c.args.token c.args.now result after) c.self.inside.form c.match-self.self-inside w.in-Unjournaled.bare w.turn-in-Unjournaled.new.self w.turn-in-Unjournaled.result c.match-self.result
          w.in-Unjournaled.is w.self-inside-is w.result-is w.turn-in-Unjournaled.ensures.does
    ]))

-- and gives the token back
pub returns-clause-returned : goal.returns-clause-returned
returns-clause-returned g c =
    turn_returned (callbacks_of g.M.Module g.M.State.PartialEq.eq) (state_of c.self.inside.form) (state_of c.match-self.self-inside.form) c.args.token c.args.now c.match-self.result
    (elim c.match-self.branch [
      | in-Journaled w ↦ journaled_called (λ old result after. Turns (callbacks_of g.M.Module g.M.State.PartialEq.eq) old c.args.token c.args.now result after) c.self.inside.form c.match-self.self-inside w.in-Journaled.cell w.deref_mut.result.now w.turn.new.self w.turn.result c.match-self.result
          w.in-Journaled.is w.deref_mut.ensures.value w.self-inside-is w.result-is w.turn.ensures.does
      | in-Unjournaled w ↦ unjournaled_called (λ old result after. Turns (callbacks_of g.M.Module g.M.State.PartialEq.eq) old c.args.token c.args.now result after) c.self.inside.form c.match-self.self-inside w.in-Unjournaled.bare w.turn-in-Unjournaled.new.self w.turn-in-Unjournaled.result c.match-self.result
          w.in-Unjournaled.is w.self-inside-is w.result-is w.turn-in-Unjournaled.ensures.does
    ])
