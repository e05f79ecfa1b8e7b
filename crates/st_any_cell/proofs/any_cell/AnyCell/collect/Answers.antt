use Rattle.std.proofs.Common.{refl, subst}
use Rattle.st_answers.specs.declared.command.Command.TheVariants as command
use Rattle.st_core.specs.Callbacks.{callbacks_of}
use Rattle.st_scheduled.specs.Answered.{collected_as}
use Rattle.st_cell.specs.Calls.{IsTold}
use Rattle.st_cell.proofs.CellLemmas.{is_told_kept, told_unchanged}
use Rattle.st_any_cell.specs.AnyCell.{AnyCellState, IsAnyCell, state_of}
use Rattle.st_any_cell.proofs.FormLemmas.{any_kept, any_unchanged, journaled_called, unjournaled_called}
use Rattle.st_any_cell.proofs.any_cell.AnyCell.collect.Goals as goal
use Rattle.st_any_cell.proofs.any_cell.AnyCell.collect.Goals.{in-Journaled, in-Unjournaled}

-- it stays a cell
pub invariant_of-self : goal.invariant_of-self
invariant_of-self g c =
    any_kept (callbacks_of g.M.Module g.M.State.PartialEq.eq) (IsTold (callbacks_of g.M.Module g.M.State.PartialEq.eq) (state_of c.self.inside.form).cell (command.Collect c.args.tag) (collected_as c.match-self.result)) (state_of c.self.inside.form) (state_of c.match-self.self-inside.form)
    (λ after does. is_told_kept (callbacks_of g.M.Module g.M.State.PartialEq.eq) (state_of c.self.inside.form).cell after (command.Collect c.args.tag) (collected_as c.match-self.result) refl does c.self.invariant.journaled)
    (elim c.match-self.branch [
      | in-Journaled w ↦ journaled_called (λ old result after. IsTold (callbacks_of g.M.Module g.M.State.PartialEq.eq) old (command.Collect c.args.tag) (collected_as result) after) c.self.inside.form c.match-self.self-inside w.in-Journaled.cell w.deref_mut.result.now w.collect.new.self w.collect.result c.match-self.result
          w.in-Journaled.is w.deref_mut.ensures.value w.self-inside-is w.result-is w.collect.ensures.does
      | in-Unjournaled w ↦ unjournaled_called (λ old result after. IsTold (callbacks_of g.M.Module g.M.State.PartialEq.eq) old (command.Collect c.args.tag) (collected_as result) after) c.self.inside.form c.match-self.self-inside w.in-Unjournaled.bare w.collect-in-Unjournaled.new.self w.collect-in-Unjournaled.result c.match-self.result
          w.in-Unjournaled.is w.self-inside-is w.result-is w.collect-in-Unjournaled.ensures.does
    ])

-- it does what a cell does
pub returns-clause-does : goal.returns-clause-does
returns-clause-does g c =
    rw (← c.self.view_is) (elim c.match-self.branch [
      | in-Journaled w ↦ journaled_called (λ old result after. IsTold (callbacks_of g.M.Module g.M.State.PartialEq.eq) old (command.Collect c.args.tag) (collected_as result) after) c.self.inside.form c.match-self.self-inside w.in-Journaled.cell w.deref_mut.result.now w.collect.new.self w.collect.result c.match-self.result
          w.in-Journaled.is w.deref_mut.ensures.value w.self-inside-is w.result-is w.collect.ensures.does
      | in-Unjournaled w ↦ unjournaled_called (λ old result after. IsTold (callbacks_of g.M.Module g.M.State.PartialEq.eq) old (command.Collect c.args.tag) (collected_as result) after) c.self.inside.form c.match-self.self-inside w.in-Unjournaled.bare w.collect-in-Unjournaled.new.self w.collect-in-Unjournaled.result c.match-self.result
          w.in-Unjournaled.is w.self-inside-is w.result-is w.collect-in-Unjournaled.ensures.does
    ])

-- a refused collect changes nothing
pub returns-clause-unchanged : goal.returns-clause-unchanged
returns-clause-unchanged g c =
    any_unchanged (callbacks_of g.M.Module g.M.State.PartialEq.eq) (IsTold (callbacks_of g.M.Module g.M.State.PartialEq.eq) c.args.self.now.cell (command.Collect c.args.tag) (collected_as c.match-self.result)) c.args.self.now (state_of c.match-self.self-inside.form) c.match-self.result
    (λ after does. told_unchanged (callbacks_of g.M.Module g.M.State.PartialEq.eq) c.args.self.now.cell after (command.Collect c.args.tag) collected_as c.match-self.result (λ refused. refl) does)
    (subst (λ (state : AnyCellState _ _ _ _). IsAnyCell (callbacks_of g.M.Module g.M.State.PartialEq.eq) state) c.self.view_is c.self.invariant) (returns-clause-does g c)
