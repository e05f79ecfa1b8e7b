use Rattle.std.proofs.Common.{subst}
use Rattle.st_core.specs.Callbacks.{callbacks_of}
use Rattle.st_answers.specs.declared.command.Command.TheVariants as command
use Rattle.st_scheduled.specs.Answered.{stopped_as}
use Rattle.st_cell.specs.Calls.{IsTold}
use Rattle.st_cell.proofs.PostLemmas.{told_nothing}
use Rattle.st_lock_inner.specs.Inner.{InnerState, Leaves}
use Rattle.st_lock_inner.proofs.LeftLemmas.{called, err_cell, inner_called}
use Rattle.st_lock_inner.proofs.inner.Inner.stop.Goals as goal

-- nothing was posted
pub invariant_of-self : goal.invariant_of-self
invariant_of-self g c =
    inner_called (IsTold (callbacks_of g.M.Module g.M.State.PartialEq.eq) c.self.inside.cell.cell (command.Stop c.args.reason) (stopped_as c.stop.result)) c.self.inside.cell c.stop.new.self c.self.inside.ends.items
    (λ after does. told_nothing (callbacks_of g.M.Module g.M.State.PartialEq.eq) c.self.inside.cell.cell after (command.Stop c.args.reason) (stopped_as c.stop.result) does) c.stop.ensures.does c.self.invariant

-- it does what a cell does
pub returns-clause-does : goal.returns-clause-does
returns-clause-does g c =
    subst (λ (inner : InnerState _ _ _ _). Leaves (IsTold (callbacks_of g.M.Module g.M.State.PartialEq.eq) inner.cell (command.Stop c.args.reason) (stopped_as c.stop.result)) c.stop.new.self.cell) c.self.view_is
    (called (IsTold (callbacks_of g.M.Module g.M.State.PartialEq.eq) c.self.inside.cell.cell (command.Stop c.args.reason) (stopped_as c.stop.result)) c.self.inside.cell c.stop.new.self c.stop.ensures.does)

-- and where it is refused, nothing
pub returns-clause-unchanged : goal.returns-clause-unchanged
returns-clause-unchanged g c = rw (← c.self.view_is) (err_cell c.stop.result c.self.inside.cell c.stop.new.self c.stop.ensures.unchanged)
