use Rattle.st_core.specs.Callbacks.{callbacks_of}
use Rattle.st_cell.specs.Calls.{Turns}
use Rattle.st_cell.proofs.PostLemmas.{turns_nothing}
use Rattle.st_lock_inner.proofs.LeftLemmas.{called, err_cell, inner_called}
use Rattle.st_lock_inner.proofs.inner.Inner.turn.Goals as goal

-- nothing was posted
pub invariant_of-self : goal.invariant_of-self
invariant_of-self g c =
    inner_called (Turns (callbacks_of g.M.Module g.M.State.PartialEq.eq) c.self.inside.cell.cell c.args.token c.args.now c.turn.result) c.self.inside.cell c.turn.new.self c.self.inside.ends.items
    (λ after does. turns_nothing (callbacks_of g.M.Module g.M.State.PartialEq.eq) c.self.inside.cell.cell after c.args.token c.args.now c.turn.result does) c.turn.ensures.does c.self.invariant

-- it does what a cell does
pub returns-clause-does : goal.returns-clause-does
returns-clause-does g c = rw (← c.self.view_is) (called (Turns (callbacks_of g.M.Module g.M.State.PartialEq.eq) c.self.inside.cell.cell c.args.token c.args.now c.turn.result) c.self.inside.cell c.turn.new.self c.turn.ensures.does)

-- and where it is refused, nothing
pub returns-clause-unchanged : goal.returns-clause-unchanged
returns-clause-unchanged g c = rw (← c.self.view_is) (err_cell c.turn.result c.self.inside.cell c.turn.new.self c.turn.ensures.unchanged)
