use Rattle.st_core.specs.Callbacks.{callbacks_of}
use Rattle.st_cell.specs.Calls.{TakesOut}
use Rattle.st_cell.proofs.PostLemmas.{takes_nothing}
use Rattle.st_lock_inner.proofs.LeftLemmas.{called, err_cell, inner_called}
use Rattle.st_lock_inner.proofs.inner.Inner.take_out.Goals as goal

-- nothing was posted
pub invariant_of-self : goal.invariant_of-self
invariant_of-self g c =
    inner_called (TakesOut (callbacks_of g.M.Module g.M.State.PartialEq.eq) c.self.inside.cell.cell c.args.token c.take_out.result) c.self.inside.cell c.take_out.new.self c.self.inside.ends.items
    (λ after does. takes_nothing (callbacks_of g.M.Module g.M.State.PartialEq.eq) c.self.inside.cell.cell after c.args.token c.take_out.result does) c.take_out.ensures.does c.self.invariant

-- it does what a cell does
pub returns-clause-does : goal.returns-clause-does
returns-clause-does g c = rw (← c.self.view_is) (called (TakesOut (callbacks_of g.M.Module g.M.State.PartialEq.eq) c.self.inside.cell.cell c.args.token c.take_out.result) c.self.inside.cell c.take_out.new.self c.take_out.ensures.does)

-- and where it is refused, nothing
pub returns-clause-unchanged : goal.returns-clause-unchanged
returns-clause-unchanged g c = rw (← c.self.view_is) (err_cell c.take_out.result c.self.inside.cell c.take_out.new.self c.take_out.ensures.unchanged)
