use Rattle.std.proofs.Common.{subst}
use Rattle.st_core.specs.Callbacks.{callbacks_of}
use Rattle.st_cell.specs.Calls.{Delivers}
use Rattle.st_cell.proofs.PostLemmas.{delivers_nothing}
use Rattle.st_lock_inner.specs.Inner.{InnerState, Leaves}
use Rattle.st_lock_inner.proofs.LeftLemmas.{called, err_cell, inner_called}
use Rattle.st_lock_inner.proofs.inner.Inner.deliver.Goals as goal

-- nothing was posted
pub invariant_of-self : goal.invariant_of-self
invariant_of-self g c =
    inner_called (Delivers (callbacks_of g.M.Module g.M.State.PartialEq.eq) c.self.inside.cell.cell c.args.message c.deliver.result) c.self.inside.cell c.deliver.new.self c.self.inside.ends.items
    (λ after does. delivers_nothing (callbacks_of g.M.Module g.M.State.PartialEq.eq) c.self.inside.cell.cell after c.args.message c.deliver.result does) c.deliver.ensures.does c.self.invariant

-- it does what a cell does
pub returns-clause-does : goal.returns-clause-does
returns-clause-does g c =
    subst (λ (inner : InnerState _ _ _ _). Leaves (Delivers (callbacks_of g.M.Module g.M.State.PartialEq.eq) inner.cell c.args.message c.deliver.result) c.deliver.new.self.cell) c.self.view_is
    (called (Delivers (callbacks_of g.M.Module g.M.State.PartialEq.eq) c.self.inside.cell.cell c.args.message c.deliver.result) c.self.inside.cell c.deliver.new.self c.deliver.ensures.does)

-- and where it is refused, nothing
pub returns-clause-unchanged : goal.returns-clause-unchanged
returns-clause-unchanged g c = rw (← c.self.view_is) (err_cell c.deliver.result c.self.inside.cell c.deliver.new.self c.deliver.ensures.unchanged)
