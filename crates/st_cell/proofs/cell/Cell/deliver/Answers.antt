use Rattle.std.proofs.Common.{length, ap}
use Rattle.st_core.specs.Callbacks.{callbacks_of}
use Rattle.st_cell.proofs.CellLemmas.{delivers_kept, delivers_unchanged}
use Rattle.st_cell.proofs.PostLemmas.{delivers_nothing}
use Rattle.st_cell.proofs.cell.Cell.deliver.Goals as goal

-- it stays a cell
pub invariant_of-self : goal.invariant_of-self
invariant_of-self g c = record {
  journaled = delivers_kept (callbacks_of g.M.Module g.M.State.PartialEq.eq) c.self.inside.journaled.cell c.deliver.new.self.cell c.args.message c.deliver.result c.deliver.ensures.does c.self.invariant.journaled;
  room = c.deliver.ensures.room c.self.invariant.room;
}

-- a refused delivery changes nothing
pub returns-clause-unchanged : goal.returns-clause-unchanged
returns-clause-unchanged g c =
    rw (← c.self.view_is) (delivers_unchanged (callbacks_of g.M.Module g.M.State.PartialEq.eq) c.self.inside.journaled.cell c.deliver.new.self.cell c.args.message c.deliver.result c.deliver.ensures.does)

-- no port posted
pub returns-clause-posts : goal.returns-clause-posts
returns-clause-posts g c =
    rw (← c.self.view_is) (delivers_nothing (callbacks_of g.M.Module g.M.State.PartialEq.eq) c.self.inside.journaled.cell c.deliver.new.self.cell c.args.message c.deliver.result c.deliver.ensures.does)

-- and the open ports stay open
pub returns-clause-ports : goal.returns-clause-ports
returns-clause-ports g c =
    rw (← c.self.view_is) (ap length (delivers_nothing (callbacks_of g.M.Module g.M.State.PartialEq.eq) c.self.inside.journaled.cell c.deliver.new.self.cell c.args.message c.deliver.result c.deliver.ensures.does).ports)
