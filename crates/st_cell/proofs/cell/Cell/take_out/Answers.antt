use Rattle.std.proofs.Common.{length, ap}
use Rattle.st_core.specs.Callbacks.{callbacks_of}
use Rattle.st_cell.proofs.CellLemmas.{takes_kept, takes_unchanged}
use Rattle.st_cell.proofs.PostLemmas.{takes_nothing}
use Rattle.st_cell.proofs.cell.Cell.take_out.Goals as goal

-- it stays a cell
pub invariant_of-self : goal.invariant_of-self
invariant_of-self g c = record {
  journaled = takes_kept (callbacks_of g.M.Module g.M.State.PartialEq.eq) c.self.inside.journaled.cell c.take_out.new.self.cell c.args.token c.take_out.result c.take_out.ensures.does c.self.invariant.journaled;
  room = c.take_out.ensures.room c.self.invariant.room;
}

-- a refused take-out changes nothing
pub returns-clause-unchanged : goal.returns-clause-unchanged
returns-clause-unchanged g c =
    rw (← c.self.view_is) (takes_unchanged (callbacks_of g.M.Module g.M.State.PartialEq.eq) c.self.inside.journaled.cell c.take_out.new.self.cell c.args.token c.take_out.result c.take_out.ensures.does)

-- nothing was posted
pub returns-clause-posts : goal.returns-clause-posts
returns-clause-posts g c =
    rw (← c.self.view_is) (takes_nothing (callbacks_of g.M.Module g.M.State.PartialEq.eq) c.self.inside.journaled.cell c.take_out.new.self.cell c.args.token c.take_out.result c.take_out.ensures.does)

-- and the open ports stay open
pub returns-clause-ports : goal.returns-clause-ports
returns-clause-ports g c =
    rw (← c.self.view_is) (ap length (takes_nothing (callbacks_of g.M.Module g.M.State.PartialEq.eq) c.self.inside.journaled.cell c.take_out.new.self.cell c.args.token c.take_out.result c.take_out.ensures.does).ports)

-- it is what the machine with its journal did
pub returns-clause-does : goal.returns-clause-does
returns-clause-does g c = rw (← c.self.view_is) c.take_out.ensures.does
