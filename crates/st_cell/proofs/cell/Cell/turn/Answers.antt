use Rattle.st_core.specs.Callbacks.{callbacks_of}
use Rattle.st_cell.proofs.CallLemmas.{turns_returned}
use Rattle.st_cell.proofs.CellLemmas.{turns_kept, turns_refused, turns_open}
use Rattle.st_cell.proofs.PostLemmas.{turns_nothing}
use Rattle.st_cell.proofs.cell.Cell.turn.Goals as goal

-- it stays a cell
pub invariant_of-self : goal.invariant_of-self
invariant_of-self g c = record {
  journaled = turns_kept (callbacks_of g.M.Module g.M.State.PartialEq.eq) c.self.inside.journaled.cell c.turn.new.self.cell c.args.token c.args.now c.turn.result c.turn.ensures.does c.self.invariant.journaled;
  room = c.turn.ensures.room c.self.invariant.room;
}

-- a refused turn changes nothing
pub returns-clause-unchanged : goal.returns-clause-unchanged
returns-clause-unchanged g c =
    turns_refused (callbacks_of g.M.Module g.M.State.PartialEq.eq) c.args.self.now c.turn.new.self.cell c.args.token c.args.now c.turn.result (rw (← c.self.view_is) c.turn.ensures.does)

-- and gives the token back
pub returns-clause-returned : goal.returns-clause-returned
returns-clause-returned g c =
    turns_returned (callbacks_of g.M.Module g.M.State.PartialEq.eq) c.self.inside.journaled.cell c.turn.new.self.cell c.args.token c.args.now c.turn.result c.turn.ensures.does

-- the open ports stay open
pub returns-clause-ports : goal.returns-clause-ports
returns-clause-ports g c =
    rw (← c.self.view_is) (turns_open (callbacks_of g.M.Module g.M.State.PartialEq.eq) c.self.inside.journaled.cell c.turn.new.self.cell c.args.token c.args.now c.turn.result c.turn.ensures.does)

-- nothing was posted
pub returns-clause-posts : goal.returns-clause-posts
returns-clause-posts g c =
    rw (← c.self.view_is) (turns_nothing (callbacks_of g.M.Module g.M.State.PartialEq.eq) c.self.inside.journaled.cell c.turn.new.self.cell c.args.token c.args.now c.turn.result c.turn.ensures.does)

-- it is what the machine with its journal did
pub returns-clause-does : goal.returns-clause-does
returns-clause-does g c = rw (← c.self.view_is) c.turn.ensures.does
