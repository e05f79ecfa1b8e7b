use Rattle.std.proofs.Common.{refl, subst}
use Rattle.st_answers.specs.declared.command.Command.TheVariants as command
use Rattle.st_core.specs.Callbacks.{callbacks_of}
use Rattle.st_scheduled.specs.Answered.{stopped_as}
use Rattle.st_cell.specs.Calls.{IsTold}
use Rattle.st_cell.proofs.CellLemmas.{is_told_kept, told_unchanged, told_open}
use Rattle.st_cell.proofs.PostLemmas.{told_nothing}
use Rattle.st_cell.proofs.cell.Cell.stop.Goals as goal

-- it stays a cell
pub invariant_of-self : goal.invariant_of-self
invariant_of-self g c = record {
  journaled = is_told_kept (callbacks_of g.M.Module g.M.State.PartialEq.eq) c.self.inside.journaled.cell c.stop.new.self.cell (command.Stop c.args.reason)
      (stopped_as c.stop.result) refl c.stop.ensures.does c.self.invariant.journaled;
  room = c.stop.ensures.room;
}

-- the open ports stay open
pub returns-clause-ports : goal.returns-clause-ports
returns-clause-ports g c =
    rw (← c.self.view_is) (told_open (callbacks_of g.M.Module g.M.State.PartialEq.eq) c.self.inside.journaled.cell c.stop.new.self.cell (command.Stop c.args.reason) (stopped_as c.stop.result) c.stop.ensures.does)

-- nothing was posted
pub returns-clause-posts : goal.returns-clause-posts
returns-clause-posts g c =
    rw (← c.self.view_is) (told_nothing (callbacks_of g.M.Module g.M.State.PartialEq.eq) c.self.inside.journaled.cell c.stop.new.self.cell (command.Stop c.args.reason) (stopped_as c.stop.result) c.stop.ensures.does)

-- the machine was told it, and a refusal changes nothing
pub returns-clause-does : goal.returns-clause-does
returns-clause-does g c =
    subst (λ cell. IsTold (callbacks_of g.M.Module g.M.State.PartialEq.eq) cell (command.Stop c.args.reason) (stopped_as c.stop.result) c.stop.new.self.cell) c.self.view_is c.stop.ensures.does

pub returns-clause-unchanged : goal.returns-clause-unchanged
returns-clause-unchanged g c =
    rw (← c.self.view_is) (told_unchanged (callbacks_of g.M.Module g.M.State.PartialEq.eq) c.self.inside.journaled.cell c.stop.new.self.cell (command.Stop c.args.reason) stopped_as c.stop.result
    (λ refused. refl) c.stop.ensures.does)
