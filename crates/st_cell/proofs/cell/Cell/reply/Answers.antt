use Rattle.std.proofs.Common.{refl}
use Rattle.st_answers.specs.declared.command.Command.TheVariants as command
use Rattle.st_core.specs.Callbacks.{callbacks_of}
use Rattle.st_scheduled.specs.Answered.{replied_as}
use Rattle.st_cell.proofs.CellLemmas.{is_told_kept, told_unchanged, told_open}
use Rattle.st_cell.proofs.PostLemmas.{told_nothing}
use Rattle.st_cell.proofs.cell.Cell.reply.Goals as goal

-- it stays a cell
pub invariant_of-self : goal.invariant_of-self
invariant_of-self g c = record {
  journaled = is_told_kept (callbacks_of g.M.Module g.M.State.PartialEq.eq) c.self.inside.journaled.cell c.reply.new.self.cell (command.Reply c.args.tag c.args.content)
      (replied_as c.reply.result) refl c.reply.ensures.does c.self.invariant.journaled;
  room = c.reply.ensures.room c.self.invariant.room;
}

-- the open ports stay open
pub returns-clause-ports : goal.returns-clause-ports
returns-clause-ports g c =
    rw (← c.self.view_is) (told_open (callbacks_of g.M.Module g.M.State.PartialEq.eq) c.self.inside.journaled.cell c.reply.new.self.cell (command.Reply c.args.tag c.args.content) (replied_as c.reply.result) c.reply.ensures.does)

-- nothing was posted
pub returns-clause-posts : goal.returns-clause-posts
returns-clause-posts g c =
    rw (← c.self.view_is) (told_nothing (callbacks_of g.M.Module g.M.State.PartialEq.eq) c.self.inside.journaled.cell c.reply.new.self.cell (command.Reply c.args.tag c.args.content) (replied_as c.reply.result) c.reply.ensures.does)

-- the machine was told it, and a refusal changes nothing
pub returns-clause-does : goal.returns-clause-does
returns-clause-does g c = rw (← c.self.view_is) c.reply.ensures.does

pub returns-clause-unchanged : goal.returns-clause-unchanged
returns-clause-unchanged g c =
    rw (← c.self.view_is) (told_unchanged (callbacks_of g.M.Module g.M.State.PartialEq.eq) c.self.inside.journaled.cell c.reply.new.self.cell (command.Reply c.args.tag c.args.content) replied_as c.reply.result
    (λ refused. refl) c.reply.ensures.does)
