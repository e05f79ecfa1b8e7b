use Rattle.st_answers.specs.declared.command.Command.TheVariants as command
use Rattle.st_core.specs.Callbacks.{callbacks_of}
use Rattle.st_scheduled.specs.Answered.{replied_as}
use Rattle.st_journal.specs.declared.source.Source.TheVariants as source
use Rattle.st_any_cell.proofs.BareLemmas.{bare_told, told_takes}
use Rattle.st_any_cell.proofs.bare.Bare.reply.Goals as goal

-- it does what a cell does, and keeps nothing of it
pub returns-clause-does : goal.returns-clause-does
returns-clause-does g c =
    bare_told (callbacks_of g.M.Module g.M.State.PartialEq.eq) c.args.self.now.scheduled c.args.self.now.ports.items source.Caller (command.Reply c.args.tag c.args.content) (replied_as c.reply.result) c.reply.new.self
    (told_takes (callbacks_of g.M.Module g.M.State.PartialEq.eq) c.args.self.now.scheduled (command.Reply c.args.tag c.args.content)) c.reply.ensures.told
