use Rattle.std.proofs.Common.{sym, subst}
use Rattle.std.specs.Prelude.{Ok, Err}
use Rattle.st_events.specs.declared.message.Message.{Message}
use Rattle.st_events.specs.declared.refused.Refused.{Refused}
use Rattle.st_answers.specs.declared.command.Command.TheVariants as command
use Rattle.st_answers.specs.declared.entry.Entry.TheVariants.{Info}
use Rattle.st_core.specs.Callbacks.{callbacks_of}
use Rattle.st_scheduled.specs.Answered.{posted_as}
use Rattle.st_journal.specs.declared.source.Source.TheVariants as source
use Rattle.st_cell.specs.Calls.{Delivers}
use Rattle.st_any_cell.specs.AnyCell.{bare, bare_cell, IsCutBehind}
use Rattle.st_any_cell.proofs.BareLemmas.{bare_told, told_takes}
use Rattle.st_any_cell.proofs.bare.Bare.deliver.Goals as goal

-- its content is posted as an info
pub returns-in-Ok-clause-does : goal.returns-in-Ok-clause-does
returns-in-Ok-clause-does g c =
    bare_told (callbacks_of g.M.Module g.M.State.PartialEq.eq) c.args.self.now.scheduled c.args.self.now.ports.items (source.Message c.args.message.sender c.args.message.number) (command.Post Info c.args.message.content) (posted_as (Ok c.in-Ok.posted)) c.post.new.self
    (told_takes (callbacks_of g.M.Module g.M.State.PartialEq.eq) c.args.self.now.scheduled (command.Post Info c.args.message.content)) c.in-Ok.ensures.told

-- it was refused
pub returns-in-Err-clause-does : goal.returns-in-Err-clause-does
returns-in-Err-clause-does g c =
    subst (λ (refused : Refused (Message _)). IsCutBehind (Delivers (callbacks_of g.M.Module g.M.State.PartialEq.eq) (bare_cell c.args.self.now) c.args.message (Err refused)) (bare c.post.new.self c.args.self.now.ports.items)) (sym c.new.ensures)
    (bare_told (callbacks_of g.M.Module g.M.State.PartialEq.eq) c.args.self.now.scheduled c.args.self.now.ports.items (source.Message c.args.message.sender c.args.message.number) (command.Post Info c.args.message.content) (posted_as (Err c.in-Err.refused)) c.post.new.self
    (told_takes (callbacks_of g.M.Module g.M.State.PartialEq.eq) c.args.self.now.scheduled (command.Post Info c.args.message.content)) c.in-Err.ensures.told)
