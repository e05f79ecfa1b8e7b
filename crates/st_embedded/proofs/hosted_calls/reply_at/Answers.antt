-- The machine that was lent is told, and written back.
use Rattle.std.proofs.Common.{sym, subst}
use Rattle.st_answers.specs.declared.answer.Answer.TheVariants as answer
use Rattle.st_answers.specs.declared.command.Command.TheVariants as command
use Rattle.st_embedded.specs.Hosted.{hosted_callbacks}
use Rattle.st_core.specs.Run.{Does}
use Rattle.st_events.specs.declared.tag.Tag.{Tag}
use Rattle.st_embedded.proofs.TableLemmas.{wrote}
use Rattle.st_embedded.proofs.hosted_calls.reply_at.Goals as goal

pub returns-clause-does : goal.returns-clause-does
returns-clause-does c = (
  c.in_ok-core.core.now,
  c.reply.new.self,
  sym c.in_ok-core.ensures.value,
  subst (λ (t : Tag). Does hosted_callbacks c.in_ok-core.core.now (command.Reply t c.args.content) (answer.Reply c.reply.result) c.reply.new.self) c.tag-tag.ensures c.reply.ensures.does,
  wrote c.args.machines.now (c.get_mut.follows.lender c.reply.new.self) c.args.number c.in_ok-core.core.now c.reply.new.self c.in_ok-core.ensures.value
      (c.get_mut.follows.holds c.reply.new.self),
)
