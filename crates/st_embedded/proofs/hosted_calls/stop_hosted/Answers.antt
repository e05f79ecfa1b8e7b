-- The machine that was lent is told with these answers, and written back.
use Rattle.std.proofs.Common.{Some, Ok, sym, ap, ◌∙◌, subst}
use Rattle.st_answers.specs.declared.answer.Answer.TheVariants as answer
use Rattle.st_answers.specs.declared.command.Command.TheVariants as command
use Rattle.st_core.specs.Run.{Does}
use Rattle.st_embedded.specs.Hosted.{hosted_callbacks}
use Rattle.st_hosted.specs.declared.host_answer.HostAnswer.{HostAnswer}
use Rattle.st_embedded.proofs.TableLemmas.{wrote, same_back}
use Rattle.st_embedded.proofs.hosted_calls.stop_hosted.Goals as goal

pub returns-in-Ok-clause-does : goal.returns-in-Ok-clause-does
returns-in-Ok-clause-does c = (
  c.in-Some.core.now,
  c.stop_by.new.core,
  sym c.in-Some.ensures.value,
  subst (λ (a : HostAnswer). Does hosted_callbacks (record c.in-Some.core.now { module_ = a }) (command.Stop c.args.reason) (answer.Stop (Ok c.in-Ok.word)) c.stop_by.new.core)
      (c.as_before-answers.ensures ∙ ap (λ (a : HostAnswer). record a { enters = c.in-Some.core.now.module_.enters }) c.last_word.ensures) c.in-Ok.ensures.does,
  wrote c.args.machines.now (c.get_mut.follows.lender c.stop_by.new.core) c.args.number c.in-Some.core.now c.stop_by.new.core c.in-Some.ensures.value
      (c.get_mut.follows.holds c.stop_by.new.core),
)

pub returns-in-Err-clause-unchanged : goal.returns-in-Err-clause-unchanged
returns-in-Err-clause-unchanged c =
    same_back c.args.machines.now (c.get_mut.follows.lender c.stop_by.new.core) c.args.number c.stop_by.new.core
    (ap Some c.in-Err.ensures.unchanged ∙ c.in-Some.ensures.value)
    (wrote c.args.machines.now (c.get_mut.follows.lender c.stop_by.new.core) c.args.number c.in-Some.core.now c.stop_by.new.core c.in-Some.ensures.value
    (c.get_mut.follows.holds c.stop_by.new.core))
