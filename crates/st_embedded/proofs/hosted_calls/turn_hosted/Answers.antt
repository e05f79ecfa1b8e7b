-- The machine that was lent is told with these answers, and written back.
use Rattle.std.proofs.Common.{ℕ, Some, Ok, sym, ap, ◌∙◌, subst}
use Rattle.st_answers.specs.declared.answer.Answer.TheVariants as answer
use Rattle.st_answers.specs.declared.command.Command.TheVariants as command
use Rattle.st_answers.specs.declared.turned.Turned.{Turned}
use Rattle.st_answers.specs.declared.turned.Turned.TheVariants.{Reported}
use Rattle.st_core.specs.Run.{Does}
use Rattle.st_embedded.specs.Hosted.{hosted_callbacks}
use Rattle.st_hosted.specs.declared.host_answer.HostAnswer.{HostAnswer}
use Rattle.st_embedded.proofs.TableLemmas.{wrote, same_back}
use Rattle.st_embedded.proofs.TurnLemmas.{never_idle}
use Rattle.st_embedded.proofs.hosted_calls.turn_hosted.Goals as goal

pub returns-in-Ok-Reported-clause-does : goal.returns-in-Ok-Reported-clause-does
returns-in-Ok-Reported-clause-does c = (
  c.in-Some.core.now,
  c.turn_by.new.core,
  sym c.in-Some.ensures.value,
  (
    c.in-Ok-Reported.ensures.next,
    subst (λ (a : HostAnswer). Does hosted_callbacks (record c.in-Some.core.now { module_ = a }) (command.Turn c.args.now) (answer.Turn (Ok (Reported c.in-Ok-Reported.report))) c.turn_by.new.core)
        c.as_before-answers.ensures
        (subst (λ (t : Turned ℕ). Does hosted_callbacks (record c.in-Some.core.now { module_ = c.as_before-answers.result }) (command.Turn c.args.now) (answer.Turn (Ok t)) c.turn_by.new.core)
        c.in-Ok-Reported.field-0-is c.in-Ok-Reported.ensures.does),
  ),
  wrote c.args.machines.now (c.get_mut.follows.lender c.turn_by.new.core) c.args.number c.in-Some.core.now c.turn_by.new.core c.in-Some.ensures.value
      (c.get_mut.follows.holds c.turn_by.new.core),
)

pub returns-in-Err-clause-unchanged : goal.returns-in-Err-clause-unchanged
returns-in-Err-clause-unchanged c =
    same_back c.args.machines.now (c.get_mut.follows.lender c.turn_by.new.core) c.args.number c.turn_by.new.core
    (ap Some c.in-Err.ensures.unchanged ∙ c.in-Some.ensures.value)
    (wrote c.args.machines.now (c.get_mut.follows.lender c.turn_by.new.core) c.args.number c.in-Some.core.now c.turn_by.new.core c.in-Some.ensures.value
    (c.get_mut.follows.holds c.turn_by.new.core))

pub unreachable-requires : goal.unreachable-requires
unreachable-requires c =
    never_idle hosted_callbacks (record c.in-Some.core.now { module_ = c.as_before-answers.result }) c.turn_by.new.core c.args.now c.args.event
    c.in-Ok-Idle.field-0 c.in-Ok-Idle.field-0-is c.in-Ok-Idle.ensures.next c.in-Ok-Idle.ensures.does
