-- A turn that is made is of a machine that is there, with the answers that were read.
use Rattle.std.proofs.Common.{Ok, refl, sym, ap, subst}
use Rattle.st_answers.specs.declared.answer.Answer.TheVariants as answer
use Rattle.st_answers.specs.declared.command.Command.TheVariants as command
use Rattle.st_answers.specs.declared.turned.Turned.TheVariants.{Reported}
use Rattle.st_core.specs.Run.{Does}
use Rattle.st_embedded.specs.Hosted.{hosted_callbacks, answered_by}
use Rattle.st_embedded.specs.Table.{Changes}
use Rattle.st_embedded.specs.declared.lists.Lists.{Lists}
use Rattle.st_hosted.specs.Turning.{IsNext}
use Rattle.st_hosted.specs.declared.host_answer.HostAnswer.{HostAnswer}
use Rattle.zumelivon.proofs.CallLemmas.{ok_no_err, unlike}
use Rattle.zumelivon.proofs.turning.turn.Goals as goal

pub returns-in-Ok-turn_hosted-clause-does : goal.returns-in-Ok-turn_hosted-clause-does
returns-in-Ok-turn_hosted-clause-does c = (
  (λ done. (
    sym c.if-not-is_answer.ensures,
    (
      c.in-Ok-turn_hosted.reported,
      subst (λ (host : HostAnswer). Changes (λ before after. IsNext before.machine c.args.number × Does hosted_callbacks (answered_by host before) (command.Turn c.args.now) (answer.Turn (Ok (Reported c.in-Ok-turn_hosted.reported))) after)
          c.args.all.now.hosted c.turn_hosted.new.machines c.args.id) c.in-Ok.ensures c.in-Ok-turn_hosted.ensures.does,
      c.report_of.ensures,
      ap (λ (lists : Lists). record c.args.all.now { hosted = c.turn_hosted.new.machines; lists = lists }) c.of.ensures,
    ),
  )),
  (λ no. absurd (no refl)),
  (λ bad. absurd (unlike 0 101 refl bad)),
  (λ absent. absurd (ok_no_err _ _ (c.in-Ok-turn_hosted.ensures.absent absent))),
  (λ no. absurd (no refl)),
)
