-- What was refused was the start with the answers that were read.
use Rattle.std.proofs.Common.{◌==◌, not, List, [], Option, subst}
use Rattle.st_events.specs.declared.action.Action.{Action}
use Rattle.st_embedded.specs.Hosted.{WhyNotStarted}
use Rattle.st_hosted.specs.declared.host_entered.HostEntered.{HostEntered}
use Rattle.st_hosted.specs.declared.host_outcome.HostOutcome.TheVariants.{KeepStateAndData}
use Rattle.st_hosted.specs.declared.payload.Payload.{Payload}
use Rattle.zumelivon.specs.Reading.{entered_in}
use Rattle.zumelivon.proofs.turning.start.Goals as goal

pub returns-clause-why : goal.returns-clause-why
returns-clause-why c =
    let begin = c.args.begin.now in let enters = not (c.args.begin.now.enters == 0) in
    let entered = entered_in c.args.answers.now.bytes.now c.args.answers.now.entered.now c.args.answers.now.enter_actions.now in
    λ done bad short. (
      c.in-Err.refusal,
      c.number_of.ensures.number,
      subst (λ (actions : List (Action Payload)). WhyNotStarted (record { enters = enters; outcome = KeepStateAndData []; entered = entered; word = begin.word })
          (record { state = begin.state; «data» = begin.«data»; actions = actions }) c.args.all.now.next_id c.args.now c.in-Err.refusal) c.in-Ok.ensures
          (subst (λ (one : Option HostEntered). WhyNotStarted (record { enters = enters; outcome = KeepStateAndData []; entered = one; word = begin.word })
          (record { state = begin.state; «data» = begin.«data»; actions = c.in-Ok.actions }) c.args.all.now.next_id c.args.now c.in-Err.refusal) c.in-Ok-entered.ensures
          (subst (λ (none : List (Action Payload)). WhyNotStarted (record { enters = enters; outcome = KeepStateAndData none; entered = c.in-Ok-entered.entered; word = begin.word })
          (record { state = begin.state; «data» = begin.«data»; actions = c.in-Ok.actions }) c.args.all.now.next_id c.args.now c.in-Err.refusal) c.new.ensures
          c.in-Err.ensures.refusals)),
    )
