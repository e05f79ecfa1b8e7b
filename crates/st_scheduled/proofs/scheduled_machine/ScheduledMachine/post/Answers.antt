use Rattle.std.proofs.Common.{◌+◌, ◌^◌, ◌<◌, refl, sym, ap, ◌∙◌, arith}
use Rattle.std.specs.Prelude.{Option, Ok, Some}
use Rattle.st_answers.specs.declared.answer.Answer.TheVariants as answer
use Rattle.st_answers.specs.declared.command.Command.TheVariants as command
use Rattle.st_core.specs.Callbacks.{callbacks_of}
use Rattle.st_core.specs.Run.{is_refusal}
use Rattle.st_core.specs.MachineState.{Machine}
use Rattle.st_events.specs.declared.refused.Refused.{Refused}
use Rattle.st_scheduled.specs.Serving.{refused_with}
use Rattle.st_events.specs.declared.token.Token.{Token}
use Rattle.st_scheduled.specs.declared.step_answer.StepAnswer.TheVariants.{Posted}
use Rattle.st_scheduled.specs.ScheduledMachine.{ScheduledMachine}
use Rattle.st_scheduled.proofs.ServingLemmas.{room as room_left}
use Rattle.st_scheduled.proofs.ToldByCalls.{HasRoom, unless_needed, unless_full, full_tells, tells_at, post_tells, refused_post_tells}
use Rattle.st_scheduled.proofs.scheduled_machine.ScheduledMachine.post.Goals as goal
use Rattle.st_scheduled.proofs.scheduled_machine.ScheduledMachine.post.Goals.{else-is_full-via-then-is_full+else-post_needs_count, else-is_full-via-else-is_full}

-- no number of the count is left
pub returns-then-post_needs_count-clause-told : goal.returns-then-post_needs_count-clause-told
returns-then-post_needs_count-clause-told g c =
    let callbacks = callbacks_of g.M.Module g.M.State.PartialEq.eq in
    tells_at callbacks c.args.self.now c.args.self.now (command.Post c.args.entry c.args.content) _ _ c.args.self.now c.args.self.now refl (ap (λ (refused : Refused _). refused_with {S = g.row.M-State.Denot} refused.refusal (Some refused.value)) c.new.ensures) refl (full_tells callbacks c.args.self.now (command.Post c.args.entry c.args.content) (sym c.is_full.ensures ∙ c.if-is_full.true) (sym (c.post_needs_count.ensures c.args.entry c.args.content) ∙ c.if-post_needs_count.true))

-- a number of the count is left
pub overflow_add-self : goal.overflow_add-self
overflow_add-self g c =
    let callbacks = callbacks_of g.M.Module g.M.State.PartialEq.eq in
    let room : HasRoom callbacks c.args.self.now (command.Post c.args.entry c.args.content) =
    elim c.else-is_full.branch [
      | else-is_full-via-then-is_full+else-post_needs_count w ↦ unless_needed callbacks c.args.self.now (command.Post c.args.entry c.args.content) (sym (w.post_needs_count.ensures c.args.entry c.args.content) ∙ w.if-post_needs_count.false)
      | else-is_full-via-else-is_full w ↦ unless_full callbacks c.args.self.now (command.Post c.args.entry c.args.content) (sym c.is_full.ensures ∙ w.if-is_full.false)
    ] in
    let left : c.self.inside.count + 1 < 2 ^ 63 = room_left callbacks (record { core = c.self.inside.core; count = c.self.inside.count; token = c.self.inside.token }) (command.Post c.args.entry c.args.content) (answer.Post (Ok c.in-Ok.number)) c.post.new.self c.in-Ok.ensures.does refl refl (λ same. sym (ap is_refusal same)) (rw (← c.self.view_is) at room) in
    omega (arith, left)

-- the event was posted
pub returns-in-Ok-clause-told : goal.returns-in-Ok-clause-told
returns-in-Ok-clause-told g c =
    let callbacks = callbacks_of g.M.Module g.M.State.PartialEq.eq in
    let old : ScheduledMachine _ _ _ _ = record { core = c.self.inside.core; count = c.self.inside.count; token = c.self.inside.token } in
    let room : HasRoom callbacks c.args.self.now (command.Post c.args.entry c.args.content) =
    elim c.else-is_full.branch [
      | else-is_full-via-then-is_full+else-post_needs_count w ↦ unless_needed callbacks c.args.self.now (command.Post c.args.entry c.args.content) (sym (w.post_needs_count.ensures c.args.entry c.args.content) ∙ w.if-post_needs_count.false)
      | else-is_full-via-else-is_full w ↦ unless_full callbacks c.args.self.now (command.Post c.args.entry c.args.content) (sym c.is_full.ensures ∙ w.if-is_full.false)
    ] in
    tells_at callbacks c.args.self.now old (command.Post c.args.entry c.args.content) _ _ c.wake-wake.new.self _ c.self.view_is (ap (λ (wake : Option Token). Posted c.in-Ok.number wake) c.wake-wake.ensures.wake) c.wake-wake.ensures.issued (post_tells callbacks old c.post.new.self c.args.entry c.args.content c.in-Ok.number c.in-Ok.ensures.does (rw (← c.self.view_is) at room))

-- it was refused
pub returns-in-Err-clause-told : goal.returns-in-Err-clause-told
returns-in-Err-clause-told g c =
    let callbacks = callbacks_of g.M.Module g.M.State.PartialEq.eq in
    let old : ScheduledMachine _ _ _ _ = record { core = c.self.inside.core; count = c.self.inside.count; token = c.self.inside.token } in
    let room : HasRoom callbacks c.args.self.now (command.Post c.args.entry c.args.content) =
    elim c.else-is_full.branch [
      | else-is_full-via-then-is_full+else-post_needs_count w ↦ unless_needed callbacks c.args.self.now (command.Post c.args.entry c.args.content) (sym (w.post_needs_count.ensures c.args.entry c.args.content) ∙ w.if-post_needs_count.false)
      | else-is_full-via-else-is_full w ↦ unless_full callbacks c.args.self.now (command.Post c.args.entry c.args.content) (sym c.is_full.ensures ∙ w.if-is_full.false)
    ] in
    tells_at callbacks c.args.self.now old (command.Post c.args.entry c.args.content) _ _ (record { core = c.post.new.self; count = c.self.inside.count; token = c.self.inside.token }) _ c.self.view_is refl (ap (λ (core : Machine _ _ _ _). record { core = core; count = old.count; token = old.token }) c.in-Err.ensures.unchanged) (refused_post_tells callbacks old c.post.new.self c.args.entry c.args.content c.in-Err.refused c.in-Err.ensures.does (rw (← c.self.view_is) at room))

pub returns-in-Err-clause-returned : goal.returns-in-Err-clause-returned
returns-in-Err-clause-returned g c = c.in-Err.ensures.returned
