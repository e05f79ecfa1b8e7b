use Rattle.std.proofs.Common.{◌+◌, ◌^◌, ◌<◌, refl, sym, ap, ◌∙◌, arith}
use Rattle.std.specs.Prelude.{Option, Ok}
use Rattle.st_answers.specs.declared.answer.Answer.TheVariants as answer
use Rattle.st_answers.specs.declared.command.Command.TheVariants as command
use Rattle.st_core.specs.Callbacks.{callbacks_of}
use Rattle.st_core.specs.Run.{is_refusal}
use Rattle.st_core.specs.MachineState.{Machine}
use Rattle.st_events.specs.declared.token.Token.{Token}
use Rattle.st_scheduled.specs.declared.step_answer.StepAnswer.TheVariants.{Ticked}
use Rattle.st_scheduled.specs.ScheduledMachine.{ScheduledMachine}
use Rattle.st_scheduled.proofs.ServingLemmas.{room as room_left}
use Rattle.st_scheduled.proofs.ToldByCalls.{HasRoom, unless_needed, unless_full, full_tells, tells_at, tick_tells, refused_tick_tells}
use Rattle.st_scheduled.proofs.scheduled_machine.ScheduledMachine.tick.Goals as goal
use Rattle.st_scheduled.proofs.scheduled_machine.ScheduledMachine.tick.Goals.{else-is_full-via-then-is_full+else-tick_needs_count, else-is_full-via-else-is_full}

-- no number of the count is left
pub returns-then-tick_needs_count : goal.returns-then-tick_needs_count
returns-then-tick_needs_count g c =
    let callbacks = callbacks_of g.M.Module g.M.State.PartialEq.eq in
    record { told = full_tells callbacks c.args.self.now (command.Tick c.args.now) (sym c.is_full.ensures ∙ c.if-is_full.true) (sym c.tick_needs_count.ensures ∙ c.if-tick_needs_count.true) }

-- a number of the count is left
pub overflow_add-self : goal.overflow_add-self
overflow_add-self g c =
    let callbacks = callbacks_of g.M.Module g.M.State.PartialEq.eq in
    let room : HasRoom callbacks c.args.self.now (command.Tick c.args.now) =
    elim c.else-is_full.branch [
      | else-is_full-via-then-is_full+else-tick_needs_count w ↦ unless_needed callbacks c.args.self.now (command.Tick c.args.now) (sym w.tick_needs_count.ensures ∙ w.if-tick_needs_count.false)
      | else-is_full-via-else-is_full w ↦ unless_full callbacks c.args.self.now (command.Tick c.args.now) (sym c.is_full.ensures ∙ w.if-is_full.false)
    ] in
    let left : c.self.inside.count + 1 < 2 ^ 63 = room_left callbacks (record { core = c.self.inside.core; count = c.self.inside.count; token = c.self.inside.token }) (command.Tick c.args.now) (answer.Tick (Ok c.in-Ok.expired)) c.tick_to.new.self c.in-Ok.ensures.does refl refl (λ same. sym (ap is_refusal same)) (rw (← c.self.view_is) at room) in
    omega (arith, left)

-- the moment was told
pub returns-in-Ok : goal.returns-in-Ok
returns-in-Ok g c =
    let callbacks = callbacks_of g.M.Module g.M.State.PartialEq.eq in
    let old : ScheduledMachine _ _ _ _ = record { core = c.self.inside.core; count = c.self.inside.count; token = c.self.inside.token } in
    let room : HasRoom callbacks c.args.self.now (command.Tick c.args.now) =
    elim c.else-is_full.branch [
      | else-is_full-via-then-is_full+else-tick_needs_count w ↦ unless_needed callbacks c.args.self.now (command.Tick c.args.now) (sym w.tick_needs_count.ensures ∙ w.if-tick_needs_count.false)
      | else-is_full-via-else-is_full w ↦ unless_full callbacks c.args.self.now (command.Tick c.args.now) (sym c.is_full.ensures ∙ w.if-is_full.false)
    ] in
    record { told = tells_at callbacks c.args.self.now old (command.Tick c.args.now) _ _ c.wake-wake.new.self _ c.self.view_is (ap (λ (wake : Option Token). Ticked c.in-Ok.expired wake) c.wake-wake.ensures.wake) c.wake-wake.ensures.issued (tick_tells callbacks old c.tick_to.new.self c.args.now c.in-Ok.expired c.in-Ok.ensures.does (rw (← c.self.view_is) at room)) }

-- it was refused
pub returns-in-Err : goal.returns-in-Err
returns-in-Err g c =
    let callbacks = callbacks_of g.M.Module g.M.State.PartialEq.eq in
    let old : ScheduledMachine _ _ _ _ = record { core = c.self.inside.core; count = c.self.inside.count; token = c.self.inside.token } in
    let room : HasRoom callbacks c.args.self.now (command.Tick c.args.now) =
    elim c.else-is_full.branch [
      | else-is_full-via-then-is_full+else-tick_needs_count w ↦ unless_needed callbacks c.args.self.now (command.Tick c.args.now) (sym w.tick_needs_count.ensures ∙ w.if-tick_needs_count.false)
      | else-is_full-via-else-is_full w ↦ unless_full callbacks c.args.self.now (command.Tick c.args.now) (sym c.is_full.ensures ∙ w.if-is_full.false)
    ] in
    record { told = tells_at callbacks c.args.self.now old (command.Tick c.args.now) _ _ (record { core = c.tick_to.new.self; count = c.self.inside.count; token = c.self.inside.token }) _ c.self.view_is refl (ap (λ (core : Machine _ _ _ _). record { core = core; count = old.count; token = old.token }) c.in-Err.ensures.unchanged) (refused_tick_tells callbacks old c.tick_to.new.self c.args.now c.in-Err.refusal c.in-Err.ensures.does (rw (← c.self.view_is) at room)) }
