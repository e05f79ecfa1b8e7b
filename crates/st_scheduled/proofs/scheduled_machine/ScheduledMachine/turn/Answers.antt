use Rattle.std.proofs.Common.{◌≡◌, ◌+◌, ◌^◌, ◌<◌, refl, sym, ap, ◌∙◌, arith}
use Rattle.std.specs.Prelude.{Ok}
use Rattle.st_answers.specs.declared.answer.Answer.TheVariants as answer
use Rattle.st_answers.specs.declared.command.Command.TheVariants as command
use Rattle.st_core.specs.Callbacks.{callbacks_of}
use Rattle.st_core.specs.Run.{is_refusal}
use Rattle.st_answers.specs.declared.turned.Turned.{Turned}
use Rattle.st_answers.specs.declared.turned.Turned.TheVariants.{Idle}
use Rattle.st_core.specs.MachineState.{Machine}
use Rattle.st_scheduled.specs.ScheduledMachine.{ScheduledMachine}
use Rattle.st_scheduled.specs.Serving.{needs_count}
use Rattle.st_scheduled.proofs.ServingLemmas.{room as room_left}
use Rattle.st_scheduled.proofs.ToldByCalls.{HasRoom, unless_needed, unless_full, full_tells, tells_at, turn_tells, refused_turn_tells}
use Rattle.st_scheduled.proofs.scheduled_machine.ScheduledMachine.turn.Goals as goal
use Rattle.st_scheduled.proofs.scheduled_machine.ScheduledMachine.turn.Goals.{else-is_full-via-then-is_full+else-turn_needs_count, else-is_full-via-else-is_full}

-- no number of the count is left
pub returns-then-turn_needs_count : goal.returns-then-turn_needs_count
returns-then-turn_needs_count g c =
    let callbacks = callbacks_of g.M.Module g.M.State.PartialEq.eq in
    record { told = full_tells callbacks c.args.self.now (command.Turn c.args.now) (sym c.is_full.ensures ∙ c.if-is_full.true) (sym c.turn_needs_count.ensures ∙ c.if-turn_needs_count.true) }

-- a number of the count is left
pub overflow_add-self : goal.overflow_add-self
overflow_add-self g c =
    let callbacks = callbacks_of g.M.Module g.M.State.PartialEq.eq in
    let room : HasRoom callbacks c.args.self.now (command.Turn c.args.now) =
    elim c.else-is_full.branch [
      | else-is_full-via-then-is_full+else-turn_needs_count w ↦ unless_needed callbacks c.args.self.now (command.Turn c.args.now) (sym w.turn_needs_count.ensures ∙ w.if-turn_needs_count.false)
      | else-is_full-via-else-is_full w ↦ unless_full callbacks c.args.self.now (command.Turn c.args.now) (sym c.is_full.ensures ∙ w.if-is_full.false)
    ] in
    let left : c.self.inside.count + 1 < 2 ^ 63 = room_left callbacks (record { core = c.self.inside.core; count = c.self.inside.count; token = c.self.inside.token }) (command.Turn c.args.now) (answer.Turn (Ok c.in-Ok-Reported.field-0)) c.turn.new.self c.in-Ok-Reported.ensures.does refl (ap (λ (turned : Turned _). needs_count {S = g.row.M-State.Denot} {C = g.row.M-Content.Denot} (answer.Turn (Ok turned))) c.in-Ok-Reported.field-0-is) (λ same. sym (ap is_refusal same)) (rw (← c.self.view_is) at room) in
    omega (arith, left)

-- there was no event
pub returns-in-Ok-Idle : goal.returns-in-Ok-Idle
returns-in-Ok-Idle g c =
    let callbacks = callbacks_of g.M.Module g.M.State.PartialEq.eq in
    let old : ScheduledMachine _ _ _ _ = record { core = c.self.inside.core; count = c.self.inside.count; token = c.self.inside.token } in
    let room : HasRoom callbacks c.args.self.now (command.Turn c.args.now) =
    elim c.else-is_full.branch [
      | else-is_full-via-then-is_full+else-turn_needs_count w ↦ unless_needed callbacks c.args.self.now (command.Turn c.args.now) (sym w.turn_needs_count.ensures ∙ w.if-turn_needs_count.false)
      | else-is_full-via-else-is_full w ↦ unless_full callbacks c.args.self.now (command.Turn c.args.now) (sym c.is_full.ensures ∙ w.if-is_full.false)
    ] in
    record { told = tells_at callbacks c.args.self.now old (command.Turn c.args.now) _ _ c.serve_idle.new.self _ c.self.view_is c.serve_idle.ensures.answer c.serve_idle.ensures.left (turn_tells callbacks old c.turn.new.self c.args.now c.in-Ok-Idle.field-0 Idle c.in-Ok-Idle.field-0-is c.in-Ok-Idle.ensures.does (rw (← c.self.view_is) at room)) }

-- it was refused
pub returns-in-Err : goal.returns-in-Err
returns-in-Err g c =
    let callbacks = callbacks_of g.M.Module g.M.State.PartialEq.eq in
    let old : ScheduledMachine _ _ _ _ = record { core = c.self.inside.core; count = c.self.inside.count; token = c.self.inside.token } in
    let room : HasRoom callbacks c.args.self.now (command.Turn c.args.now) =
    elim c.else-is_full.branch [
      | else-is_full-via-then-is_full+else-turn_needs_count w ↦ unless_needed callbacks c.args.self.now (command.Turn c.args.now) (sym w.turn_needs_count.ensures ∙ w.if-turn_needs_count.false)
      | else-is_full-via-else-is_full w ↦ unless_full callbacks c.args.self.now (command.Turn c.args.now) (sym c.is_full.ensures ∙ w.if-is_full.false)
    ] in
    record { told = tells_at callbacks c.args.self.now old (command.Turn c.args.now) _ _ (record { core = c.turn.new.self; count = c.self.inside.count; token = c.self.inside.token }) _ c.self.view_is refl (ap (λ (core : Machine _ _ _ _). record { core = core; count = old.count; token = old.token }) c.in-Err.ensures.unchanged) (refused_turn_tells callbacks old c.turn.new.self c.args.now c.in-Err.refusal c.in-Err.ensures.does (rw (← c.self.view_is) at room)) }
