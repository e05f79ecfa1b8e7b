use Rattle.std.proofs.Common.{◌≡◌, ◌+◌, ◌^◌, ◌<◌, false, refl, sym, ◌∙◌, arith}
use Rattle.std.specs.Prelude.{if◌then◌else◌}
use Rattle.st_answers.specs.declared.command.Command.TheVariants as command
use Rattle.st_core.specs.Callbacks.{callbacks_of}
use Rattle.st_core.specs.Run.{step_on}
use Rattle.st_scheduled.specs.Serving.{counted, needs_count}
use Rattle.st_scheduled.specs.ScheduledMachine.{ScheduledMachine}
use Rattle.st_scheduled.proofs.ToldByCalls.{HasRoom, unless_needed, unless_full, full_tells, tells_at, take_out_needs, take_out_tells, below, never, first_of, second_of}
use Rattle.st_scheduled.proofs.scheduled_machine.ScheduledMachine.take_out.Goals as goal
use Rattle.st_scheduled.proofs.scheduled_machine.ScheduledMachine.take_out.Goals.{else-is_full-via-then-is_full+else-has_message, else-is_full-via-else-is_full, then-has_message-2, else-has_message-2}

-- no number of the count is left
pub returns-then-has_message : goal.returns-then-has_message
returns-then-has_message g c =
    let callbacks = callbacks_of g.M.Module g.M.State.PartialEq.eq in
    let old : ScheduledMachine _ _ _ _ = record { core = c.self.inside.core; count = c.self.inside.count; token = c.self.inside.token } in
    let needed : needs_count (step_on callbacks c.args.self.now.core command.TakeOut).0 ≡ c.has_message-has_message.result =
    rw (← c.self.view_is) (take_out_needs callbacks old c.self.inside.core ∙ sym c.has_message-has_message.ensures) in
    record { told = full_tells callbacks c.args.self.now command.TakeOut (sym c.is_full.ensures ∙ c.if-is_full.true) (needed ∙ c.if-has_message.true) }

-- a number of the count is left
pub overflow_add-self : goal.overflow_add-self
overflow_add-self g c =
    let room : c.is_full.result ≡ false =
    elim c.else-is_full.branch [
      | else-is_full-via-then-is_full+else-has_message w ↦ absurd (never (sym w.if-has_message.false ∙ c.if-has_message-2.true))
      | else-is_full-via-else-is_full w ↦ w.if-is_full.false
    ] in
    let left : c.self.inside.count + 1 < 2 ^ 63 = below c.self.inside.count (rw (← c.self.view_is) at (sym c.is_full.ensures ∙ room)) in
    omega (arith, left)

-- it is taken out
pub returns : goal.returns
returns g c =
    let callbacks = callbacks_of g.M.Module g.M.State.PartialEq.eq in
    let old : ScheduledMachine _ _ _ _ = record { core = c.self.inside.core; count = c.self.inside.count; token = c.self.inside.token } in
    let needed : needs_count (step_on callbacks c.args.self.now.core command.TakeOut).0 ≡ c.has_message-has_message.result =
    rw (← c.self.view_is) (take_out_needs callbacks old c.self.inside.core ∙ sym c.has_message-has_message.ensures) in
    let room : HasRoom callbacks c.args.self.now command.TakeOut =
    elim c.else-is_full.branch [
      | else-is_full-via-then-is_full+else-has_message w ↦ unless_needed callbacks c.args.self.now command.TakeOut (needed ∙ w.if-has_message.false)
      | else-is_full-via-else-is_full w ↦ unless_full callbacks c.args.self.now command.TakeOut (sym c.is_full.ensures ∙ w.if-is_full.false)
    ] in
    let counted_or : c.if-has_message-2.self ≡ (if c.has_message-has_message.result then counted old c.take_out-message.new.self else record old { core = c.take_out-message.new.self }) =
    elim c.if-has_message-2.branch [
      | then-has_message-2 w ↦ w.self-is ∙ first_of c.has_message-has_message.result (counted old c.take_out-message.new.self) (record old { core = c.take_out-message.new.self }) w.if-has_message-2.true
      | else-has_message-2 w ↦ w.self-is ∙ second_of c.has_message-has_message.result (counted old c.take_out-message.new.self) (record old { core = c.take_out-message.new.self }) w.if-has_message-2.false
    ] in
    record { told = tells_at callbacks c.args.self.now old command.TakeOut _ _ c.if-has_message-2.self _ c.self.view_is refl counted_or (take_out_tells callbacks old c.take_out-message.new.self c.take_out-message.result c.has_message-has_message.result c.has_message-has_message.ensures c.take_out-message.ensures (rw (← c.self.view_is) at room)) }
