use Rattle.std.proofs.Common.{◌≡◌, ◌+◌, ◌^◌, ◌<◌, false, refl, sym, ◌∙◌, arith}
use Rattle.std.specs.Prelude.{if◌then◌else◌}
use Rattle.st_answers.specs.declared.command.Command.TheVariants as command
use Rattle.st_core.specs.Callbacks.{callbacks_of}
use Rattle.st_scheduled.specs.Serving.{counted}
use Rattle.st_scheduled.specs.ScheduledMachine.{ScheduledMachine}
use Rattle.st_scheduled.proofs.ToldByCalls.{HasRoom, unless_needed, unless_full, full_tells, tells_at, collect_tells, below, never, first_of, second_of}
use Rattle.st_scheduled.proofs.scheduled_machine.ScheduledMachine.collect.Goals as goal
use Rattle.st_scheduled.proofs.scheduled_machine.ScheduledMachine.collect.Goals.{else-is_full-via-then-is_full+else-hands_out, else-is_full-via-else-is_full, then-hands_out-2, else-hands_out-2}

-- no number of the count is left
pub returns-then-hands_out : goal.returns-then-hands_out
returns-then-hands_out g c =
    let callbacks = callbacks_of g.M.Module g.M.State.PartialEq.eq in
    record { told = full_tells callbacks c.args.self.now (command.Collect c.args.tag) (sym c.is_full.ensures ∙ c.if-is_full.true) (sym c.collect_needs_count-hands_out.ensures ∙ c.if-hands_out.true) }

-- a number of the count is left
pub overflow_add-self : goal.overflow_add-self
overflow_add-self g c =
    let room : c.is_full.result ≡ false =
    elim c.else-is_full.branch [
      | else-is_full-via-then-is_full+else-hands_out w ↦ absurd (never (sym w.if-hands_out.false ∙ c.if-hands_out-2.true))
      | else-is_full-via-else-is_full w ↦ w.if-is_full.false
    ] in
    let left : c.self.inside.count + 1 < 2 ^ 63 = below c.self.inside.count (rw (← c.self.view_is) at (sym c.is_full.ensures ∙ room)) in
    omega (arith, left)

-- it is collected
pub returns : goal.returns
returns g c =
    let callbacks = callbacks_of g.M.Module g.M.State.PartialEq.eq in
    let old : ScheduledMachine _ _ _ _ = record { core = c.self.inside.core; count = c.self.inside.count; token = c.self.inside.token } in
    let room : HasRoom callbacks c.args.self.now (command.Collect c.args.tag) =
    elim c.else-is_full.branch [
      | else-is_full-via-then-is_full+else-hands_out w ↦ unless_needed callbacks c.args.self.now (command.Collect c.args.tag) (sym c.collect_needs_count-hands_out.ensures ∙ w.if-hands_out.false)
      | else-is_full-via-else-is_full w ↦ unless_full callbacks c.args.self.now (command.Collect c.args.tag) (sym c.is_full.ensures ∙ w.if-is_full.false)
    ] in
    let counted_or : c.if-hands_out-2.self ≡ (if c.collect_needs_count-hands_out.result then counted old c.collect-collected.new.self else record old { core = c.collect-collected.new.self }) =
    elim c.if-hands_out-2.branch [
      | then-hands_out-2 w ↦ w.self-is ∙ first_of c.collect_needs_count-hands_out.result (counted old c.collect-collected.new.self) (record old { core = c.collect-collected.new.self }) w.if-hands_out-2.true
      | else-hands_out-2 w ↦ w.self-is ∙ second_of c.collect_needs_count-hands_out.result (counted old c.collect-collected.new.self) (record old { core = c.collect-collected.new.self }) w.if-hands_out-2.false
    ] in
    record { told = tells_at callbacks c.args.self.now old (command.Collect c.args.tag) _ _ c.if-hands_out-2.self _ c.self.view_is refl counted_or (collect_tells callbacks old c.collect-collected.new.self c.args.tag c.collect-collected.result c.collect_needs_count-hands_out.result (rw (← c.self.view_is) at c.collect_needs_count-hands_out.ensures) c.collect-collected.ensures.does (rw (← c.self.view_is) at room)) }
