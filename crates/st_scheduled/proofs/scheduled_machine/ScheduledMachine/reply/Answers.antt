use Rattle.std.proofs.Common.{◌+◌, ◌^◌, ◌<◌, refl, sym, ap, ◌∙◌, arith}
use Rattle.std.specs.Prelude.{Some}
use Rattle.st_answers.specs.declared.command.Command.TheVariants as command
use Rattle.st_core.specs.Callbacks.{callbacks_of}
use Rattle.st_events.specs.declared.refused.Refused.{Refused}
use Rattle.st_scheduled.specs.Serving.{refused_with}
use Rattle.st_scheduled.specs.ScheduledMachine.{ScheduledMachine}
use Rattle.st_scheduled.proofs.ToldByCalls.{HasRoom, unless_full, full_tells, tells_at, reply_tells, below}
use Rattle.st_scheduled.proofs.scheduled_machine.ScheduledMachine.reply.Goals as goal

-- no number of the count is left
pub returns-then-is_full-clause-told : goal.returns-then-is_full-clause-told
returns-then-is_full-clause-told g c =
    let callbacks = callbacks_of g.M.Module g.M.State.PartialEq.eq in
    tells_at callbacks c.args.self.now c.args.self.now (command.Reply c.args.tag c.args.content) _ _ c.args.self.now c.args.self.now refl (ap (λ (refused : Refused _). refused_with {S = g.row.M-State.Denot} refused.refusal (Some refused.value)) c.new.ensures) refl (full_tells callbacks c.args.self.now (command.Reply c.args.tag c.args.content) (sym c.is_full.ensures ∙ c.if-is_full.true) refl)

-- a number of the count is left
pub overflow_add-self : goal.overflow_add-self
overflow_add-self g c =
    let left : c.self.inside.count + 1 < 2 ^ 63 = below c.self.inside.count (rw (← c.self.view_is) at (sym c.is_full.ensures ∙ c.if-is_full.false)) in
    omega (arith, left)

-- it is answered
pub returns-clause-told : goal.returns-clause-told
returns-clause-told g c =
    let callbacks = callbacks_of g.M.Module g.M.State.PartialEq.eq in
    let old : ScheduledMachine _ _ _ _ = record { core = c.self.inside.core; count = c.self.inside.count; token = c.self.inside.token } in
    let room : HasRoom callbacks c.args.self.now (command.Reply c.args.tag c.args.content) = unless_full callbacks c.args.self.now (command.Reply c.args.tag c.args.content) (sym c.is_full.ensures ∙ c.if-is_full.false) in
    tells_at callbacks c.args.self.now old (command.Reply c.args.tag c.args.content) _ _ (record { core = c.reply-taken.new.self; count = c.self.inside.count + 1; token = c.self.inside.token }) _ c.self.view_is refl refl (reply_tells callbacks old c.reply-taken.new.self c.args.tag c.args.content c.reply-taken.result c.reply-taken.ensures.does (rw (← c.self.view_is) at room))
