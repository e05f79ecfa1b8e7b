use Rattle.std.proofs.Common.{sym, ◌∙◌}
use Rattle.st_core.specs.Callbacks.{callbacks_of}
use Rattle.st_scheduled.proofs.TurnLemmas.{ready_needs}
use Rattle.st_scheduled.proofs.scheduled_machine.ScheduledMachine.turn_needs_count.Goals as goal

-- a turn of a machine that has an event needs one
pub returns-then-has_event : goal.returns-then-has_event
returns-then-has_event g c =
    rw (← c.self.view_is) (ready_needs (callbacks_of g.M.Module g.M.State.PartialEq.eq c.self.inside.core.module_) c.self.inside.core.machine c.args.now (sym c.has_event.ensures ∙ c.if-has_event.true))
