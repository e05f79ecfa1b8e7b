use Rattle.st_core.specs.Callbacks.{callbacks_of}
use Rattle.actor.proofs.ServingLemmas.{served_silently}
use Rattle.actor.proofs.serving.go_on.Goals as goal

-- time-outs that are due expired, or could not
pub returns-then-is_due-clause-served : goal.returns-then-is_due-clause-served
returns-then-is_due-clause-served g c =
    served_silently (callbacks_of g.M.Module g.M.State.PartialEq.eq) g.O.Observer.hears g.O.Observer.takes c.args.core.now c.tick.new.core c.args.observer.now c.tick.ensures.served

-- an event was posted, or there was none, or it could not be posted
pub returns-else-has_event-clause-served : goal.returns-else-has_event-clause-served
returns-else-has_event-clause-served g c =
    served_silently (callbacks_of g.M.Module g.M.State.PartialEq.eq) g.O.Observer.hears g.O.Observer.takes c.args.core.now c.receive.new.core c.args.observer.now c.receive.ensures.served
