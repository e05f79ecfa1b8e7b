use Rattle.st_core.specs.Callbacks.{callbacks_of}
use Rattle.actor.proofs.ServingLemmas.{served_none}
use Rattle.actor.proofs.serving.step.Goals as goal

-- it has ended
pub returns-in-Some-clause-served : goal.returns-in-Some-clause-served
returns-in-Some-clause-served g c =
    served_none (callbacks_of g.M.Module g.M.State.PartialEq.eq) g.O.Observer.hears g.O.Observer.takes c.args.core.now c.args.observer.now
