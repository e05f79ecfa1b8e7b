use Rattle.st_core.specs.Callbacks.{callbacks_of}
use Rattle.actor.proofs.ServingLemmas.{served_none, served_on, served_is_run}
use Rattle.actor.proofs.serving.serve.Goals as goal

-- nothing was done yet
pub loop-init : goal.loop-init
loop-init g c = record {
  can_next = tt;
  is_finite = tt;
  served = served_none (callbacks_of g.M.Module g.M.State.PartialEq.eq) g.O.Observer.hears g.O.Observer.takes c.args.core.now c.args.observer.now;
}

-- it was served on
pub loop-preserved : goal.loop-preserved
loop-preserved g c = record {
  can_next = tt;
  is_finite = tt;
  served = served_on (callbacks_of g.M.Module g.M.State.PartialEq.eq) g.O.Observer.hears g.O.Observer.takes c.args.core.now c.args.observer.now
      c.loop.core c.loop.observer c.step.new.core c.step.new.observer c.loop.invariant.served c.step.ensures.served;
}

-- it could not be served on
pub returns-in_err-served-clause-served : goal.returns-in_err-served-clause-served
returns-in_err-served-clause-served g c =
    served_on (callbacks_of g.M.Module g.M.State.PartialEq.eq) g.O.Observer.hears g.O.Observer.takes c.args.core.now c.args.observer.now
    c.loop.core c.loop.observer c.step.new.core c.step.new.observer c.loop.invariant.served c.step.ensures.served

pub returns-in_err-served-clause-run : goal.returns-in_err-served-clause-run
returns-in_err-served-clause-run g c =
    served_is_run (callbacks_of g.M.Module g.M.State.PartialEq.eq) g.O.Observer.hears g.O.Observer.takes c.args.core.now c.args.observer.now c.step.new.core c.step.new.observer
    (returns-in_err-served-clause-served g c)

-- it is served no more
pub returns-in-Some-2-clause-served : goal.returns-in-Some-2-clause-served
returns-in-Some-2-clause-served g c =
    served_on (callbacks_of g.M.Module g.M.State.PartialEq.eq) g.O.Observer.hears g.O.Observer.takes c.args.core.now c.args.observer.now
    c.loop.core c.loop.observer c.step.new.core c.step.new.observer c.loop.invariant.served c.step.ensures.served

pub returns-in-Some-2-clause-run : goal.returns-in-Some-2-clause-run
returns-in-Some-2-clause-run g c =
    served_is_run (callbacks_of g.M.Module g.M.State.PartialEq.eq) g.O.Observer.hears g.O.Observer.takes c.args.core.now c.args.observer.now c.step.new.core c.step.new.observer
    (returns-in-Some-2-clause-served g c)
