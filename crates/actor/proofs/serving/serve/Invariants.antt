use Rattle.st_core.specs.Callbacks.{callbacks_of}
use Rattle.actor.specs.Serving.{IsServed}
use Rattle.actor.proofs.serving.serve.Given as goal

abbrev pub invariant-loop : goal.invariant-loop
invariant-loop g l =
    record {
      can_next : (goal.iterator-loop g).can_next l.iterator';
      is_finite : (goal.iterator-loop g).is_finite l.iterator';
      served : IsServed (callbacks_of g.M.Module g.M.State.PartialEq.eq) g.O.Observer.hears g.O.Observer.takes l.fn.core l.fn.observer l.core l.observer;
    }
