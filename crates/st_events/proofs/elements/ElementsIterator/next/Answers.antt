use Rattle.std.specs.Slice.Iter.{iter_mut_rest}
use Rattle.st_events.proofs.PlacesLemmas.{full-rest, present-first}
use Rattle.st_events.proofs.elements.ElementsIterator.next.Goals as goal

pub invariant_of-self-2 : goal.invariant_of-self-2
invariant_of-self-2 g c =
    full-rest (iter_mut_rest c.self.inside.places) (iter_mut_rest c.next.new.self) c.in_ok-next.field-0.now c.self.invariant c.in_ok-next.ensures.steps

pub returns-clause-steps : goal.returns-clause-steps
returns-clause-steps g c =
    rw (c.take.ensures.value, ← c.self.view_is)
    (present-first (iter_mut_rest c.self.inside.places) (iter_mut_rest c.next.new.self) c.in_ok-next.field-0.now c.self.invariant c.in_ok-next.ensures.steps)
