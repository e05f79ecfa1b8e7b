use Rattle.std.proofs.Common.{◌∙◌}
use Rattle.st_events.proofs.PlacesLemmas.{present-at, present-past}
use Rattle.st_events.proofs.small_list.SmallList.get.Goals as goal

-- the place is there, and what it holds is shown
pub returns-in-Some : goal.returns-in-Some
returns-in-Some g c =
    let at = rw c.as_slice.ensures at c.in-Some.ensures.lookup in
    record {
      element = rw (← c.self.view_is)
          (c.as_ref.ensures.value ∙ present-at c.self.inside.elements.items c.args.index c.in-Some.place.now c.self.invariant.1 at.0 at.1);
    }

-- there are not so many places
pub returns-in-None : goal.returns-in-None
returns-in-None g c =
    let past = rw c.as_slice.ensures at c.in-None.ensures.lookup in
    record { element = rw (← c.self.view_is) (present-past c.self.inside.elements.items c.args.index c.self.invariant.1 past.0) }
