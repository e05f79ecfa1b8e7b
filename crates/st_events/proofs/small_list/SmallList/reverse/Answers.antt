use Rattle.st_events.proofs.PlacesLemmas.{present-reverse, full-reverse, turned_round}
use Rattle.st_events.proofs.small_list.SmallList.reverse.Goals as goal

pub invariant_of-self : goal.invariant_of-self
invariant_of-self g c =
    let turned = turned_round c.self.inside.elements.items _ _ c.as_mut_slice.ensures.value c.reverse.ensures.len c.reverse.ensures.after in
    (c.self.invariant.0, rw turned (full-reverse _ c.self.invariant.1))

pub returns : goal.returns
returns g c =
    let turned = turned_round c.self.inside.elements.items _ _ c.as_mut_slice.ensures.value c.reverse.ensures.len c.reverse.ensures.after in
    record { reversed = rw (turned, ← c.self.view_is) (present-reverse _ c.self.invariant.1) }
