use Rattle.st_events.proofs.PlacesLemmas.{present-none}
use Rattle.st_events.proofs.small_list.SmallList.is_empty.Goals as goal

-- there is no element where there is no place
pub returns : goal.returns
returns g c = record { empty = rw (c.is_empty.ensures, ← c.self.view_is) (present-none c.self.inside.elements.items c.self.invariant.1) }
