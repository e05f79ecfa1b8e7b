use Rattle.std.proofs.Common.{length, ap, arith}
use Rattle.st_events.proofs.PlacesLemmas.{full-length}
use Rattle.st_events.proofs.small_list.SmallList.len.Goals as goal

-- no place is empty
pub returns : goal.returns
returns g c = record { length = omega (arith, full-length c.self.inside.elements.items c.self.invariant.1, ap length c.self.view_is) }
