use Rattle.st_doors.proofs.NumberLemmas.{serials-rise}
use Rattle.st_doors.proofs.doors.Doors.serials_rise.Goals as goal

pub returns : goal.returns
returns c = rw (← c.self.view_is) (serials-rise 0 c.self.inside.entries c.self.inside.next c.self.invariant.1 c.self.invariant.2)
