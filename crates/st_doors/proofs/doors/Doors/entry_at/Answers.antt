use Rattle.st_doors.proofs.NumberLemmas.{named-at}
use Rattle.st_doors.proofs.doors.Doors.entry_at.Goals as goal

-- the entry is that of the door at the place
pub returns : goal.returns
returns c d = rw (← c.self.view_is) (named-at c.self.inside.entries c.args.place c.entry_at.result.0.now c.entry_at.result.1.now d c.entry_at.ensures)
