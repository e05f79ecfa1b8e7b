use Rattle.st_doors.proofs.TableLemmas.{unnumbered-at}
use Rattle.st_doors.proofs.door_table.DoorTable.entry_at.Goals as goal

pub returns : goal.returns
returns c =
    rw (← c.self.view_is, c.deref.ensures, c.deref-2.ensures)
    (unnumbered-at _ c.self.inside.doors.items c.args.place c.index-entry.result.now (rw c.self.view_is c.requires) c.index-entry.ensures)
