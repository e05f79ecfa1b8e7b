use Rattle.std.proofs.Common.{refl, ap}
use Rattle.st_doors.specs.declared.door_table.NumberedDoor.{NumberedDoor}
use Rattle.st_doors.proofs.TableLemmas.{kept-at, changed-at}
use Rattle.st_doors.proofs.door_table.DoorTable.door_mut.Goals as goal

-- the table has the door that is left there, and lends the one that was there
pub returns : goal.returns
returns c = (
  (
    refl,
    λ door. rw (← c.self.view_is) (changed-at _ c.self.inside.doors.items c.args.place c.index_mut.result.now _ door (rw c.self.view_is c.requires) c.index_mut.ensures.value
        (ap (λ (it : NumberedDoor). (it.number, (it.name, door))) c.deref_mut.ensures.value)),
  ),
  record {
    writes_back = tt;
    door = rw (← c.self.view_is, c.deref_mut.ensures.value) (kept-at _ c.self.inside.doors.items c.args.place c.index_mut.result.now (rw c.self.view_is c.requires) c.index_mut.ensures.value);
  },
)
