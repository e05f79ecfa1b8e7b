use Rattle.std.proofs.Common.{arith}
use Rattle.st_directory.proofs.SlotLemmas.{values_from-put, values_from-vacant}
use Rattle.st_directory.proofs.values.Values.insert.Goals as goal

pub returns-clause-inserted : goal.returns-clause-inserted
returns-clause-inserted g c =
    let e = c.insert_reserved.ensures in
    rw (← c.self.view_is) (values_from-put 0 c.insert_reserved.result c.self.inside.slab.vacant_key c.self.inside.slab.slots c.insert_reserved.new.self.slots
    (record { serial = c.args.serial; value = c.args.value }) (omega (arith, e.key)) e.was_vacant e.updates.changed e.updates.others)

pub returns-clause-vacant : goal.returns-clause-vacant
returns-clause-vacant g c =
    let e = c.insert_reserved.ensures in
    rw (← c.self.view_is) (values_from-vacant 0 c.insert_reserved.result c.self.inside.slab.vacant_key c.self.inside.slab.slots (omega (arith, e.key)) e.was_vacant)
