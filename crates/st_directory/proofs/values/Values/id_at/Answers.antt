use Rattle.std.proofs.Common.{arith, refl, rules, sym}
use Rattle.st_directory.specs.Slots.{id_at}
use Rattle.st_directory.proofs.SlotLemmas.{value_at, values_from-vacant}
use Rattle.st_directory.proofs.values.Values.id_at.Goals as goal

pub returns-in_err-stored-clause-vacant : goal.returns-in_err-stored-clause-vacant
returns-in_err-stored-clause-vacant g c =
    rw c.from_residual.ensures (rw (← c.self.view_is)
    (values_from-vacant 0 c.args.slot c.args.slot c.self.inside.slab.slots (omega arith) (sym c.in_err-stored.ensures)))

pub returns-clause-there : goal.returns-clause-there
returns-clause-there g c =
    let stored = c.in_ok-stored.stored.now in
    let at = value_at (id_at c.args.slot stored.serial) c.self.inside.slab.slots stored (sym c.in_ok-stored.ensures) refl in
    (refl, rw (← c.self.view_is) (rw at (search rules)))
