use Rattle.std.proofs.Common.{sym}
use Rattle.st_directory.proofs.SlotLemmas.{nothing_at, value_at, another_at}
use Rattle.st_directory.proofs.values.Values.get.Goals as goal

pub returns-in_err-stored : goal.returns-in_err-stored
returns-in_err-stored g c = rw c.from_residual.ensures (rw (← c.self.view_is) (sym (nothing_at c.args.id c.self.inside.slab.slots (sym c.in_err-stored.ensures))))

pub returns-then-stored-id : goal.returns-then-stored-id
returns-then-stored-id g c =
    rw (← c.self.view_is) (sym (value_at c.args.id c.self.inside.slab.slots c.in_ok-stored.stored.now (sym c.in_ok-stored.ensures) c.if-stored-id.true))

pub returns-else-stored-id : goal.returns-else-stored-id
returns-else-stored-id g c =
    rw (← c.self.view_is) (sym (another_at c.args.id c.self.inside.slab.slots c.in_ok-stored.stored.now (sym c.in_ok-stored.ensures) c.if-stored-id.false))
