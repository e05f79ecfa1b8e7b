use Rattle.std.proofs.Common.{◌≡◌, sym, ap, arith, is_some}
use Rattle.st_directory.specs.DirectoryState.{value_in}
use Rattle.st_directory.proofs.SlotLemmas.{stored_at, some_copied, value_at, values_from-cleared}
use Rattle.st_directory.proofs.values.Values.remove.Goals as goal

pub remove-value-requires : goal.remove-value-requires
remove-value-requires g c =
    let there = stored_at c.args.id c.self.inside.slab.slots (rw (← c.self.view_is) at (some_copied c.get.result (value_in c.args.id c.args.self.now.values) c.get.ensures c.if-is_none.ensures)) in
    ap is_some there.held

pub returns-clause-value : goal.returns-clause-value
returns-clause-value g c =
    let there = stored_at c.args.id c.self.inside.slab.slots (rw (← c.self.view_is) at (some_copied c.get.result (value_in c.args.id c.args.self.now.values) c.get.ensures c.if-is_none.ensures)) in
    let is : there.stored ≡ c.remove-value.result = cc in
    rw (← c.self.view_is) (sym (value_at c.args.id c.self.inside.slab.slots c.remove-value.result c.remove-value.ensures.value (rw (← is) there.same)))

pub returns-clause-removed : goal.returns-clause-removed
returns-clause-removed g c =
    let there = stored_at c.args.id c.self.inside.slab.slots (rw (← c.self.view_is) at (some_copied c.get.result (value_in c.args.id c.args.self.now.values) c.get.ensures c.if-is_none.ensures)) in
    rw (← c.self.view_is, c.remove-value.ensures.slots)
    (values_from-cleared 0 c.args.id.slot c.args.id c.self.inside.slab.slots there.stored (omega arith) there.held (sym there.same))
