use Rattle.std.proofs.Common.{remove, ap, sym, ◌∙◌}
use Rattle.std.specs.Map.{values_of}
use Rattle.indexmap.proofs.SetLemmas.{map-remove}
use Rattle.st_collection.proofs.TakenLemmas.{value_at, tags_without}
use Rattle.st_collection.proofs.collection.Collection.take.Goals as goal

-- the keys are the tags again
pub invariant_of-self : goal.invariant_of-self
invariant_of-self g c =
    rw c.shift_remove_index.ensures.entries (tags_without g.Q.Request.tag_is c.self.inside.sent.entries c.args.place c.self.invariant)

pub returns-clause-label : goal.returns-clause-label
returns-clause-label g c sent there =
    let entries = c.self.inside.sent.entries in
    let value = rw (← c.self.view_is) at there in
    ap (λ taken. taken.label) (value_at entries c.args.place c.unwrap-taken.result sent (sym c.shift_remove_index.ensures.entry ∙ c.unwrap-taken.ensures) value)

pub returns-clause-taken : goal.returns-clause-taken
returns-clause-taken g c =
    ap values_of c.shift_remove_index.ensures.entries ∙ (map-remove _ c.self.inside.sent.entries c.args.place
    ∙ ap (λ all. remove all c.args.place) c.self.view_is)
