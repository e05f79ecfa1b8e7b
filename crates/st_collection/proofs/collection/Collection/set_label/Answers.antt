use Rattle.std.proofs.Common.{map, sym, ap, ◌∙◌}
use Rattle.indexmap.proofs.CallerLemmas.{keys-with_value_at}
use Rattle.st_collection.specs.Collection.{tag_of, with_label}
use Rattle.st_collection.proofs.AddedLemmas.{values_set, tags_stay}
use Rattle.st_collection.proofs.collection.Collection.set_label.Goals as goal

pub returns : goal.returns
returns g c = values_set c.self.inside.sent.entries c.args.place c.index_mut-sent.result.now c.args.label c.index_mut-sent.ensures.value
    ∙ ap (with_label c.args.place c.args.label) c.self.view_is

-- the tags stay
pub invariant_of-self : goal.invariant_of-self
invariant_of-self g c =
    let entries = c.self.inside.sent.entries in
    keys-with_value_at c.self.inside.sent c.args.place _ ∙ (c.self.invariant
    ∙ sym (ap (map (tag_of g.Q.Request.tag_is)) (values_set entries c.args.place c.index_mut-sent.result.now c.args.label c.index_mut-sent.ensures.value)
    ∙ tags_stay g.Q.Request.tag_is c.args.place c.args.label _))
