use Rattle.std.proofs.Common.{ap, ◌∙◌}
use Rattle.st_collection.specs.Collection.{added}
use Rattle.st_collection.proofs.AddedLemmas.{added_new, tags_new}
use Rattle.st_collection.proofs.collection.Collection.push.Goals as goal

pub returns-in-Ok-clause-pushed : goal.returns-in-Ok-clause-pushed
returns-in-Ok-clause-pushed g c =
    let none = rw (← c.self.view_is) at c.requires in
    added_new g.Q.Request.tag_is c.args.request c.args.label c.self.inside.sent.entries c.insert.new.self.entries c.self.invariant none
    (rw c.tag.ensures at c.in-Ok.ensures.entries) ∙ ap (added g.Q.Request.tag_is c.args.request c.args.label) c.self.view_is

-- the keys are the tags again
pub invariant_of-self : goal.invariant_of-self
invariant_of-self g c =
    let none = rw (← c.self.view_is) at c.requires in
    tags_new g.Q.Request.tag_is c.args.request c.args.label c.self.inside.sent.entries c.insert.new.self.entries c.self.invariant none
    (rw c.tag.ensures at c.in-Ok.ensures.entries)
