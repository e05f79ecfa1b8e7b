use Rattle.std.proofs.Common.{sym, ◌∙◌}
use Rattle.st_collection.proofs.AddedLemmas.{added_there}
use Rattle.st_collection.proofs.collection.Collection.add.Goals as goal

pub returns-in-Some-clause-added : goal.returns-in-Some-clause-added
returns-in-Some-clause-added g c =
    c.set_label.ensures ∙ added_there g.Q.Request.tag_is c.args.request c.args.label c.args.self.now c.in-Some.place
    (rw c.tag.ensures at (sym c.place_of.ensures.place ∙ c.in-Some.is))
