use Rattle.st_core.specs.Callbacks.{callbacks_of}
use Rattle.st_client.proofs.CheckedLemmas.{answered_at, kept_at, refused_at}
use Rattle.st_client.proofs.collection.ask.Goals as goal

-- the request that is asked about is the one at the place
pub returns-clause-answered : goal.returns-clause-answered
returns-clause-answered g c =
    let callbacks = callbacks_of g.M.Module g.M.State.PartialEq.eq in
    kept_at callbacks c.args.collection.now c.args.place c.check.result
    (answered_at callbacks c.args.collection.now c.args.place c.get.result.now c.check.result c.get.ensures c.check.ensures)

pub returns-clause-refusals : goal.returns-clause-refusals
returns-clause-refusals g c =
    let callbacks = callbacks_of g.M.Module g.M.State.PartialEq.eq in
    refused_at callbacks c.args.collection.now c.args.place c.check.result c.requires
    (answered_at callbacks c.args.collection.now c.args.place c.get.result.now c.check.result c.get.ensures c.check.ensures)
