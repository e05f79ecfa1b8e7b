use Rattle.st_core.specs.Callbacks.{callbacks_of}
use Rattle.st_client.proofs.CheckedLemmas.{taken_out}
use Rattle.st_client.proofs.collection.check_any.Goals as goal

-- the request that is taken out is the one at the place
pub returns-in-Reply-clause-checked : goal.returns-in-Reply-clause-checked
returns-in-Reply-clause-checked g c =
    let found = rw c.in-Some.is at c.in_ok-place.ensures.found in
    let answers = rw c.in-Reply.is at found.2 in
    taken_out (callbacks_of g.M.Module g.M.State.PartialEq.eq) c.args.collection.now c.take-label.new.self c.in-Some.place _ c.take-label.result found.0 c.take-label.ensures.label c.take-label.ensures.taken answers found.3

pub returns-in-Stopped-clause-checked : goal.returns-in-Stopped-clause-checked
returns-in-Stopped-clause-checked g c =
    let found = rw c.in-Some.is at c.in_ok-place.ensures.found in
    let answers = rw c.in-Stopped.is at found.2 in
    taken_out (callbacks_of g.M.Module g.M.State.PartialEq.eq) c.args.collection.now c.take-label.new.self c.in-Some.place _ c.take-label.result found.0 c.take-label.ensures.label c.take-label.ensures.taken answers found.3

pub returns-in-Gone-clause-checked : goal.returns-in-Gone-clause-checked
returns-in-Gone-clause-checked g c =
    let found = rw c.in-Some.is at c.in_ok-place.ensures.found in
    let answers = rw c.in-Gone.is at found.2 in
    taken_out (callbacks_of g.M.Module g.M.State.PartialEq.eq) c.args.collection.now c.take-label.new.self c.in-Some.place _ c.take-label.result found.0 c.take-label.ensures.label c.take-label.ensures.taken answers found.3
