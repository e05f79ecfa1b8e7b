use Rattle.std.proofs.Common.{arith}
use Rattle.st_core.specs.Callbacks.{callbacks_of}
use Rattle.st_client.proofs.CheckedLemmas.{wait_on}
use Rattle.st_client.proofs.collection.first_answered.Goals as goal

pub loop-place-init : goal.loop-place-init
loop-place-init g c = λ earlier none. absurd (omega (arith, none))

-- this one does not wait
pub returns-in_default : goal.returns-in_default
returns-in_default g c = record {
  found = (
    omega (arith, c.loop-place-test.true, c.loop-place.auto.place-end, c.size-place-end.ensures.size),
    c.in_default.not-Waiting,
    c.in_ok-collected.ensures.answered,
    c.loop-place.invariant,
  );
  refusals = tt;
}

-- this one waits
pub loop-place-preserved : goal.loop-place-preserved
loop-place-preserved g c =
    let answered = rw c.in-Waiting.is at c.in_ok-collected.ensures.answered in
    wait_on (callbacks_of g.M.Module g.M.State.PartialEq.eq) c.args.collection.now c.loop-place.place c.loop-place.invariant answered

-- each waits
pub returns-clause-found : goal.returns-clause-found
returns-clause-found g c =
    λ earlier within. c.loop-place.invariant earlier (omega (arith, within, c.loop-place-test.false, c.loop-place.auto.place-end, c.size-place-end.ensures.size))
