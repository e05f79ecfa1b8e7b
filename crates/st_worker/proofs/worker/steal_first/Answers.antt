use Rattle.std.proofs.Common.{arith, length-set}
use Rattle.st_runq.specs.Ends.{robbed_of, stolen_of}
use Rattle.st_worker.proofs.RoundLemmas.{same_map, stole_one}
use Rattle.st_worker.proofs.worker.steal_first.Goals as goal

pub loop-place-preserved : goal.loop-place-preserved
loop-place-preserved c =
    let kept = c.loop-place.invariant in (
      same_map robbed_of _ _ _ _ _ c.index_mut.ensures.value c.steal.ensures.same kept.0,
      same_map stolen_of _ _ _ _ _ c.index_mut.ensures.value c.in_default.ensures.none kept.1,
      simp length-set kept.2,
    )

pub returns-in-Some-clause-same : goal.returns-in-Some-clause-same
returns-in-Some-clause-same c = same_map robbed_of _ _ _ _ _ c.index_mut.ensures.value c.steal.ensures.same c.loop-place.invariant.0

pub returns-in-Some-clause-some : goal.returns-in-Some-clause-some
returns-in-Some-clause-some c =
    stole_one _ _ _ _ _ c.in-Some.token (omega (arith, c.loop-place.invariant.2)) c.index_mut.ensures.value c.loop-place.invariant.1 c.in-Some.ensures.some
