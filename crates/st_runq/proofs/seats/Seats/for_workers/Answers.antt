use Rattle.std.proofs.Common.{arith, refl}
use Rattle.st_runq.proofs.SeatsLemmas.{next_has_thieves}
use Rattle.st_runq.proofs.seats.Seats.for_workers.Goals as goal

pub loop-own-preserved : goal.loop-own-preserved
loop-own-preserved c =
    let kept = c.loop-own.invariant in
    let thieves = c.in_ok-thieves.ensures in
    let slice_is = c.as_slice.ensures.value in
    next_has_thieves c.args.inlet.now _ c.args.count _ c.index_mut.result.now _ c.index_mut.ensures.value c.loop-own-test.true kept.0 kept.1 kept.2
    (λ r. record { put = r.put; taken = r.taken; source = r.source; fetched = r.fetched })
    refl
    (rw slice_is at thieves)

pub returns-clause-others : goal.returns-clause-others
returns-clause-others c = λ own seats within at. c.loop-own.invariant.2 own seats (omega arith) at
