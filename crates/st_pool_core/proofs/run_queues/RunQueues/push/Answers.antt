use Rattle.std.proofs.Common.{arith}
use Rattle.st_pool_core.proofs.QueueLemmas.{worker_pushed, lane_there, on_ok}
use Rattle.st_pool_core.proofs.run_queues.RunQueues.push.Goals as goal

-- the worker's queue has one token more
pub returns-else-lane-eq0-clause-pushed : goal.returns-else-lane-eq0-clause-pushed
returns-else-lane-eq0-clause-pushed c =
    let there = rw (← c.self.view_is) at (lane_there c.args.self.now c.args.lane c.requires) in
    on_ok _ _ c.push-else-lane-eq0.result (λ same. rw (← c.self.view_is)
    (worker_pushed _ c.args.lane c.args.token c.index_mut-worker.result.now _ c.push-else-lane-eq0.new.self c.if-lane-eq0.false
    (omega (arith, c.if-lane-eq0.false, there)) c.index_mut-worker.ensures.value c.worker.view_is same)) c.push-else-lane-eq0.ensures.pushed
