use Rattle.std.proofs.Common.{arith}
use Rattle.st_pool_core.proofs.QueueLemmas.{worker_popped, on_some}
use Rattle.st_pool_core.proofs.run_queues.RunQueues.pop.Goals as goal

-- the worker is without its queue's first token
pub returns-clause-popped : goal.returns-clause-popped
returns-clause-popped c = on_some _ c.pop-2.result (rw (← c.self.view_is)
    (worker_popped _ c.args.lane c.index_mut-worker.result.now _ c.pop-2.new.self c.if-lane-eq0.false (omega (arith, c.if-lane-eq0.false, c.if-lane-len.false, c.len.ensures))
    c.index_mut-worker.ensures.value c.worker.view_is c.pop-2.ensures.left))
