use Rattle.std.proofs.Common.{arith}
use Rattle.st_pool_core.proofs.QueueLemmas.{worker_handed, lane_there}
use Rattle.st_pool_core.proofs.run_queues.RunQueues.set_hand.Goals as goal

pub returns : goal.returns
returns c =
    let there = rw (← c.self.view_is) at (lane_there c.args.self.now c.args.worker c.requires.there) in
    rw (← c.self.view_is) (worker_handed _ c.args.worker c.args.hand c.index_mut-worker.result.now _ (omega (arith, c.requires.from_one, there))
    c.index_mut-worker.ensures.value c.worker.view_is)
