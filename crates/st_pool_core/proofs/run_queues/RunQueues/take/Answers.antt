use Rattle.std.proofs.Common.{sym, ◌∙◌}
use Rattle.st_pool_core.proofs.QueueLemmas.{free_has_lane}
use Rattle.st_pool_core.proofs.run_queues.RunQueues.take.Goals as goal

-- its hand is empty, so the worker is there
pub set_hand-requires-clause-there : goal.set_hand-requires-clause-there
set_hand-requires-clause-there c =
    free_has_lane c.args.self.now c.pop.new.self c.args.worker c.args.lane (sym c.is_free.ensures ∙ c.if-not-is_free.false) (rw c.in-Some.is at c.pop.ensures.popped)
