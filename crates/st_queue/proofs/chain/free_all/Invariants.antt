use Rattle.std.proofs.Common.{length}
use Rattle.st_queue.proofs.chain.free_all.Given as goal

abbrev pub invariant-loop-chain : goal.invariant-loop-chain
invariant-loop-chain g l = Unit {0}

abbrev pub decreases-loop-chain : goal.decreases-loop-chain
decreases-loop-chain g l = length l.chain.items
