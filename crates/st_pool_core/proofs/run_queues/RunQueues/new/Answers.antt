use Rattle.std.proofs.Common.{◌+◌, arith}
use Rattle.std.proofs.lemmas.Grind.{common_steps}
use Rattle.st_pool_core.proofs.OpeningLemmas.{idle_more}
use Rattle.st_pool_core.proofs.run_queues.RunQueues.new.Goals as goal

-- one worker more is made
pub loop-number-preserved : goal.loop-number-preserved
loop-number-preserved c = record {
  workers = rw (c.push_reserved.ensures.items, c.loop-number.invariant.workers, c.new.ensures) (idle_more c.loop-number._number (c.loop-number._number + 1) (omega arith));
  made = grind (arith, common_steps);
  room = grind (arith, common_steps);
}
