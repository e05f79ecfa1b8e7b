use Rattle.std.proofs.Common.{◌≡◌, ◌≤◌}
use Rattle.std.specs.Vec.{vec_len, vec_capacity}
use Rattle.st_pool_core.specs.Opening.{idle_workers}
use Rattle.st_pool_core.proofs.run_queues.RunQueues.new.Given as goal

-- so many workers are made, and there is room for all
abbrev pub invariant-loop-number : goal.invariant-loop-number
invariant-loop-number l = record {
  workers : l.workers.items ≡ idle_workers l._number;
  made : vec_len l.workers ≡ l._number;
  room : l.count ≤ vec_capacity l.workers;
}
