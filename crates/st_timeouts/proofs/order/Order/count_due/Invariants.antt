use Rattle.std.proofs.Common.{◌+◌, ◌-◌, ◌≤◌, length, drop}
use Rattle.st_timeouts.proofs.FallingLemmas.{AllCome}
use Rattle.st_timeouts.proofs.order.Order.count_due.Given as goal

-- those from the place on have come, and were looked at
abbrev pub invariant-loop-place : goal.invariant-loop-place
invariant-loop-place g l = record {
  within : l.place ≤ length l.self-inside.keys.items;
  come : AllCome l.now (drop l.place l.self-inside.keys.items);
  looks : l.steps ≤ l.fn.steps + (length l.self-inside.keys.items - l.place);
}

abbrev pub decreases-loop-place : goal.decreases-loop-place
decreases-loop-place g l = l.place
