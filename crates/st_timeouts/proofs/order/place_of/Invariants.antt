use Rattle.std.proofs.Common.{◌≤◌, length, drop}
use Rattle.st_timeouts.specs.Order.{OtherThan}
use Rattle.st_timeouts.proofs.order.place_of.Given as goal

-- those from the place on are other timers'
abbrev pub invariant-loop-place : goal.invariant-loop-place
invariant-loop-place l = record {
  within : l.place ≤ length l.keys.items;
  others : OtherThan l.key.timer (drop l.place l.keys.items);
}

abbrev pub decreases-loop-place : goal.decreases-loop-place
decreases-loop-place l = l.place
