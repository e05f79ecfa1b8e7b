use Rattle.std.proofs.Common.{◌-◌, ◌≤◌, length, take, drop}
use Rattle.st_timeouts.specs.Keys.{AllBefore, NoneBefore}
use Rattle.st_timeouts.proofs.order.place_for.Given as goal

-- none below the one bound comes before the key, and all from the other on do
abbrev pub invariant-loop-low : goal.invariant-loop-low
invariant-loop-low l = record {
  order : l.low ≤ l.high;
  within : l.high ≤ length l.keys.items;
  behind : NoneBefore l.key (take l.low l.keys.items);
  before : AllBefore l.key (drop l.high l.keys.items);
}

abbrev pub decreases-loop-low : goal.decreases-loop-low
decreases-loop-low l = l.high - l.low
