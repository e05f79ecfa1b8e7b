use Rattle.std.proofs.Common.{◌≡◌, ◌≤◌, length, take}
use Rattle.st_timeouts.specs.Zeros.{OtherZeros}
use Rattle.st_timeouts.proofs.zeros.place_of.Given as goal

-- those in front of the place are other timers'
abbrev pub invariant-loop-place : goal.invariant-loop-place
invariant-loop-place l = record {
  end : l.place-end ≡ length l.list.items;
  within : l.place ≤ length l.list.items;
  others : OtherZeros l.timer (take l.place l.list.items);
}
