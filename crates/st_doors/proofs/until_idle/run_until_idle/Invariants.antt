use Rattle.std.proofs.Common.{◌≡◌, ◌-◌}
use Rattle.st_doors.specs.Doors.{SameLabels}
use Rattle.st_doors.specs.Settling.{run_until_idle, turn_limit}
use Rattle.st_doors.proofs.until_idle.run_until_idle.Given as goal

abbrev pub invariant-loop : goal.invariant-loop
invariant-loop l = record {
  labels : SameLabels l.fn.doors l.doors;
  rested : run_until_idle (turn_limit - l.counter) l.moment l.doors ≡ run_until_idle turn_limit l.moment l.fn.doors;
}
