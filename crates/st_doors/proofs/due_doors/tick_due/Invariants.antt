use Rattle.std.proofs.Common.{◌≡◌, ◌+◌, ◌*◌, ◌≤◌, ◌^◌, false}
use Rattle.st_doors.specs.Doors.{SameLabels, all_expired_of, ticked_doors}
use Rattle.st_doors.specs.Notes.{AreWatched, due_count}
use Rattle.st_doors.proofs.due_doors.tick_due.Given as goal

abbrev pub invariant-loop-count : goal.invariant-loop-count
invariant-loop-count l = record {
  watched : AreWatched l.late false l.due.machines l.awake.machines l.doors;
  labels : SameLabels l.fn.doors l.doors;
  ticked : ticked_doors l.moment l.doors ≡ ticked_doors l.moment l.fn.doors;
  counted : l.expired + all_expired_of l.moment l.doors ≡ all_expired_of l.moment l.fn.doors;
  bounded : l.expired + due_count l.moment l.due.machines * 2 ^ 64 ≤ due_count l.moment l.fn.due.machines * 2 ^ 64;
}

abbrev pub decreases-loop-count : goal.decreases-loop-count
decreases-loop-count l = due_count l.moment l.due.machines
