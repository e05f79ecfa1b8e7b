use Rattle.std.proofs.Common.{◌<◌, length}
use Rattle.st_due.specs.Machines.{InOrder}
use Rattle.st_doors.specs.Notes.{AreAwake, AreBySerial}
use Rattle.st_doors.proofs.due_doors.first_ready.Given as goal

abbrev pub invariant-loop-machine : goal.invariant-loop-machine
invariant-loop-machine l = record {
  awake : AreAwake l.awake.machines l.doors;
  by_serial : AreBySerial l.awake.machines;
  order : InOrder l.awake.machines;
  reserved : 0 < l.awake.reserved;
}

abbrev pub decreases-loop-machine : goal.decreases-loop-machine
decreases-loop-machine l = length l.awake.machines
