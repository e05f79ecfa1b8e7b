use Rattle.std.proofs.Common.{◌≡◌, ◌*◌, ◌≤◌, ◌^◌}
use Rattle.st_answers.specs.declared.command.Command.TheVariants as command
use Rattle.st_doors.specs.Doors.{told_door, expired_of}
use Rattle.st_doors.proofs.TickingLemmas.{changed_front, front_sum}
use Rattle.st_doors.proofs.late_doors.LateDoors.tick_each.Given as goal

abbrev pub invariant-loop-place : goal.invariant-loop-place
invariant-loop-place l = record {
  ticked : l.self ≡ changed_front (told_door (command.Tick l.moment)) l.place l.fn.self;
  counted : l.expired ≡ front_sum (expired_of l.moment) l.place l.fn.self;
  bounded : l.expired ≤ l.place * 2 ^ 64;
}
