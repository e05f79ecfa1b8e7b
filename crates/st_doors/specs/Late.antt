-- Doors that are ticked late: a tick at which nothing of a door is due leaves it with a later moment and no more, and so
-- may be made up for at the door's next command.
use Rattle.std.specs.Prelude.{◌≡◌, ℕ, ◌<◌, ◌≤◌, ◌⊎◌, Bool, ◌&&◌, is_none, nat_lt, Option, Some, None}
use Rattle.st_core.specs.declared.machine_state.MachineState.{MachineState}
use Rattle.st_answers.specs.declared.command.Command.TheVariants as command
use Rattle.st_core.specs.Run.{step_of}
use Rattle.st_core.specs.Transition.{with_moment}
use Rattle.st_doors.specs.Doors.{DoorMachine, History, KeptDoor, NamedDoor, count_in, door_callbacks, door_named, kept_of, told_kept}

module _ {S D C : Type 0} where
  -- a machine that runs has seen a moment, one that has ended stays
  abbrev pub later_by : Option (ℕ × ℕ) → ℕ → MachineState S D C → MachineState S D C
  later_by None moment machine = with_moment machine moment
  later_by (Some end) moment machine = machine

  -- a machine that has seen a moment, at which nothing of it was due
  abbrev pub later : ℕ → MachineState S D C → MachineState S D C
  later moment machine = later_by machine.ended moment machine

-- a door whose history is kept is never late, for each tick stands in it
abbrev pub caught_by : Option History → ℕ → DoorMachine → DoorMachine
caught_by None moment machine = later moment machine
caught_by (Some history) moment machine = machine

-- the door once a late tick was made up for
abbrev pub caught_kept : ℕ → KeptDoor → KeptDoor
caught_kept moment door = record { machine = caught_by door.history moment door.machine; history = door.history }

-- and under its name
abbrev pub caught_up : ℕ → NamedDoor → NamedDoor
caught_up moment door = door_named door.name (caught_kept moment (kept_of door))

-- whether that makes any difference
abbrev pub is_late : ℕ → KeptDoor → Bool
is_late moment door = is_none door.history && (is_none door.machine.ended && nat_lt door.machine.latest moment)

-- nothing of the door is due at a moment: a tick at it comes to no more than a later moment
pub record IsQuietAt (moment : ℕ) (door : KeptDoor) : Type 0 where
  pub told : told_kept (command.Tick moment) door ≡ caught_kept moment door
  pub none : count_in (step_of door_callbacks door.machine (command.Tick moment)).0 ≡ 0

-- nothing of the door is due before a moment
abbrev pub IsQuietUntil : ℕ → KeptDoor → Type 0
IsQuietUntil due door = (moment : ℕ) → moment < due → IsQuietAt moment door

-- the door has seen a late tick, or is as that tick leaves it but for the moment; and from then on nothing is due before
-- another moment
pub record IsInTime (late due : ℕ) (door : KeptDoor) : Type 0 where
  pub caught : (caught_kept late door ≡ door) ⊎ (told_kept (command.Tick late) door ≡ caught_kept late door)
  pub quiet : (moment : ℕ) → late ≤ moment → moment < due → IsQuietAt moment door
