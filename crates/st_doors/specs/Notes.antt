-- What is noted of doors that are ticked late: when something of them is due, and which are awake.
use Rattle.std.specs.Prelude.{◌≡◌, ℕ, ◌+◌, ◌<◌, ◌≤◌, ◌^◌, Bool, true, false, if◌then◌else◌, nat_le, List, [], ◌∷◌, Option, Some, None, is_some, length, slice_index_or}
use Rattle.st_events.specs.declared.machine_id.MachineId.{MachineId}
use Rattle.st_due.specs.declared.due_machine.DueMachine.{DueMachine}
use Rattle.st_due.specs.Machines.{moment_of, put, without}
use Rattle.st_doors.specs.Doors.{NamedDoor, is_ready_door, kept_of}
use Rattle.st_doors.specs.Late.{IsInTime}

-- a machine stands at a moment, and at no other
abbrev pub noted_at : MachineId → ℕ → List DueMachine → List DueMachine
noted_at machine moment machines = put (record { moment = moment; machine = machine }) (without machine machines)

-- the first machine, and the others
abbrev pub first_of : List DueMachine → Option MachineId
first_of [] = None
first_of (one ∷ others) = Some one.machine

abbrev pub others_of : List DueMachine → List DueMachine
others_of [] = []
others_of (one ∷ others) = others

-- how many are due by a moment
abbrev pub due_count : ℕ → List DueMachine → ℕ
due_count moment [] = 0
due_count moment (one ∷ others) = (if nat_le one.moment moment then 1 else 0) + due_count moment others

-- none is
abbrev pub AreAfter : ℕ → List DueMachine → Type 0
AreAfter moment machines = (machine : MachineId) (until : ℕ) → moment_of machine machines ≡ Some until → moment < until

-- a door is noted: before the moment at which it stands, and from the late one on, nothing of it is due. Its history is not
-- kept, unless any may be
pub record IsNoted (late : ℕ) (traced : Bool) (due : List DueMachine) (door : NamedDoor) : Type 0 where
  pub until : ℕ
  pub noted : moment_of door.machine.id due ≡ Some until
  pub bounded : until ≤ 2 ^ 63
  pub in_time : IsInTime late until (kept_of door)
  pub untraced : traced ≡ false → door.history ≡ None

-- and so is each of these
abbrev pub AreNoted : ℕ → Bool → List DueMachine → List NamedDoor → Type 0
AreNoted late traced due doors = (k : ℕ) (d : NamedDoor) → k < length doors → IsNoted late traced due (slice_index_or doors k d)

-- but for the one at a place
abbrev pub AreNotedBut : ℕ → ℕ → Bool → List DueMachine → List NamedDoor → Type 0
AreNotedBut place late traced due doors =
    (k : ℕ) (d : NamedDoor) → k < length doors → (k ≡ place → ⊥) → IsNoted late traced due (slice_index_or doors k d)

-- a door that is ready is awake
abbrev pub IsAwake : List DueMachine → NamedDoor → Type 0
IsAwake awake door = is_ready_door door ≡ true → is_some (moment_of door.machine.id awake) ≡ true

-- and so is each of these
abbrev pub AreAwake : List DueMachine → List NamedDoor → Type 0
AreAwake awake doors = (k : ℕ) (d : NamedDoor) → k < length doors → IsAwake awake (slice_index_or doors k d)

-- but for the one at a place
abbrev pub AreAwakeBut : ℕ → List DueMachine → List NamedDoor → Type 0
AreAwakeBut place awake doors =
    (k : ℕ) (d : NamedDoor) → k < length doors → (k ≡ place → ⊥) → IsAwake awake (slice_index_or doors k d)

-- each machine stands at its serial
abbrev pub AreBySerial : List DueMachine → Type 0
AreBySerial [] = Unit {0}
AreBySerial (one ∷ others) = (one.moment ≡ one.machine.serial) × AreBySerial others

-- all that is noted of doors
abbrev pub AreWatched : ℕ → Bool → List DueMachine → List DueMachine → List NamedDoor → Type 0
AreWatched late traced due awake doors = AreNoted late traced due doors × AreAwake awake doors × AreBySerial awake

-- but of the one at a place
abbrev pub AreWatchedBut : ℕ → ℕ → Bool → List DueMachine → List DueMachine → List NamedDoor → Type 0
AreWatchedBut place late traced due awake doors = AreNotedBut place late traced due doors × AreAwakeBut place awake doors × AreBySerial awake
