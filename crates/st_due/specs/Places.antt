-- The machines as they are kept, read in the order in which they are due.
use Rattle.std.specs.Prelude.{◌≡◌, ℕ, ◌+◌, ◌≤◌, Option, List, [], ◌∷◌, length, slice_get}
use Rattle.std.specs.List.{IsDistinct}
use Rattle.std.specs.Map.{keys_of}
use Rattle.std.specs.Option.{option_map}
use Rattle.st_events.specs.declared.machine_id.MachineId.{MachineId}
use Rattle.st_due.specs.declared.due_machine.DueMachine.{DueMachine}
use Rattle.st_due.specs.Machines.{same_machine, put}
use Rattle.st_due.specs.Tournament.{node_at}

-- an entry's machine, with its moment
abbrev pub due_of : MachineId × ℕ → DueMachine
due_of entry = record { moment = entry.1; machine = entry.0 }

-- the machines of the entries, in the order in which they are due
abbrev pub ordered : List (MachineId × ℕ) → List DueMachine
ordered [] = []
ordered (entry ∷ entries) = put (due_of entry) (ordered entries)

-- each place has the machine of the entry at that place, or none where there is none
abbrev pub AreAt : List (MachineId × ℕ) → List (Option DueMachine) → Type 0
AreAt entries places = (place : ℕ) → node_at places place ≡ option_map due_of (slice_get entries place)

-- each machine is there once, at its place of the tournament; and there is room for those that are reserved for
pub record IsSound (entries : List (MachineId × ℕ)) (places : List (Option DueMachine)) (spare ready : ℕ) : Type 0 where
  pub once_each : IsDistinct same_machine (keys_of entries)
  pub at : AreAt entries places
  pub fits : length entries + ready ≤ length places
  pub room : ready ≤ spare
