-- What is printed.
use Rattle.std.specs.Prelude.{ℕ, Option, Some, None, List, [], ◌∷◌, ◌++◌, codes, decimal, flat_map, length}
use Rattle.st_core.specs.Choice.{waiting_of}
use Rattle.st_doors.specs.declared.door_state.DoorState.{DoorState}
use Rattle.st_doors.specs.declared.door_state.DoorState.TheVariants.{Locked, Open}
use Rattle.st_doors.specs.Doors.{NamedDoor}
use Rattle.st_doors.specs.Lines.{line_feed, space}

-- the name of a state
abbrev pub state_name_of : DoorState → List ℕ
state_name_of Locked = codes "locked"
state_name_of Open = codes "open"

-- the status of a door that runs, by its parts
abbrev pub status_text : List ℕ → DoorState → ℕ → ℕ → List ℕ
status_text name state buttons waiting =
    name ++ (codes " " ++ (state_name_of state ++ (codes " buttons " ++ (decimal buttons ++ (codes " waiting " ++ (decimal waiting ++ line_feed ∷ []))))))

-- the status of a door that has ended, by its parts: the reason, and the last word
abbrev pub ended_text : List ℕ → ℕ → ℕ → List ℕ
ended_text name reason word =
    name ++ (codes " stopped " ++ (decimal reason ++ (codes " word " ++ (decimal word ++ line_feed ∷ []))))

-- the status of a door, by the reason and the last word if it has ended
abbrev pub status_by : NamedDoor → Option (ℕ × ℕ) → List ℕ
status_by door None = status_text door.name door.machine.state (length door.machine.data.buttons) (waiting_of door.machine)
status_by door (Some end) = ended_text door.name end.0 end.1

-- the status of a door
abbrev pub status_of : NamedDoor → List ℕ
status_of door = status_by door door.machine.ended

-- that the door of a name was removed
abbrev pub removed_text : List ℕ → List ℕ
removed_text name = name ++ (codes " removed" ++ line_feed ∷ [])

-- the names of the doors, in order of registration
abbrev pub names_text : List NamedDoor → List ℕ
names_text doors = (codes "names" ++ flat_map (λ door. space ∷ door.name) doors) ++ line_feed ∷ []

-- which moment it is, and how many time-outs expired
abbrev pub expired_text : ℕ → ℕ → List ℕ
expired_text moment expired = codes "at " ++ (decimal moment ++ (codes " expired " ++ (decimal expired ++ line_feed ∷ [])))

-- how long the code of the door of a name is, or a hyphen where that was not said
abbrev pub length_text : List ℕ → Option ℕ → List ℕ
length_text name (Some digits) = name ++ (codes " length " ++ (decimal digits ++ line_feed ∷ []))
length_text name None = name ++ (codes " length -" ++ line_feed ∷ [])

-- that the line of a number was refused
abbrev pub refused_text : ℕ → ℕ → List ℕ
refused_text number refusal = codes "line " ++ (decimal number ++ (codes " refused " ++ (decimal refusal ++ line_feed ∷ [])))

-- that the line of a number is malformed
abbrev pub malformed_text : ℕ → List ℕ
malformed_text number = codes "line " ++ (decimal number ++ (codes " malformed" ++ line_feed ∷ []))
