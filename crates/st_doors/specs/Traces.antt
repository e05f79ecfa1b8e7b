-- The traces of doors.
use Rattle.std.specs.Prelude.{ℕ, Option, Some, None, List, [], flat_map}
use Rattle.st_trace.specs.Trace.{trace_of}
use Rattle.st_doors.specs.Doors.{DoorMachine, History, NamedDoor}
use Rattle.st_doors.specs.Printing.{state_name_of}

-- the trace of a door under a name by its history; it is nothing where that is not kept
abbrev pub trace_by : List ℕ → DoorMachine → Option History → List ℕ
trace_by name machine None = []
trace_by name machine (Some history) = trace_of machine.id name history.from history.entries state_name_of

-- the trace of a door
abbrev pub trace_of_door : NamedDoor → List ℕ
trace_of_door door = trace_by door.name door.machine door.history

-- the traces of doors, in order of registration
abbrev pub traces_of : List NamedDoor → List ℕ
traces_of doors = flat_map trace_of_door doors
