-- The entries of the map of doors, as doors with their names.
use Rattle.std.specs.Prelude.{◌≡◌, ◌+◌, List, ◌++◌, Option, IfSome, length, string_bytes, String}
use Rattle.std.specs.Option.{option_map}
use Rattle.std.specs.Global.{Box}
use Rattle.st_core.specs.MachineState.{Machine}
use Rattle.st_doors.specs.declared.door.Door.{Door}
use Rattle.st_doors.specs.declared.door_content.DoorContent.{DoorContent}
use Rattle.st_doors.specs.declared.door_data.DoorData.{DoorData}
use Rattle.st_doors.specs.declared.door_state.DoorState.{DoorState}
use Rattle.st_core.specs.Run.{step_of}
use Rattle.st_answers.specs.declared.command.Command.{Command}
use Rattle.st_doors.specs.Doors.{NamedDoor, DoorAnswer, DoorMachine, History, KeptDoor, door_callbacks, door_named, recorded, source_of, DoorEntry}
use Rattle.st_doors.specs.Past.{with_entries}
use Rattle.st_cell.specs.Cell.{CellState, IsOpen}
use Rattle.st_journal.specs.declared.source.Source.{Source}
use Rattle.st_scheduled.specs.ScheduledMachine.{ScheduledMachine}

-- what contracts see of a door's `Core`
abbrev pub DoorCore : Type 0
DoorCore = Machine Door DoorState DoorData DoorContent

-- of a door that is to be served
abbrev pub ScheduledDoor : Type 0
ScheduledDoor = ScheduledMachine Door DoorState DoorData DoorContent

-- and of a door's `Cell`
abbrev pub DoorCellState : Type 0
DoorCellState = CellState Door DoorState DoorData DoorContent

-- the machine in a cell
abbrev pub machine_in : DoorCellState → DoorMachine
machine_in cell = cell.scheduled.core.machine

-- what a door was told before its journal begins, out of its box, where that is kept
abbrev pub past_in : Option (Box History) → Option History
past_in past = option_map (λ (past : Box History). past.value) past

-- the history of a door, where it is kept: what the door was told before its journal begins, and the journal
abbrev pub history_in : Option History → DoorCellState → Option History
history_in past cell = option_map (λ (past : History). with_entries past cell.journal) past

-- the door in a cell
abbrev pub door_in : Option History → DoorCellState → KeptDoor
door_in past cell = record { machine = machine_in cell; history = history_in past cell }

-- where the history is kept, it has each command that was counted
abbrev pub IsWhole : Option History → DoorCellState → Type 0
IsWhole past cell =
    IfSome (history_in past cell) (λ (history : History). cell.scheduled.count ≡ length history.entries)

-- the door's port is open, and its history is whole
pub record IsDoorCell (past : Option History) (cell : DoorCellState) : Type 0 where
  pub has_port : IsOpen 1 cell
  pub whole : IsWhole past cell

-- what the definition answers to a command, and the machine after it
abbrev pub told_in : DoorCellState → Command DoorContent → DoorAnswer × DoorMachine
told_in cell command = step_of door_callbacks (machine_in cell) command

-- the entry that the command leaves
abbrev pub recorded_in : DoorCellState → Source → Command DoorContent → List DoorEntry
recorded_in cell source command = recorded (cell.scheduled.count + 1) source command (told_in cell command).0

-- a cell was told a command from somewhere: its machine is the definition's, and the journal has the command's entry, if it
-- leaves one
pub record HasToldBy (source : Source) (command : Command DoorContent) (old new : DoorCellState) : Type 0 where
  pub machine : machine_in new ≡ (told_in old command).1
  pub journal : new.journal ≡ old.journal ++ recorded_in old source command
  pub count : new.scheduled.count ≡ old.scheduled.count + length (recorded_in old source command)
  pub base : new.base ≡ old.base

-- a cell was told a line's command
abbrev pub HasTold : Command DoorContent → DoorCellState → DoorCellState → Type 0
HasTold command old new = HasToldBy (source_of command) command old new

-- the door of an entry
abbrev pub door_of_entry : {A : Type 0} → String A × KeptDoor → NamedDoor
door_of_entry entry = door_named (string_bytes entry.0) entry.1
