-- A script: its output and its status as functions of its bytes.
use Rattle.std.specs.Prelude.{◌≡◌, ℕ, ◌+◌, ◌^◌, Bool, true, false, ◌||◌, max, nat_lt, List, [], ◌∷◌, ◌++◌, length, Option, Some, None, Result, Ok, Err, if◌then◌else◌}
use Rattle.std.specs.Io.KnownBytes.{Appends, Consumes}
use Rattle.std.specs.Option.{option_map_or}
use Rattle.st_events.specs.Refusal.{number_of}
use Rattle.st_events.specs.declared.machine_id.MachineId.{MachineId}
use Rattle.st_events.specs.declared.refusal.Refusal.{Refusal}
use Rattle.st_events.specs.declared.refusal.Refusal.TheVariants.{AlreadyStarted, Moment, NoSuchName, NotStopped, Full}
use Rattle.st_events.specs.declared.refused.Refused.{Refused}
use Rattle.st_events.specs.declared.tag.Tag.{Tag}
use Rattle.st_answers.specs.declared.command.Command.{Command}
use Rattle.st_answers.specs.declared.command.Command.TheVariants as command
use Rattle.st_core.specs.declared.start.Start.{Start}
use Rattle.st_core.specs.declared.start.Start.TheVariants.{Running, Ignored, Stopped}
use Rattle.st_core.specs.Start.{start_of}
use Rattle.st_doors.specs.declared.door.Door.{Door}
use Rattle.st_doors.specs.declared.door_content.DoorContent.{DoorContent}
use Rattle.st_doors.specs.declared.door_data.DoorData.{DoorData}
use Rattle.st_doors.specs.declared.door_state.DoorState.{DoorState}
use Rattle.st_door.specs.declared.mode.Mode.{Mode}
use Rattle.st_door.specs.declared.mode.Mode.TheVariants.{Run, Trace}
use Rattle.st_door.specs.declared.line.Line.{Line}
use Rattle.st_door.specs.declared.line.Line.TheVariants as line
use Rattle.st_door.specs.declared.effect.Effect.{Effect}
use Rattle.st_door.specs.declared.effect.Effect.TheVariants.{Silent, Printed, Refuses, Malformed}
use Rattle.st_doors.specs.Door.{init_of}
use Rattle.st_doors.specs.Doors.{NamedDoor, change_first, has_name, door_named, door_at_first, door_callbacks, door_limit, door_of, without_door, free_slot_of, is_over, told_of, told_door, presses, relays, asks, refusal_in, length_in, next_tag_of, all_expired_of, ticked_doors}
use Rattle.st_door.specs.Grammar.{line_of}
use Rattle.st_doors.specs.Lines.{lines}
use Rattle.st_doors.specs.Settling.{run_until_idle, turn_limit}
use Rattle.st_doors.specs.Traces.{traces_of}
use Rattle.st_doors.specs.Printing.{status_of, names_text, removed_text, expired_text, length_text, refused_text, malformed_text}

-- whether the histories of doors are kept; the doors in order of registration; the script's moment; and how many starts
-- have succeeded
pub record ScriptState : Type 0 where
  pub traced : Bool
  pub doors : List NamedDoor
  pub moment : ℕ
  pub started : ℕ

-- whether a mode prints the histories of doors, and so keeps them
abbrev pub is_traced : Mode → Bool
is_traced Run = false
is_traced Trace = true

-- a script begins at moment 0, with no door
abbrev pub first_script_state : Mode → ScriptState
first_script_state mode = record { traced = is_traced mode; doors = []; moment = 0; started = 0 }

-- a new door's id: the least free place, and how many starts have succeeded with this one
abbrev pub next_id_of : ScriptState → MachineId
next_id_of script = record { slot = free_slot_of script.doors; serial = script.started + 1 }

-- the door module, of which there is one
abbrev pub the_door : Door
the_door = record {}

-- what comes of the start of a door
abbrev pub DoorStart : Type 0
DoorStart = Result (Start Door DoorState DoorData DoorContent (List ℕ)) (Refused Door)

-- the start of a door with this code
abbrev pub door_start_of : ScriptState → List ℕ → DoorStart
door_start_of script code = start_of door_callbacks the_door (next_id_of script) (init_of code) script.moment 1

-- what comes of a start: a door that runs goes to the end of the list; doors start always, so that
-- the other answers of `init` leave the script as it is
abbrev pub with_start : ScriptState → List ℕ → DoorStart → Result ScriptState Refusal
with_start script name (Ok (Running core report)) = Ok (record script {
  doors = script.doors ++ door_named name (door_at_first script.traced core.machine) ∷ [];
  started = script.started + 1;
})
with_start script name (Ok Ignored) = Ok script
with_start script name (Ok (Stopped reason)) = Ok script
with_start script name (Err refused) = Err refused.refusal

-- `new`: a name that is taken is refused, then a list that is full, then as the start is
abbrev pub new_door : ScriptState → List ℕ → List ℕ → Option NamedDoor → Result ScriptState Refusal
new_door script name code (Some taken) = Err (AlreadyStarted taken.machine.id)
new_door script name code None =
    if nat_lt (length script.doors) door_limit
    then with_start script name (door_start_of script code)
    else Err Full

-- the script once the door of a name was told a command
abbrev pub with_told : ScriptState → List ℕ → Command DoorContent → ScriptState
with_told script name command = record script { doors = change_first (has_name name) (told_door command) script.doors }

-- what comes of a command to the door of a name, by its refusal
abbrev pub told_by : ScriptState → List ℕ → Command DoorContent → Option Refusal → Result ScriptState Refusal
told_by script name command None = Ok (with_told script name command)
told_by script name command (Some refusal) = Err refusal

-- `button`, `stop` and `length`: a name that is not registered is refused, then as the command is
abbrev pub told_script : ScriptState → List ℕ → Command DoorContent → Option NamedDoor → Result ScriptState Refusal
told_script script name command None = Err NoSuchName
told_script script name command (Some door) = told_by script name command (refusal_in (told_of command door).0)

-- `relay`: the name of the door and then that of the target are looked up, and then the door is told as by a command
abbrev pub relayed_by : ScriptState → List ℕ → ℕ → Option NamedDoor → Option NamedDoor → Result ScriptState Refusal
relayed_by script name digit None target = Err NoSuchName
relayed_by script name digit (Some door) None = Err NoSuchName
relayed_by script name digit (Some door) (Some target) = told_script script name (relays target.machine.id digit) (Some door)

-- `show`: a name that is not registered is refused
abbrev pub shown_door : ScriptState → Option NamedDoor → Result ScriptState Refusal
shown_door script None = Err NoSuchName
shown_door script (Some door) = Ok script

-- the script without the door of a name
abbrev pub without_named : ScriptState → List ℕ → ScriptState
without_named script name = record script { doors = without_door name script.doors }

-- `remove` of a door that is over, or is not
abbrev pub removed_by : ScriptState → List ℕ → Bool → Result ScriptState Refusal
removed_by script name true = Ok (without_named script name)
removed_by script name false = Err NotStopped

-- `remove`: a name that is not registered is refused, then a door that has not ended or has a message left
abbrev pub removed_door : ScriptState → List ℕ → Option NamedDoor → Result ScriptState Refusal
removed_door script name None = Err NoSuchName
removed_door script name (Some door) = removed_by script name (is_over door.machine)

-- the script at a moment, at which its doors were ticked
abbrev pub ticked_script : ScriptState → ℕ → ScriptState
ticked_script script moment = record script { doors = ticked_doors moment script.doors; moment = moment }

-- `at`: a moment of 2^63 or later is refused; else the script is at it, or at its own where that is later
abbrev pub passed_to : ScriptState → ℕ → Result ScriptState Refusal
passed_to script moment =
    if nat_lt moment (2 ^ 63) then Ok (ticked_script script (max script.moment moment)) else Err Moment

-- the action of a line: the script after it, or why it is refused
abbrev pub acted_of : ScriptState → Line → Result ScriptState Refusal
acted_of script line.Blank = Ok script
acted_of script line.Malformed = Ok script
acted_of script (line.New name code) = new_door script name code (door_of name script.doors)
acted_of script (line.Button name digit) = told_script script name (presses digit) (door_of name script.doors)
acted_of script (line.Show name) = shown_door script (door_of name script.doors)
acted_of script (line.At moment) = passed_to script moment
acted_of script (line.Stop name reason) = told_script script name (command.Stop reason) (door_of name script.doors)
acted_of script (line.Remove name) = removed_door script name (door_of name script.doors)
acted_of script (line.Length name) = told_script script name asks (door_of name script.doors)
acted_of script (line.Relay name target digit) = relayed_by script name digit (door_of name script.doors) (door_of target script.doors)
acted_of script line.Names = Ok script

-- the script once its doors rest
abbrev pub rested_of : ScriptState → ScriptState
rested_of script = record script { doors = run_until_idle turn_limit script.moment script.doors }

-- the status of the door of a name
abbrev pub named_status_of : ScriptState → List ℕ → List ℕ
named_status_of script name = option_map_or status_of (door_of name script.doors) []

-- the reply to the call of a tag is collected at the door of a name: what is printed, and the script after it
abbrev pub length_collected : ScriptState → List ℕ → Tag → Option NamedDoor → List ℕ × ScriptState
length_collected script name tag None = ([], script)
length_collected script name tag (Some door) = (
  length_text name (length_in (told_of (command.Collect tag) door).0),
  with_told script name (command.Collect tag),
)

-- how `length` finishes, by the door as it was before the line, which gave the call its tag
abbrev pub length_finished : List ℕ → Option NamedDoor → ScriptState → List ℕ × ScriptState
length_finished name None script = ([], script)
length_finished name (Some asked) script = length_collected script name (next_tag_of asked) (door_of name script.doors)

-- the status of the door of a name is printed
abbrev pub status_finished : List ℕ → ScriptState → List ℕ × ScriptState
status_finished name script = (named_status_of script name, script)

-- how a line finishes that was not refused, by the script before it and the script once the doors rest:
-- what it prints, and the script after it. `at` counts the time-outs of the doors as they were before it,
-- `length` collects the reply to its call; no other changes anything more
abbrev pub finished_of : ScriptState → Line → ScriptState → List ℕ × ScriptState
finished_of before line.Blank = λ script. ([], script)
finished_of before line.Malformed = λ script. ([], script)
finished_of before (line.New name code) = status_finished name
finished_of before (line.Button name digit) = status_finished name
finished_of before (line.Show name) = status_finished name
finished_of before (line.At moment) = λ script. (expired_text script.moment (all_expired_of script.moment before.doors), script)
finished_of before (line.Stop name reason) = status_finished name
finished_of before (line.Remove name) = λ script. (removed_text name, script)
finished_of before (line.Length name) = length_finished name (door_of name before.doors)
finished_of before (line.Relay name target digit) = status_finished target
finished_of before line.Names = λ script. (names_text script.doors, script)

-- a line that has finished prints its text
abbrev pub printing : List ℕ × ScriptState → Effect × ScriptState
printing finished = (Printed finished.0, finished.1)

-- a line that is refused changes nothing; else the doors run until they rest, and then it finishes and prints
abbrev pub effect_of : ScriptState → (ScriptState → List ℕ × ScriptState) → Result ScriptState Refusal → Effect × ScriptState
effect_of script finish (Err refusal) = (Refuses refusal, script)
effect_of script finish (Ok acted) = printing (finish (rested_of acted))

-- the door of a name is told a command, and its status is printed
abbrev pub commanded_of : ScriptState → List ℕ → Command DoorContent → Effect × ScriptState
commanded_of script name command = effect_of script (status_finished name) (told_script script name command (door_of name script.doors))

-- what a line brings about, and the script after it; a line that says nothing does nothing
abbrev pub step_of : ScriptState → Line → Effect × ScriptState
step_of script line.Blank = (Silent, script)
step_of script line.Malformed = (Malformed, script)
step_of script (line.New name code) = effect_of script (finished_of script (line.New name code)) (acted_of script (line.New name code))
step_of script (line.Button name digit) = effect_of script (finished_of script (line.Button name digit)) (acted_of script (line.Button name digit))
step_of script (line.Show name) = effect_of script (finished_of script (line.Show name)) (acted_of script (line.Show name))
step_of script (line.At moment) = effect_of script (finished_of script (line.At moment)) (acted_of script (line.At moment))
step_of script (line.Stop name reason) = effect_of script (finished_of script (line.Stop name reason)) (acted_of script (line.Stop name reason))
step_of script (line.Remove name) = effect_of script (finished_of script (line.Remove name)) (acted_of script (line.Remove name))
step_of script (line.Length name) = effect_of script (finished_of script (line.Length name)) (acted_of script (line.Length name))
step_of script (line.Relay name target digit) = effect_of script (finished_of script (line.Relay name target digit)) (acted_of script (line.Relay name target digit))
step_of script line.Names = effect_of script (finished_of script line.Names) (acted_of script line.Names)

-- what the line of a number prints
abbrev pub printed_of : ℕ → Effect → List ℕ
printed_of number Silent = []
printed_of number (Printed text) = text
printed_of number (Refuses refusal) = refused_text number (number_of refusal)
printed_of number Malformed = malformed_text number

-- whether the line is refused or malformed
abbrev pub is_fault : Effect → Bool
is_fault Silent = false
is_fault (Printed text) = false
is_fault (Refuses refusal) = true
is_fault Malformed = true

-- what the lines print, the first of which has this number
abbrev pub output_from : ℕ → ScriptState → List (List ℕ) → List ℕ
output_from number script [] = []
output_from number script (bytes ∷ more) =
    printed_of number (step_of script (line_of bytes)).0
    ++ output_from (number + 1) (step_of script (line_of bytes)).1 more

-- whether some line is refused or malformed
abbrev pub faulty_from : ScriptState → List (List ℕ) → Bool
faulty_from script [] = false
faulty_from script (bytes ∷ more) =
    is_fault (step_of script (line_of bytes)).0
    || faulty_from (step_of script (line_of bytes)).1 more

-- the script after some lines
abbrev pub script_after : ScriptState → List (List ℕ) → ScriptState
script_after script [] = script
script_after script (bytes ∷ more) = script_after (step_of script (line_of bytes)).1 more

-- the output of a script: what its lines print; or the traces of the doors that are left at its end
abbrev pub output_of : Mode → List ℕ → List ℕ
output_of Run input = output_from 1 (first_script_state Run) (lines input)
output_of Trace input = traces_of (script_after (first_script_state Trace) (lines input)).doors

-- the status of a script: 1 where some line was refused or malformed, else 0
abbrev pub status_of_script : Mode → List ℕ → ℕ
status_of_script mode input = if faulty_from (first_script_state mode) (lines input) then 1 else 0

-- some input was read, its output was written, and this is its status
abbrev pub DoesSome : Mode → Option (List ℕ) → Option (List ℕ) → Option (List ℕ) → Option (List ℕ) → ℕ → Type 0
DoesSome mode left after_left held after_held status =
    (input : List ℕ) × Consumes left after_left input × Appends held after_held (output_of mode input) × (status ≡ status_of_script mode input)
