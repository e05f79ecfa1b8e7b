-- The doors of a script, in order of registration.
use Rattle.std.specs.Prelude.{◌≡◌, ℕ, zero, suc, ◌+◌, ◌<◌, ◌≤◌, ◌⊎◌, Bool, true, false, not, ◌&&◌, List, [], ◌∷◌, Option, Some, None, is_some, Result, Ok, Err, ◌++◌, map, find, length, bytes_eq, slice_index_or, ◌==◌, if◌then◌else◌}
use Rattle.std.specs.List.{list_any, sum_by}
use Rattle.st_core.specs.declared.machine_state.MachineState.{MachineState}
use Rattle.st_core.specs.Callbacks.{Callbacks}
use Rattle.st_core.specs.Choice.{has_message_of, is_ready_of}
use Rattle.st_core.specs.Post.{next_tag}
use Rattle.st_core.specs.Run.{step_of}
use Rattle.st_answers.specs.declared.answer.Answer.{Answer}
use Rattle.st_answers.specs.declared.answer.Answer.TheVariants as answer
use Rattle.st_answers.specs.declared.command.Command.{Command}
use Rattle.st_answers.specs.declared.command.Command.TheVariants as command
use Rattle.st_answers.specs.declared.entry.Entry.TheVariants.{Call, Cast}
use Rattle.st_answers.specs.declared.turned.Turned.TheVariants.{Reported, Idle}
use Rattle.st_scheduled.specs.Serving.{hands_out}
use Rattle.st_journal.specs.declared.journal_entry.JournalEntry.{JournalEntry}
use Rattle.st_journal.specs.declared.source.Source.{Source}
use Rattle.st_journal.specs.declared.source.Source.TheVariants as source
use Rattle.st_doors.specs.declared.door_content.DoorContent.TheVariants.{Button, CodeLength, Length, Nothing, Relay}
use Rattle.st_requests.specs.declared.collected.Collected.{Collected}
use Rattle.st_requests.specs.declared.collected.Collected.TheVariants.{Waiting, Reply, Stopped, Gone}
use Rattle.st_events.specs.declared.machine_id.MachineId.{MachineId}
use Rattle.st_events.specs.declared.refusal.Refusal.{Refusal}
use Rattle.st_events.specs.declared.refused.Refused.{Refused}
use Rattle.st_events.specs.declared.tag.Tag.{Tag}
use Rattle.st_doors.specs.declared.door_content.DoorContent.{DoorContent}
use Rattle.st_doors.specs.declared.door_data.DoorData.{DoorData}
use Rattle.st_doors.specs.declared.door_state.DoorState.{DoorState}
use Rattle.st_doors.specs.Slots.{AreMarked}
use Rattle.st_doors.specs.Door.{handle_of, enters, enter_of, terminate_of, is_same_state}

-- the machine state of a door
abbrev pub DoorMachine : Type 0
DoorMachine = MachineState DoorState DoorData DoorContent

-- what a door answers to a command
abbrev pub DoorAnswer : Type 0
DoorAnswer = Answer DoorState DoorContent

-- a command that a door took, with what it answered
abbrev pub DoorEntry : Type 0
DoorEntry = JournalEntry DoorState DoorContent

-- the commands that a door took, in order, and the latest moment that it had seen before the first
pub record History : Type 0 where
  pub from : ℕ
  pub entries : List DoorEntry

-- a door: its machine, and its history where that is kept
pub record KeptDoor : Type 0 where
  pub machine : DoorMachine
  pub history : Option History

-- a door under its name
pub record NamedDoor : Type 0 where
  pub name : List ℕ
  pub machine : DoorMachine
  pub history : Option History

-- this door under this name
abbrev pub door_named : List ℕ → KeptDoor → NamedDoor
door_named name door = record { name = name; machine = door.machine; history = door.history }

-- the door without its name
abbrev pub kept_of : NamedDoor → KeptDoor
kept_of door = record { machine = door.machine; history = door.history }

-- the callbacks of a door, and the equality of its states
abbrev pub door_callbacks : Callbacks DoorState DoorData DoorContent
door_callbacks = record {
  handle_is = handle_of;
  enters_is = enters;
  enter_is = enter_of;
  terminate_is = terminate_of;
  same_state = is_same_state;
}

-- the first element that passes is changed
abbrev pub change_first : {X : Type 0} → (X → Bool) → (X → X) → List X → List X
change_first test change [] = []
change_first test change (x ∷ xs) = if test x then change x ∷ xs else x ∷ change_first test change xs

-- this is the place of the first element that passes
abbrev pub IsFirst : {X : Type 0} → (X → Bool) → List X → ℕ → Type 0
IsFirst test [] place = ⊥
IsFirst test (x ∷ xs) zero = test x ≡ true
IsFirst test (x ∷ xs) (suc place) = (test x ≡ false) × IsFirst test xs place

-- whether the door has this name
abbrev pub has_name : List ℕ → NamedDoor → Bool
has_name name door = bytes_eq name door.name

-- the door of a name
abbrev pub door_of : List ℕ → List NamedDoor → Option NamedDoor
door_of name doors = find (has_name name) doors

-- the names of doors
abbrev pub names_of : List NamedDoor → List (List ℕ)
names_of doors = map (λ door. door.name) doors

-- whether a door is ready: a turn of it would handle an event, or a message is to be taken out
abbrev pub is_ready_door : NamedDoor → Bool
is_ready_door door = is_ready_of door.machine

-- whether a door is over: it has ended, and no message is to be taken out
abbrev pub is_over : DoorMachine → Bool
is_over machine = is_some machine.ended && not (has_message_of machine)

-- the door is told a command: what it answers, and the machine after it
abbrev pub told_of : Command DoorContent → NamedDoor → DoorAnswer × DoorMachine
told_of command door = step_of door_callbacks door.machine command

-- whether a door is served by a command: a turn, or a take-out
abbrev pub serves : Command DoorContent → Bool
serves (command.Turn moment) = true
serves command.TakeOut = true
serves _ = false

-- whether a command that was answered so is kept in a history: it was taken, and did not collect in vain
abbrev pub is_recorded : DoorAnswer → Bool
is_recorded (answer.Post (Ok number)) = true
is_recorded (answer.Post (Err refused)) = false
is_recorded (answer.Tick (Ok expired)) = true
is_recorded (answer.Tick (Err refusal)) = false
is_recorded (answer.Turn (Ok (Reported report))) = true
is_recorded (answer.Turn (Ok Idle)) = false
is_recorded (answer.Turn (Err refusal)) = false
is_recorded (answer.Reply taken) = true
is_recorded (answer.Collect collected) = hands_out collected
is_recorded (answer.Stop (Ok word)) = true
is_recorded (answer.Stop (Err refusal)) = false
is_recorded (answer.TakeOut message) = is_some message

-- where a line's command comes from: a post comes by the door's one port, all else from who calls the door
abbrev pub source_of : Command DoorContent → Source
source_of (command.Post entry content) = source.Port 1
source_of (command.Tick moment) = source.Caller
source_of (command.Turn moment) = source.Caller
source_of (command.Reply tag content) = source.Caller
source_of (command.Collect tag) = source.Caller
source_of (command.Stop reason) = source.Caller
source_of command.TakeOut = source.Caller

-- the entry of a command that was answered so, with this number, if it is kept
abbrev pub recorded : ℕ → Source → Command DoorContent → DoorAnswer → List DoorEntry
recorded number source command answer =
    if is_recorded answer then record { number = number; source = source; command = command; answer = answer } ∷ [] else []

-- a history after a command that was answered so
abbrev pub history_told : Source → Command DoorContent → DoorAnswer → Option History → Option History
history_told source command answer None = None
history_told source command answer (Some history) =
    Some (record history { entries = history.entries ++ recorded (length history.entries + 1) source command answer })

-- the door after a command from somewhere, without its name
abbrev pub kept_told_by : Source → Command DoorContent → KeptDoor → KeptDoor
kept_told_by source command door =
    let told = step_of door_callbacks door.machine command in
    record { machine = told.1; history = history_told source command told.0 door.history }

-- and with it
abbrev pub door_told_by : Source → Command DoorContent → NamedDoor → NamedDoor
door_told_by source command door = door_named door.name (kept_told_by source command (kept_of door))

-- the door after a line's command, without its name
abbrev pub told_kept : Command DoorContent → KeptDoor → KeptDoor
told_kept command door = kept_told_by (source_of command) command door

-- and with it
abbrev pub told_door : Command DoorContent → NamedDoor → NamedDoor
told_door command door = door_told_by (source_of command) command door

-- a door that starts, whose history is kept or not: then no entry is in it
abbrev pub door_at_first : Bool → DoorMachine → KeptDoor
door_at_first traced machine = record {
  machine = machine;
  history = if traced then Some (record { from = machine.latest; entries = [] }) else None;
}

-- why a call is refused, if it is
abbrev pub refusal_by : {A : Type 0} → Result A Refusal → Option Refusal
refusal_by (Ok done) = None
refusal_by (Err refusal) = Some refusal

-- why a post is refused, if it is
abbrev pub post_refusal_by : Result ℕ (Refused DoorContent) → Option Refusal
post_refusal_by (Ok number) = None
post_refusal_by (Err refused) = Some refused.refusal

-- why a command is refused, if it is
abbrev pub refusal_in : DoorAnswer → Option Refusal
refusal_in (answer.Post posted) = post_refusal_by posted
refusal_in (answer.Tick ticked) = refusal_by ticked
refusal_in (answer.Turn turned) = refusal_by turned
refusal_in (answer.Reply taken) = None
refusal_in (answer.Collect collected) = None
refusal_in (answer.Stop stopped) = refusal_by stopped
refusal_in (answer.TakeOut message) = None

-- how many time-outs expire at a tick: none where it is refused, as that of an ended door is
abbrev pub count_by : Result ℕ Refusal → ℕ
count_by (Ok count) = count
count_by (Err refusal) = 0

-- how many time-outs expire at a command: at none but a tick do any
abbrev pub count_in : DoorAnswer → ℕ
count_in (answer.Tick ticked) = count_by ticked
count_in (answer.Post posted) = 0
count_in (answer.Turn turned) = 0
count_in (answer.Reply taken) = 0
count_in (answer.Collect collected) = 0
count_in (answer.Stop stopped) = 0
count_in (answer.TakeOut message) = 0

-- the length that content says, if it says one
abbrev pub length_of : DoorContent → Option ℕ
length_of (Length digits) = Some digits
length_of (Button digit) = None
length_of CodeLength = None
length_of Nothing = None
length_of (Relay target digit) = None

-- the length that was collected; it is none where there was no reply
abbrev pub collected_length : Collected DoorContent → Option ℕ
collected_length (Reply content) = length_of content
collected_length Waiting = None
collected_length (Stopped reason) = None
collected_length Gone = None

-- the length that a command brought: none but a collect brings one
abbrev pub length_in : DoorAnswer → Option ℕ
length_in (answer.Collect collected) = collected_length collected
length_in (answer.Post posted) = None
length_in (answer.Tick ticked) = None
length_in (answer.Turn turned) = None
length_in (answer.Reply taken) = None
length_in (answer.Stop stopped) = None
length_in (answer.TakeOut message) = None

-- a button is pressed
abbrev pub presses : ℕ → Command DoorContent
presses digit = command.Post Cast (Button digit)

-- a door is to send a button to the machine of an id
abbrev pub relays : MachineId → ℕ → Command DoorContent
relays target digit = command.Post Cast (Relay target digit)

-- a door is asked how long its code is
abbrev pub asks : Command DoorContent
asks = command.Post Call CodeLength

-- the tag that a call of the door gets
abbrev pub next_tag_of : NamedDoor → Tag
next_tag_of door = next_tag door.machine

-- how many time-outs of the door expire at a tick
abbrev pub expired_of : ℕ → NamedDoor → ℕ
expired_of moment door = count_in (told_of (command.Tick moment) door).0

-- the doors, each ticked at a moment; one that has ended stays as it is
abbrev pub ticked_doors : ℕ → List NamedDoor → List NamedDoor
ticked_doors moment doors = map (told_door (command.Tick moment)) doors

-- how many time-outs of the doors expire at it
abbrev pub all_expired_of : ℕ → List NamedDoor → ℕ
all_expired_of moment doors = sum_by (expired_of moment) doors

-- doors that rest, but for those from one place up to another
abbrev pub RestsOutside : ℕ → ℕ → List NamedDoor → Type 0
RestsOutside from until doors =
    (place : ℕ) (d : NamedDoor) → place < length doors → (place < from) ⊎ (until ≤ place)
    → is_ready_door (slice_index_or doors place d) ≡ false

-- the places in the table that the doors take
abbrev pub slots_of : List NamedDoor → List ℕ
slots_of doors = map (λ door. door.machine.id.slot) doors

-- the least number from here on that is not among these, of which there are at most so many
abbrev pub least_from : ℕ → ℕ → List ℕ → ℕ
least_from zero slot slots = slot
least_from (suc more) slot slots = if list_any (λ taken. taken == slot) slots then least_from more (slot + 1) slots else slot

-- the least place that no door takes
abbrev pub free_slot_of : List NamedDoor → ℕ
free_slot_of doors = least_from (length doors) 0 (slots_of doors)

-- the doors have the names and the places in the table that they had
pub record SameLabels (old new : List NamedDoor) : Type 0 where
  pub names : names_of new ≡ names_of old
  pub slots : slots_of new ≡ slots_of old

-- how many doors there may be
abbrev pub door_limit : ℕ
door_limit = 65536

-- the doors without the first one that has this name
abbrev pub without_door : List ℕ → List NamedDoor → List NamedDoor
without_door name [] = []
without_door name (door ∷ doors) = if has_name name door then doors else door ∷ without_door name doors

-- what a script keeps of its doors: they are not too many, the places that they take in the table are marked, and all
-- rest but those from one place in the list up to another
pub record IsKept (doors : List NamedDoor) (marks : List Bool) (from until : ℕ) : Type 0 where
  pub ordered : from ≤ until
  pub within : until ≤ length doors
  pub few : length doors ≤ door_limit
  pub marked : AreMarked marks (slots_of doors)
  pub resting : RestsOutside from until doors
