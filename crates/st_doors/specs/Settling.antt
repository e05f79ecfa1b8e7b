-- How doors run until they rest: turns, and messages from door to door.
use Rattle.std.specs.Prelude.{◌≡◌, ℕ, zero, suc, Bool, true, false, List, Option, Some, None, find}
use Rattle.std.specs.List.{list_any}
use Rattle.st_core.specs.Choice.{has_event_of, has_message_of}
use Rattle.st_answers.specs.declared.command.Command.{Command}
use Rattle.st_answers.specs.declared.command.Command.TheVariants as command
use Rattle.st_answers.specs.declared.entry.Entry.TheVariants.{Info}
use Rattle.st_events.specs.declared.machine_id.MachineId.{MachineId}
use Rattle.st_events.specs.declared.message.Message.{Message}
use Rattle.st_outbox.specs.Outbox.{first_message}
use Rattle.st_scheduled.specs.ScheduledMachine.{same_id}
use Rattle.st_journal.specs.declared.source.Source.{Source}
use Rattle.st_journal.specs.declared.source.Source.TheVariants as source
use Rattle.st_doors.specs.declared.door_content.DoorContent.{DoorContent}
use Rattle.st_doors.specs.declared.service.Service.{Service}
use Rattle.st_doors.specs.declared.service.Service.TheVariants.{Turn, TakeOut, Deliver}
use Rattle.st_doors.specs.Doors.{DoorMachine, KeptDoor, NamedDoor, change_first, door_told_by, is_ready_door, kept_told_by}

-- how many turns and deliveries are made for one line
abbrev pub turn_limit : ℕ
turn_limit = 1000000

-- what a door is told that is served
abbrev pub command_for : Service → Command DoorContent
command_for (Turn moment) = command.Turn moment
command_for TakeOut = command.TakeOut
command_for (Deliver message) = command.Post Info message.content

-- where that comes from: a delivery from the machine that sent the message
abbrev pub source_for : Service → Source
source_for (Turn moment) = source.Caller
source_for TakeOut = source.Caller
source_for (Deliver message) = source.Message message.sender message.number

-- when a door can be served: a turn wants an event, a take-out a message, and a message goes to its target
abbrev pub CanServe : Service → DoorMachine → Type 0
CanServe (Turn moment) machine = has_event_of machine ≡ true
CanServe TakeOut machine = has_message_of machine ≡ true
CanServe (Deliver message) machine = message.target ≡ machine.id

-- the message that comes out: at a take-out the first one
abbrev pub message_from : Service → DoorMachine → Option (Message DoorContent)
message_from (Turn moment) machine = None
message_from TakeOut machine = first_message machine.outbox.messages
message_from (Deliver message) machine = None

-- the door after it, without its name
abbrev pub served_kept : Service → KeptDoor → KeptDoor
served_kept service door = kept_told_by (source_for service) (command_for service) door

-- and with it
abbrev pub served_door : Service → NamedDoor → NamedDoor
served_door service door = door_told_by (source_for service) (command_for service) door

-- whether the door has this id
abbrev pub has_id : MachineId → NamedDoor → Bool
has_id id door = same_id id door.machine.id

-- a message is delivered to the door that it is for; it is lost where that is not there, or has ended
abbrev pub delivered : Message DoorContent → List NamedDoor → List NamedDoor
delivered message doors = change_first (has_id message.target) (served_door (Deliver message)) doors

-- the first message of a door, if there is a door and it has one
abbrev pub message_at : Option NamedDoor → Option (Message DoorContent)
message_at None = None
message_at (Some door) = first_message door.machine.outbox.messages

-- the first ready door goes on: its first message is taken out and delivered; or it gets a turn, where it has none
abbrev pub gone_on_by : Option (Message DoorContent) → ℕ → List NamedDoor → List NamedDoor
gone_on_by None moment doors = change_first is_ready_door (served_door (Turn moment)) doors
gone_on_by (Some message) moment doors = delivered message (change_first is_ready_door (served_door TakeOut) doors)

abbrev pub gone_on : ℕ → List NamedDoor → List NamedDoor
gone_on moment doors = gone_on_by (message_at (find is_ready_door doors)) moment doors

-- as long as a door is ready, the first ready one goes on, at most so many times
unfoldable pub run_until_idle : ℕ → ℕ → List NamedDoor → List NamedDoor
run_until_idle zero moment doors = doors
run_until_idle (suc steps) moment doors =
    elim (list_any is_ready_door doors) [
      | true ↦ run_until_idle steps moment (gone_on moment doors)
      | false ↦ doors
    ]
