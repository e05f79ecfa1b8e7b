-- The JSON of events, and of what comes with them.
use Rattle.std.specs.Prelude.{ℕ, List, codes}
use Rattle.serde_json.specs.Data.{Data, string, object, member, no_members}
use Rattle.st_events.specs.declared.decision.Decision.{Decision}
use Rattle.st_events.specs.declared.decision.Decision.TheVariants as decision
use Rattle.st_events.specs.declared.kind.Kind.{Kind}
use Rattle.st_events.specs.declared.kind.Kind.TheVariants as kind
use Rattle.st_events.specs.declared.machine_id.MachineId.{MachineId}
use Rattle.st_events.specs.declared.message.Message.{Message}
use Rattle.st_events.specs.declared.refusal.Refusal.{Refusal}
use Rattle.st_events.specs.declared.refusal.Refusal.TheVariants as refusal
use Rattle.st_events.specs.declared.refused.Refused.{Refused}
use Rattle.st_events.specs.declared.tag.Tag.{Tag}
use Rattle.st_events.specs.declared.time.Time.{Time}
use Rattle.st_events.specs.declared.time.Time.TheVariants.{After, Infinity}
use Rattle.st_events.specs.declared.timer.Timer.{Timer}
use Rattle.st_events.specs.declared.timer.Timer.TheVariants as timer
use Rattle.st_requests.specs.declared.collected.Collected.{Collected}
use Rattle.st_requests.specs.declared.collected.Collected.TheVariants as collected
use Rattle.st_json.specs.Forms.{number_data, named_data}

-- which machine it is
abbrev pub id_data : MachineId → Data
id_data id = object (member (codes "serial") (number_data id.serial) (member (codes "slot") (number_data id.slot) no_members))

-- which request it is
abbrev pub tag_data : Tag → Data
tag_data tag = object (member (codes "machine") (id_data tag.machine) (member (codes "request") (number_data tag.request) no_members))

-- which time-out is meant
abbrev pub timer_data : Timer → Data
timer_data timer.Event = string (codes "Event")
timer_data timer.State = string (codes "State")
timer_data (timer.Named name) = named_data (codes "Named") (number_data name)

-- how long it lasts
abbrev pub time_data : Time → Data
time_data (After span) = named_data (codes "After") (number_data span)
time_data Infinity = string (codes "Infinity")

-- what was asked of a timer
abbrev pub decision_data : Decision → Data
decision_data (decision.Set time) = named_data (codes "Set") (time_data time)
decision_data decision.Cancel = string (codes "Cancel")
decision_data decision.Update = string (codes "Update")

-- what kind of event it is
abbrev pub kind_data : Kind → Data
kind_data (kind.Call tag) = named_data (codes "Call") (tag_data tag)
kind_data kind.Cast = string (codes "Cast")
kind_data kind.Info = string (codes "Info")
kind_data (kind.Timeout timer) = named_data (codes "Timeout") (timer_data timer)
kind_data kind.Internal = string (codes "Internal")

-- the name of a refusal
abbrev pub refusal_word : Refusal → List ℕ
refusal_word refusal.NoMemory = codes "NoMemory"
refusal_word (refusal.Stopped reason) = codes "Stopped"
refusal_word refusal.Exhausted = codes "Exhausted"
refusal_word refusal.Moment = codes "Moment"
refusal_word refusal.NotPossible = codes "NotPossible"
refusal_word refusal.NotQueued = codes "NotQueued"
refusal_word (refusal.AlreadyStarted id) = codes "AlreadyStarted"
refusal_word refusal.NoSuchName = codes "NoSuchName"
refusal_word refusal.NoSuchMachine = codes "NoSuchMachine"
refusal_word refusal.NotStopped = codes "NotStopped"
refusal_word refusal.Full = codes "Full"
refusal_word refusal.BadName = codes "BadName"

-- why a call is refused
abbrev pub refusal_data : Refusal → Data
refusal_data refusal.NoMemory = string (refusal_word refusal.NoMemory)
refusal_data (refusal.Stopped reason) = named_data (refusal_word (refusal.Stopped reason)) (number_data reason)
refusal_data refusal.Exhausted = string (refusal_word refusal.Exhausted)
refusal_data refusal.Moment = string (refusal_word refusal.Moment)
refusal_data refusal.NotPossible = string (refusal_word refusal.NotPossible)
refusal_data refusal.NotQueued = string (refusal_word refusal.NotQueued)
refusal_data (refusal.AlreadyStarted id) = named_data (refusal_word (refusal.AlreadyStarted id)) (id_data id)
refusal_data refusal.NoSuchName = string (refusal_word refusal.NoSuchName)
refusal_data refusal.NoSuchMachine = string (refusal_word refusal.NoSuchMachine)
refusal_data refusal.NotStopped = string (refusal_word refusal.NotStopped)
refusal_data refusal.Full = string (refusal_word refusal.Full)
refusal_data refusal.BadName = string (refusal_word refusal.BadName)

module _ {C : Type 0} (content_data : C → Data) where
  -- a refusal, with what comes back
  abbrev pub refused_data : Refused C → Data
  refused_data refused =
      object (member (codes "refusal") (refusal_data refused.refusal) (member (codes "value") (content_data refused.value) no_members))

  -- a message
  abbrev pub message_data : Message C → Data
  message_data message =
      object (member (codes "content") (content_data message.content)
      (member (codes "number") (number_data message.number)
      (member (codes "sender") (id_data message.sender)
      (member (codes "target") (id_data message.target) no_members))))

  -- what is handed out to whoever asks for a reply
  abbrev pub collected_data : Collected C → Data
  collected_data collected.Waiting = string (codes "Waiting")
  collected_data (collected.Reply content) = named_data (codes "Reply") (content_data content)
  collected_data (collected.Stopped reason) = named_data (codes "Stopped") (number_data reason)
  collected_data collected.Gone = string (codes "Gone")
