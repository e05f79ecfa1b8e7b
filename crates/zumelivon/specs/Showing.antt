-- What is handed out, as numbers.
use Rattle.std.specs.Prelude.{ℕ, Bool, List, ◌++◌, Option, None, Some, length, drop, is_some, slice_get, ◌==◌, if◌then◌else◌}
use Rattle.std.specs.Option.{option_map, option_map_or}
use Rattle.st_answers.specs.declared.done.Done.{Done}
use Rattle.st_answers.specs.declared.done.Done.TheVariants as done
use Rattle.st_answers.specs.declared.report.Report.{Report}
use Rattle.st_core.specs.MachineState.{Machine}
use Rattle.st_core.specs.Choice.{has_event_of, has_message_of, waiting_of, next_due_of}
use Rattle.st_embedded.specs.declared.lists.Lists.{Lists}
use Rattle.st_events.specs.declared.decision.Decision.{Decision}
use Rattle.st_events.specs.declared.decision.Decision.TheVariants as decision
use Rattle.st_events.specs.declared.event.Event.{Event}
use Rattle.st_events.specs.declared.kind.Kind.{Kind}
use Rattle.st_events.specs.declared.kind.Kind.TheVariants as kind
use Rattle.st_events.specs.declared.message.Message.{Message}
use Rattle.st_events.specs.declared.tag.Tag.{Tag}
use Rattle.st_events.specs.declared.time.Time.{Time}
use Rattle.st_events.specs.declared.time.Time.TheVariants.{After, Infinity}
use Rattle.st_events.specs.declared.timer.Timer.{Timer}
use Rattle.st_events.specs.declared.timer.Timer.TheVariants as timer
use Rattle.st_embedded.specs.Hosted.{Hosted}
use Rattle.st_hosted.specs.declared.payload.Payload.{Payload}
use Rattle.zumelivon.specs.declared.flat_content.FlatContent.{FlatContent}
use Rattle.zumelivon.specs.declared.flat_event.FlatEvent.{FlatEvent}
use Rattle.zumelivon.specs.declared.flat_listed.FlatListed.{FlatListed}
use Rattle.zumelivon.specs.declared.flat_machine.FlatMachine.{FlatMachine}
use Rattle.zumelivon.specs.declared.flat_message.FlatMessage.{FlatMessage}
use Rattle.zumelivon.specs.declared.flat_report.FlatReport.{FlatReport}

-- ---- bytes

-- a room whose first bytes are these now
abbrev pub written : List ℕ → List ℕ → List ℕ
written bytes room = bytes ++ drop (length bytes) room

-- ---- timers and kinds

abbrev pub timer_number : Timer → ℕ
timer_number timer.Event = 0
timer_number timer.State = 1
timer_number (timer.Named name) = 2

abbrev pub timer_name : Timer → ℕ
timer_name timer.Event = 0
timer_name timer.State = 0
timer_name (timer.Named name) = name

abbrev pub flag : Bool → ℕ
flag it = if it then 1 else 0

abbrev pub kind_number : Kind → ℕ
kind_number (kind.Call tag) = 0
kind_number kind.Cast = 1
kind_number kind.Info = 2
kind_number (kind.Timeout timer) = 3
kind_number kind.Internal = 4

abbrev pub timer_in : Kind → Timer
timer_in (kind.Timeout timer) = timer
timer_in other = timer.Event

abbrev pub tag_in : Kind → Option Tag
tag_in (kind.Call tag) = Some tag
tag_in other = None

abbrev pub machine_of : Option Tag → ℕ
machine_of tag = option_map_or (λ (it : Tag). it.machine.serial) tag 0

abbrev pub request_of : Option Tag → ℕ
request_of tag = option_map_or (λ (it : Tag). it.request) tag 0

-- ---- an event, with the state and the data of the machine that it waits for

abbrev pub flat_event : Hosted → Event Payload → FlatEvent
flat_event before event = record {
  number = event.number;
  kind = kind_number event.kind;
  timer = timer_number (timer_in event.kind);
  name = timer_name (timer_in event.kind);
  enters = flag before.module_.enters;
  machine = machine_of (tag_in event.kind);
  request = request_of (tag_in event.kind);
  code = event.content.code;
  length = length event.content.bytes;
  state = before.machine.state;
  «data» = before.machine.«data»;
}

-- ---- reports

abbrev pub done_number : Done → ℕ
done_number done.Started = 0
done_number done.Finished = 1
done_number done.PutOff = 2
done_number (done.Ended reason word) = 3

abbrev pub done_reason : Done → ℕ
done_reason (done.Ended reason word) = reason
done_reason other = 0

abbrev pub done_word : Done → ℕ
done_word (done.Ended reason word) = word
done_word other = 0

-- a report, with what stands for its states
abbrev pub flat_report_as : {S : Type 0} → ℕ → ℕ → Report S → FlatReport
flat_report_as before after report = record {
  event = option_map_or (λ number. number) report.event 0;
  has_event = flag (is_some report.event);
  done = done_number report.done;
  reason = done_reason report.done;
  word = done_word report.done;
  before = before;
  after = after;
  calls = length report.calls;
  replied = length report.replied;
  inserted = length report.inserted;
  set = length report.set;
  sent = length report.sent;
}

abbrev pub flat_report : Report ℕ → FlatReport
flat_report report = flat_report_as report.before report.after report

abbrev pub no_listed : FlatListed
no_listed = record { machine = 0; number = 0; timer = 0; name = 0; decision = 0; time = 0; infinite = 0; unused = 0 }

abbrev pub replied_entry : Tag → FlatListed
replied_entry tag = record no_listed { machine = tag.machine.serial; number = tag.request }

abbrev pub number_entry : ℕ → FlatListed
number_entry number = record no_listed { number = number }

abbrev pub decision_number : Decision → ℕ
decision_number (decision.Set time) = 0
decision_number decision.Cancel = 1
decision_number decision.Update = 2

abbrev pub decision_time : Decision → Time
decision_time (decision.Set time) = time
decision_time other = After 0

abbrev pub time_number : Time → ℕ
time_number (After time) = time
time_number Infinity = 0

abbrev pub time_infinite : Time → ℕ
time_infinite (After time) = 0
time_infinite Infinity = 1

abbrev pub set_entry : Timer × Decision → FlatListed
set_entry it = record no_listed {
  timer = timer_number it.0;
  name = timer_name it.0;
  decision = decision_number it.1;
  time = time_number (decision_time it.1);
  infinite = time_infinite (decision_time it.1);
}

-- the element of a list at an index
abbrev pub listed_at : Lists → ℕ → ℕ → Option FlatListed
listed_at lists list index =
    if list == 0 then option_map replied_entry (slice_get lists.replied index) else (
    if list == 1 then option_map number_entry (slice_get lists.inserted index) else (
    if list == 2 then option_map set_entry (slice_get lists.set index) else
    option_map number_entry (slice_get lists.sent index)))

-- ---- machines

-- a machine, with what stands for its state and its data
abbrev pub flat_machine : {M S D C : Type 0} → ℕ → ℕ → Machine M S D C → FlatMachine
flat_machine state held before = record {
  state = state;
  «data» = held;
  latest = before.machine.latest;
  waiting = waiting_of before.machine;
  due = option_map_or (λ moment. moment) (next_due_of before.machine) 0;
  has_due = flag (is_some (next_due_of before.machine));
  has_event = flag (has_event_of before.machine);
  has_message = flag (has_message_of before.machine);
  ended = flag (is_some before.machine.ended);
  reason = option_map_or (λ (it : ℕ × ℕ). it.0) before.machine.ended 0;
  word = option_map_or (λ (it : ℕ × ℕ). it.1) before.machine.ended 0;
}

-- ---- replies and messages

abbrev pub flat_content : Payload → FlatContent
flat_content it = record { code = it.code; length = length it.bytes; reason = 0; unused = 0 }

abbrev pub flat_message : Message Payload → FlatMessage
flat_message it = record { target = it.target.serial; number = it.number; code = it.content.code; length = length it.content.bytes }
