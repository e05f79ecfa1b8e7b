-- What was gathered for a report, and the answer that it makes.
use Rattle.std.specs.Prelude.{◌≡◌, ℕ, Bool, ◌&&◌, Option, Some, List, [], Result, Ok, Err, if◌then◌else◌}
use Rattle.st_events.specs.declared.action.Action.{Action}
use Rattle.st_events.specs.declared.outcome.Outcome.{Outcome}
use Rattle.st_events.specs.declared.refusal.Refusal.{Refusal}
use Rattle.st_answers.specs.declared.done.Done.{Done}
use Rattle.st_answers.specs.declared.report.Report.{Report}
use Rattle.st_answers.specs.declared.turned.Turned.{Turned}
use Rattle.st_answers.specs.declared.turned.Turned.TheVariants.{Reported}
use Rattle.st_answers.specs.declared.call.Call.{Call}
use Rattle.st_core.specs.declared.course.Course.{Course}
use Rattle.st_core.specs.declared.gathered.Gathered.{Gathered}
use Rattle.st_core.specs.declared.machine_state.MachineState.{MachineState}
use Rattle.st_core.specs.MachineState.{Machine}
use Rattle.st_core.specs.Callbacks.{Callbacks, Called, or_old, called_with, entered_by, is_entered}
use Rattle.st_core.specs.Run.{Meets, turn_takes_memory, turn_without_memory}

-- no reply was taken yet, and nothing is inserted, set or sent
pub record IsEmpty {S : Type 0} (gathered : Gathered S) : Type 0 where
  pub replied : gathered.replied.items ≡ []
  pub inserted : gathered.inserted ≡ []
  pub set : gathered.set ≡ []
  pub sent : gathered.sent ≡ []

-- the report that tells it
abbrev pub report_with : {S : Type 0} → Option ℕ → Done → S → S → Gathered S → Report S
report_with event done before after gathered = record {
  event = event;
  done = done;
  calls = gathered.calls;
  before = before;
  after = after;
  replied = gathered.replied.items;
  inserted = gathered.inserted;
  set = gathered.set;
  sent = gathered.sent;
}

-- what a turn answers that ended so, or was refused
abbrev pub turned_with : {S : Type 0} → ℕ → S → S → Gathered S → Result Done Refusal → Result (Turned S) Refusal
turned_with number before after gathered (Ok done) = Ok (Reported (report_with (Some number) done before after gathered))
turned_with number before after gathered (Err refusal) = Err refusal

-- the callbacks of a transition came to this: these calls, the state and the change of its course, new data or else the
-- old, and these actions
pub record ComesTo {S D C : Type 0} (course : Course S) (held : D) (made : List (Call S)) (new : Option D) (asked : List (Action C)) (called : Called S D C) : Type 0 where
  pub calls : called.calls ≡ made
  pub state : called.state ≡ course.after
  pub «data» : called.data ≡ or_old held new
  pub changed : called.changed ≡ course.changed
  pub actions : called.actions ≡ asked

-- the state that was come to is entered where there are enter calls and one is due: then the enter call's part is in
pub record EntersWhere {S D C : Type 0} (callbacks : Callbacks S D C) (old : S) (due : Bool) (handled called : Called S D C) : Type 0 where
  pub called_is : called ≡ (if callbacks.enters_is && due then entered_by callbacks old handled else handled)

-- `handle` answered this outcome to an event of a machine, and this is what it comes to, alone and with the enter call
pub record ComesOf {S D C : Type 0} (callbacks : Callbacks S D C) (machine : MachineState S D C) (made : List (Call S)) (outcome : Outcome S D C) (handled called : Called S D C) : Type 0 where
  pub handled_is : handled ≡ called_with callbacks.same_state made machine.state machine.data outcome
  pub called_is : called ≡ (if is_entered callbacks machine.state outcome then entered_by callbacks machine.state handled else handled)

-- a turn on an event ended so, or was refused: the module stays, and its answer and the machine after it are those of the
-- definition; or memory was wanted, and nothing changed
abbrev pub TurnsTo : {M S D C : Type 0} → ℕ → Machine M S D C → Machine M S D C → Gathered S → Result Done Refusal → Result (Turned S) Refusal × MachineState S D C → Type 0
TurnsTo number old new gathered result definition =
    (new.module_ ≡ old.module_)
    × Meets turn_takes_memory turn_without_memory (turned_with number old.machine.state new.machine.state gathered result) old.machine new.machine definition
