-- A door's start and its turns computed on examples: the calls that they make and the timers that they set,
-- and what the door is after them.
use Rattle.std.proofs.Common.{◌≡◌, ℕ, false, Some, None, Result, Ok, List, [], ◌∷◌, refl}
use Rattle.st_events.specs.declared.kind.Kind.TheVariants as kind
use Rattle.st_events.specs.declared.machine_id.MachineId.{MachineId}
use Rattle.st_events.specs.declared.refusal.Refusal.{Refusal}
use Rattle.st_events.specs.declared.tag.Tag.{Tag}
use Rattle.st_events.specs.declared.decision.Decision.{Decision}
use Rattle.st_events.specs.declared.decision.Decision.TheVariants as decision
use Rattle.st_events.specs.declared.time.Time.TheVariants.{After}
use Rattle.st_events.specs.declared.timer.Timer.{Timer}
use Rattle.st_events.specs.declared.timer.Timer.TheVariants as timer
use Rattle.st_answers.specs.declared.call.Call.{Call}
use Rattle.st_answers.specs.declared.call.Call.TheVariants.{Handle, Enter}
use Rattle.st_answers.specs.declared.done.Done.TheVariants.{Started, Finished}
use Rattle.st_answers.specs.declared.report.Report.{Report}
use Rattle.st_core.specs.declared.start.Start.TheVariants.{Running}
use Rattle.st_answers.specs.declared.turned.Turned.{Turned}
use Rattle.st_answers.specs.declared.turned.Turned.TheVariants.{Reported, Idle}
use Rattle.st_answers.specs.declared.entry.Entry.TheVariants as entry
use Rattle.st_core.specs.Post.{post_of}
use Rattle.st_core.specs.Replies.{collect_of}
use Rattle.st_core.specs.Start.{first_state, start_of}
use Rattle.st_core.specs.Tick.{tick_of}
use Rattle.st_core.specs.Transition.{turn_of}
use Rattle.st_requests.specs.declared.collected.Collected.TheVariants as collected
use Rattle.st_doors.specs.declared.door_content.DoorContent.TheVariants.{Button, CodeLength, Length}
use Rattle.st_doors.specs.declared.door_state.DoorState.{DoorState}
use Rattle.st_doors.specs.declared.door_state.DoorState.TheVariants.{Locked, Open}
use Rattle.st_doors.specs.Door.{init_of}
use Rattle.st_doors.specs.Doors.{DoorMachine, door_at_first, door_callbacks, door_named, next_tag_of}
use Rattle.st_door.specs.Script.{DoorStart, the_door}

abbrev id : MachineId
id = record { slot = 0; serial = 1 }

-- a door of the code 1 in a state, with these buttons, at a moment, whose next event gets this number
abbrev door_in : DoorState → List ℕ → ℕ → ℕ → DoorMachine
door_in state buttons moment next = first_state id state (record { code = 1 ∷ []; buttons = buttons }) moment next

-- the report of an event that is finished: the calls, the states before and after it, and the timers that were set
abbrev finished : ℕ → List (Call DoorState) → DoorState → DoorState → List (Timer × Decision) → Report DoorState
finished number calls before after set = record {
  event = Some number;
  done = Finished;
  calls = calls;
  before = before;
  after = after;
  replied = [];
  inserted = [];
  set = set;
  sent = [];
}

-- the report of a start that enters the locked door; no timer is set
abbrev begun : Report DoorState
begun = record {
  event = None;
  done = Started;
  calls = Enter Locked Locked ∷ [];
  before = Locked;
  after = Locked;
  replied = [];
  inserted = [];
  set = [];
  sent = [];
}

abbrev started : DoorStart
started = Ok (Running (record { module_ = the_door; machine = door_in Locked [] 0 1 }) begun)

-- a door that starts is entered as a locked one
a_start_enters_locked : start_of door_callbacks the_door id (init_of (1 ∷ [])) 0 1 ≡ started
a_start_enters_locked = refl

-- the button that is the code is pressed, and a turn is made
abbrev opened : Result (Turned DoorState) Refusal × DoorMachine
opened = turn_of door_callbacks (post_of (door_in Locked [] 0 1) entry.Cast (Button 1)).1 0

-- the code opens the door, and the enter call sets the state time-out
the_code_enters_open : opened.0
    ≡ Ok (Reported (finished 1 (Handle 1 kind.Cast Locked ∷ Enter Locked Open ∷ []) Locked Open ((timer.State, decision.Set (After 10000)) ∷ [])))
the_code_enters_open = refl

-- the opened door, if it had a button still
abbrev opened_with_button : DoorMachine
opened_with_button = record opened.1 { «data» = record { code = 1 ∷ []; buttons = 5 ∷ [] } }

-- the state time-out locks the door, and the enter call empties the buttons
the_timeout_enters_locked : turn_of door_callbacks (tick_of opened_with_button 10000).1 10000
    ≡ (
      Ok (Reported (finished 2 (Handle 2 (kind.Timeout timer.State) Open ∷ Enter Open Locked ∷ []) Open Locked [])),
      door_in Locked [] 10000 3,
    )
the_timeout_enters_locked = refl

-- before that moment the time-out does not come
nothing_comes_earlier : turn_of door_callbacks (tick_of opened.1 9999).1 9999 ≡ (Ok Idle, (tick_of opened.1 9999).1)
nothing_comes_earlier = refl

-- the tag of the first call
abbrev first_tag : Tag
first_tag = next_tag_of (door_named [] (door_at_first false (door_in Locked [] 0 1)))

-- the length of the code is asked for, and a turn is made
abbrev answered : Result (Turned DoorState) Refusal × DoorMachine
answered = turn_of door_callbacks (post_of (door_in Locked [] 0 1) entry.Call CodeLength).1 0

-- the call is answered, which the report says
a_call_is_answered : answered.0
    ≡ Ok (Reported (record (finished 1 (Handle 1 (kind.Call first_tag) Locked ∷ []) Locked Locked []) { replied = first_tag ∷ [] }))
a_call_is_answered = refl

-- the reply is collected once, and then nothing of the call is left
the_reply_is_collected : collect_of answered.1 first_tag ≡ (collected.Reply (Length 1), door_in Locked [] 0 2)
the_reply_is_collected = refl

nothing_is_collected_twice : collect_of (door_in Locked [] 0 2) first_tag ≡ (collected.Gone, door_in Locked [] 0 2)
nothing_is_collected_twice = refl

-- before its turn the call waits
an_open_call_waits : (collect_of (post_of (door_in Locked [] 0 1) entry.Call CodeLength).1 first_tag).0 ≡ collected.Waiting
an_open_call_waits = refl
