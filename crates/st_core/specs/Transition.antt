-- One turn: the next event is handled, and the machine changes.
use Rattle.std.specs.Prelude.{ℕ, ◌^◌, Bool, true, false, ◌&&◌, Option, Some, None, Result, Ok, Err, List, [], ◌∷◌, ◌++◌, map, max, nat_lt, if◌then◌else◌}
use Rattle.st_events.specs.declared.action.Action.{Action}
use Rattle.st_events.specs.declared.event.Event.{Event}
use Rattle.st_events.specs.declared.refusal.Refusal.{Refusal}
use Rattle.st_events.specs.declared.refusal.Refusal.TheVariants.{Exhausted, Moment}
use Rattle.st_events.specs.declared.asked.Asked.{Asked}
use Rattle.st_events.specs.declared.asked.Asked.TheVariants as asked
use Rattle.st_events.specs.declared.decision.Decision.{Decision}
use Rattle.st_events.specs.declared.decision.Decision.TheVariants as decision
use Rattle.st_events.specs.declared.setting.Setting.{Setting}
use Rattle.st_events.specs.declared.tag.Tag.{Tag}
use Rattle.st_events.specs.declared.timer.Timer.{Timer}
use Rattle.st_actions.specs.Plan.{replies_of, inserts_of, postpone_of, settings_of, sends_of}
use Rattle.st_requests.specs.Requests.{with_answers, taken_by}
use Rattle.st_agenda.specs.Agenda.{settled_in, running_on}
use Rattle.st_agenda.specs.Items.{numbered, numbers_of}
use Rattle.st_agenda.specs.Timing as timing
use Rattle.st_outbox.specs.Outbox.{messages_from, message_numbers, with_sent, has_message_numbers}
use Rattle.st_answers.specs.declared.call.Call.TheVariants.{Terminate}
use Rattle.st_answers.specs.declared.done.Done.{Done}
use Rattle.st_answers.specs.declared.done.Done.TheVariants.{Finished, PutOff, Ended}
use Rattle.st_answers.specs.declared.report.Report.{Report}
use Rattle.st_answers.specs.declared.turned.Turned.{Turned}
use Rattle.st_answers.specs.declared.turned.Turned.TheVariants.{Reported, Idle}
use Rattle.st_core.specs.declared.machine_state.MachineState.{MachineState}
use Rattle.st_core.specs.Callbacks.{Callbacks, Called, called_of}
use Rattle.st_core.specs.Choice.{next_event_of}
use Rattle.st_core.specs.Stop.{with_ended, unless_ended}

-- how an event ends that is postponed or not
abbrev pub done_by : Bool → Done
done_by postpone = if postpone then PutOff else Finished

-- whether a refusal comes after the callbacks, as only that for want of numbers does
abbrev pub comes_after_callbacks : Refusal → Bool
comes_after_callbacks Exhausted = true
comes_after_callbacks _ = false

-- what a call leaves that answers so: a refusal leaves the machine as it was
abbrev pub left_by : {A T : Type 0} → Result A Refusal → T → T → T
left_by (Ok answer) old new = new
left_by (Err refusal) old new = old

-- a call that is refused leaves the machine as it was
abbrev pub unless_refused : {A T : Type 0} → T → Result A Refusal × T → Result A Refusal × T
unless_refused old done = (done.0, left_by done.0 old done.1)

-- what was asked of a timer, without the content
abbrev pub decision_of : {C : Type 0} → Asked C → Decision
decision_of (asked.Set time content) = decision.Set time
decision_of asked.Cancel = decision.Cancel
decision_of (asked.Update content) = decision.Update

-- the timer of which a setting asks something, with what it is
abbrev pub decided_by : {C : Type 0} → Setting C → Timer × Decision
decided_by setting = (setting.timer, decision_of setting.asked)

-- the timers of which settings ask something, with what it is
abbrev pub decisions_of : {C : Type 0} → List (Setting C) → List (Timer × Decision)
decisions_of {C} settings = map (λ (setting : Setting C). decided_by setting) settings

module _ {S D C : Type 0} where
  -- a moment before the latest one counts as the latest
  abbrev pub with_moment : MachineState S D C → ℕ → MachineState S D C
  with_moment machine now = record machine { latest = max machine.latest now }

  -- the new state and data stand, and the replies are sent, in their order: each answers its request, if
  -- that is open
  abbrev pub with_called : MachineState S D C → Called S D C → MachineState S D C
  with_called machine called = record machine {
    state = called.state;
    «data» = called.data;
    requests = with_answers machine.requests (replies_of called.actions);
  }

  -- the tags of the requests that these replies answer, in their order
  abbrev pub replied_by : MachineState S D C → List (Action C) → List Tag
  replied_by machine actions = taken_by machine.requests (replies_of actions)

  -- what becomes of what waits and what runs, in the manual's order: the event is received, and the
  -- event time-out cancelled; by the actions the event is postponed or finished; at a state change none
  -- is postponed any more, and the state time-out is cancelled; events are inserted; what is asked of
  -- timers is done; and messages are sent
  abbrev pub with_settled : MachineState S D C → ℕ → Called S D C → MachineState S D C
  with_settled machine number called = record machine {
    schedule = settled_in machine.latest machine.schedule number (postpone_of called.actions) called.changed
        (inserts_of called.actions) (settings_of called.actions);
    outbox = with_sent machine.id machine.outbox (sends_of called.actions);
  }

  -- whether there are numbers enough for what actions insert, for the time-outs that they start where others run on,
  -- and for the messages that they send
  abbrev pub has_numbers : MachineState S D C → Called S D C → Bool
  has_numbers machine called =
      timing.has_numbers machine.schedule.next_number (running_on called.changed machine.schedule) (inserts_of called.actions) (settings_of called.actions)
      && has_message_numbers machine.outbox (sends_of called.actions)

  -- the numbers of the messages that actions send
  abbrev pub sent_by : MachineState S D C → List (Action C) → List ℕ
  sent_by machine actions = message_numbers (messages_from machine.id machine.outbox.next_number (sends_of actions))

  -- the numbers of the events that actions insert
  abbrev pub inserted_by : MachineState S D C → List (Action C) → List ℕ
  inserted_by machine actions = numbers_of (numbered machine.schedule.next_number (inserts_of actions))

  -- what a turn reports of an event after which the machine goes on
  abbrev pub report_of : MachineState S D C → ℕ → Called S D C → Report S
  report_of machine number called = record {
    event = Some number;
    done = done_by (postpone_of called.actions);
    calls = called.calls;
    before = machine.state;
    after = called.state;
    replied = replied_by machine called.actions;
    inserted = inserted_by machine called.actions;
    set = decisions_of (settings_of called.actions);
    sent = sent_by machine called.actions;
  }

  -- what a turn reports of an event at which the machine ends
  abbrev pub stop_report_of : MachineState S D C → ℕ → Called S D C → ℕ → ℕ → Report S
  stop_report_of machine number called reason word = record {
    event = Some number;
    done = Ended reason word;
    calls = called.calls ++ Terminate reason called.state word ∷ [];
    before = machine.state;
    after = called.state;
    replied = replied_by machine called.actions;
    inserted = [];
    set = [];
    sent = [];
  }

  -- the machine goes on; where too few numbers are left, the turn is refused
  abbrev pub went_on : MachineState S D C → ℕ → Called S D C → Result (Turned S) Refusal × MachineState S D C
  went_on machine number called =
      if has_numbers machine called
      then (Ok (Reported (report_of machine number called)), with_settled (with_called machine called) number called)
      else (Err Exhausted, machine)

  -- the machine ends, and the word of `terminate` is of the new state and data
  abbrev pub stopped : Callbacks S D C → MachineState S D C → ℕ → Called S D C → ℕ → Result (Turned S) Refusal × MachineState S D C
  stopped callbacks machine number called reason =
      let word = callbacks.terminate_is reason called.state called.data in
      (Ok (Reported (stop_report_of machine number called reason word)), with_ended (with_called machine called) reason word)

  -- what comes of the callbacks
  abbrev pub concluded : Callbacks S D C → MachineState S D C → ℕ → Called S D C → Option ℕ → Result (Turned S) Refusal × MachineState S D C
  concluded callbacks machine number called None = went_on machine number called
  concluded callbacks machine number called (Some reason) = stopped callbacks machine number called reason

  -- the transition on an event, if there is one
  abbrev pub transition_of : Callbacks S D C → MachineState S D C → Option (Event C) → Result (Turned S) Refusal × MachineState S D C
  transition_of callbacks machine None = (Ok Idle, machine)
  transition_of callbacks machine (Some event) =
      let called = called_of callbacks machine event in
      concluded callbacks machine event.number called called.reason

  -- a turn of a machine that runs; one that is refused leaves it as it was, the moment included
  abbrev pub turn_running : Callbacks S D C → MachineState S D C → ℕ → Result (Turned S) Refusal × MachineState S D C
  turn_running callbacks machine now =
      let at : MachineState S D C = with_moment machine now in
      if nat_lt now (2 ^ 63) then unless_refused machine (transition_of callbacks at (next_event_of at)) else (Err Moment, machine)

  -- a turn at a moment: what it answers, and what it leaves
  abbrev pub turn_of : Callbacks S D C → MachineState S D C → ℕ → Result (Turned S) Refusal × MachineState S D C
  turn_of callbacks machine now =
      unless_ended machine.ended (λ refusal. Err refusal) machine (turn_running callbacks machine now)
