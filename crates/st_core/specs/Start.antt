-- A machine starts.
use Rattle.std.specs.Prelude.{◌≡◌, ℕ, ◌^◌, ◌⊎◌, Bool, true, Result, Ok, Err, Option, Some, None, List, [], ◌∷◌, ◌++◌, nat_lt, if◌then◌else◌}
use Rattle.st_events.specs.declared.decision.Decision.{Decision}
use Rattle.st_events.specs.declared.machine_id.MachineId.{MachineId}
use Rattle.st_events.specs.declared.action.Action.{Action}
use Rattle.st_events.specs.declared.init.Init.{Init}
use Rattle.st_events.specs.declared.init.Init.TheVariants as init
use Rattle.st_events.specs.declared.refused.Refused.{Refused}
use Rattle.st_events.specs.declared.refusal.Refusal.{Refusal}
use Rattle.st_events.specs.declared.refusal.Refusal.TheVariants.{NoMemory, Exhausted, Moment}
use Rattle.st_events.specs.declared.timer.Timer.{Timer}
use Rattle.st_actions.specs.Plan.{inserts_of, settings_of, sends_of}
use Rattle.st_agenda.specs.Agenda.{inserted_in, all_set_in}
use Rattle.st_outbox.specs.Outbox.{first_outbox, with_sent}
use Rattle.st_answers.specs.declared.call.Call.{Call}
use Rattle.st_answers.specs.declared.call.Call.TheVariants.{Terminate}
use Rattle.st_answers.specs.declared.done.Done.{Done}
use Rattle.st_answers.specs.declared.done.Done.TheVariants.{Started, Ended}
use Rattle.st_answers.specs.declared.report.Report.{Report}
use Rattle.st_core.specs.declared.start.Start.{Start}
use Rattle.st_core.specs.declared.start.Start.TheVariants.{Running, Ignored, Stopped}
use Rattle.st_core.specs.declared.machine_state.MachineState.{MachineState}
use Rattle.st_core.specs.Callbacks.{Callbacks, Called, begun_by}
use Rattle.st_core.specs.Stop.{with_ended}
use Rattle.st_core.specs.Transition.{has_numbers, inserted_by, sent_by, decisions_of, comes_after_callbacks}

-- what a start reports: no event, how it ended, the calls after `init`'s, `init`'s state before and after,
-- what was inserted, what was asked of timers, and what was sent; no request is open yet, so that no reply was
-- taken
abbrev pub start_report_of : {S : Type 0} → Done → List (Call S) → S → List ℕ → List (Timer × Decision) → List ℕ → Report S
start_report_of done calls state inserted set sent = record {
  event = None;
  done = done;
  calls = calls;
  before = state;
  after = state;
  replied = [];
  inserted = inserted;
  set = set;
  sent = sent;
}

-- a machine to which nothing was posted, whose first event gets this number
abbrev pub first_state : {S D C : Type 0} → MachineId → S → D → ℕ → ℕ → MachineState S D C
first_state id state held now first = record {
  id = id;
  state = state;
  «data» = held;
  schedule = record { pending = []; postponed = []; running = []; next_number = first };
  requests = [];
  outbox = first_outbox;
  latest = now;
  ended = None;
}

-- what the actions of a start ask for is done: events are inserted, then what is asked of timers is done, and then
-- messages are sent
abbrev pub with_begun : {S D C : Type 0} → MachineState S D C → List (Action C) → MachineState S D C
with_begun machine actions = record machine {
  schedule = all_set_in machine.latest (inserted_in machine.schedule (inserts_of actions)) (settings_of actions);
  outbox = with_sent machine.id machine.outbox (sends_of actions);
}

-- `init` answered this state with these data and actions, and this is what it comes to, with the enter call where there
-- are enter calls
pub record BegunBy {S D C : Type 0} (callbacks : Callbacks S D C) (state : S) (held : D) (actions : List (Action C)) (called : Called S D C) : Type 0 where
  pub called_is : called ≡ begun_by callbacks state held actions

module _ {M S D C A : Type 0} where
  -- a refused start gives the module back
  abbrev pub start_refused : M → Refusal → Result (Start M S D C A) (Refused M)
  start_refused module_ refusal = Err (record { refusal = refusal; value = module_ })

  -- a machine runs that does what the actions of `init` and of the enter call ask for; a Postpone is ignored
  abbrev pub started_with : M → MachineState S D C → Called S D C → Result (Start M S D C A) (Refused M)
  started_with module_ machine called =
      if has_numbers machine called
      then Ok (Running
      (record { module_ = module_; machine = with_begun machine called.actions })
      (start_report_of Started called.calls machine.state (inserted_by machine called.actions) (decisions_of (settings_of called.actions)) (sent_by machine called.actions)))
      else start_refused module_ Exhausted

  -- the first enter call stops: there is a machine, which has ended, and nothing was inserted or asked of timers
  abbrev pub ended_with : Callbacks S D C → M → MachineState S D C → Called S D C → ℕ → Result (Start M S D C A) (Refused M)
  ended_with callbacks module_ machine called reason =
      let word = callbacks.terminate_is reason machine.state machine.data in
      Ok (Running
      (record { module_ = module_; machine = with_ended machine reason word })
      (start_report_of (Ended reason word) (called.calls ++ Terminate reason machine.state word ∷ []) machine.state [] [] []))

  -- what comes of the callbacks of a start
  abbrev pub begun_on : Callbacks S D C → M → MachineState S D C → Called S D C → Option ℕ → Result (Start M S D C A) (Refused M)
  begun_on callbacks module_ machine called None = started_with module_ machine called
  begun_on callbacks module_ machine called (Some reason) = ended_with callbacks module_ machine called reason

  -- a machine begins with what the callbacks come to
  abbrev pub begun_as : Callbacks S D C → M → MachineId → Called S D C → ℕ → ℕ → Result (Start M S D C A) (Refused M)
  begun_as callbacks module_ id called now first =
      begun_on callbacks module_ (first_state id called.state called.data now first) called called.reason

  -- what comes of `init`'s answer
  abbrev pub started_by : Callbacks S D C → M → MachineId → Init S D C → ℕ → ℕ → Result (Start M S D C A) (Refused M)
  started_by callbacks module_ id (init.Ok state held actions) now first = begun_as callbacks module_ id (begun_by callbacks state held actions) now first
  started_by callbacks module_ id (init.Stop reason) now first = Ok (Stopped reason)
  started_by callbacks module_ id init.Ignore now first = Ok Ignored

  -- a start with `init`'s answer, at a moment, with the number of the first event: what it answers
  abbrev pub start_of : Callbacks S D C → M → MachineId → Init S D C → ℕ → ℕ → Result (Start M S D C A) (Refused M)
  start_of callbacks module_ id answer now first =
      if nat_lt now (2 ^ 63) then started_by callbacks module_ id answer now first else start_refused module_ Moment

  -- a start takes memory where it comes to calling `init`
  abbrev pub start_takes_memory : Result (Start M S D C A) (Refused M) → Bool
  start_takes_memory (Ok start) = true
  start_takes_memory (Err refused) = comes_after_callbacks refused.refusal

  -- the answer is the definition's; or the definition's start takes memory, there was none, and the
  -- module comes back
  abbrev pub Starts : M → Result (Start M S D C A) (Refused M) → Result (Start M S D C A) (Refused M) → Type 0
  Starts module_ answer definition =
      (answer ≡ definition)
      ⊎ ((start_takes_memory definition ≡ true) × (answer ≡ start_refused module_ NoMemory))
