-- What calls do to the messages of a machine: a turn adds to them, a take-out takes the first, and no other changes them.
use Rattle.std.proofs.Common.{◌≡◌, ℕ, ◌^◌, Bool, true, false, nat_lt, if◌then◌else◌, Option, Some, None, Result, Ok, Err, List, [], ◌++◌, refl, sym, ap, ◌∙◌, append-nil}
use Rattle.st_events.specs.declared.event.Event.{Event}
use Rattle.st_events.specs.declared.message.Message.{Message}
use Rattle.st_events.specs.declared.refusal.Refusal.{Refusal}
use Rattle.st_events.specs.declared.refusal.Refusal.TheVariants.{Exhausted, Moment}
use Rattle.st_actions.specs.Plan.{sends_of}
use Rattle.st_outbox.specs.Outbox.{message_numbers, messages_from, AreFrom}
use Rattle.st_outbox.proofs.OutboxLemmas.{sent_own}
use Rattle.st_answers.specs.declared.command.Command.{Command}
use Rattle.st_answers.specs.declared.command.Command.TheVariants as command
use Rattle.st_core.specs.declared.machine_state.MachineState.{MachineState}
use Rattle.st_answers.specs.declared.report.Report.{Report}
use Rattle.st_answers.specs.declared.turned.Turned.{Turned}
use Rattle.st_answers.specs.declared.turned.Turned.TheVariants.{Reported, Idle}
use Rattle.st_core.specs.Callbacks.{Callbacks, Called, called_of}
use Rattle.st_core.specs.Choice.{next_event_of}
use Rattle.st_core.specs.Post.{post_running}
use Rattle.st_core.specs.Run.{step_of}
use Rattle.st_core.specs.Stop.{unless_ended, stop_running}
use Rattle.st_core.specs.Tick.{tick_running}
use Rattle.st_core.specs.Transition.{with_moment, with_called, with_settled, report_of, unless_refused, has_numbers, concluded, transition_of, turn_running, turn_of}

-- whether a command is none that sends messages or takes them out
abbrev pub is_quiet : {C : Type 0} → Command C → Bool
is_quiet (command.Turn now) = false
is_quiet command.TakeOut = false
is_quiet _ = true

-- the numbers of the messages that are reported, if a turn reports
abbrev reported_sent : {S : Type 0} → Result (Turned S) Refusal → List ℕ
reported_sent (Ok (Reported report)) = report.sent
reported_sent (Ok Idle) = []
reported_sent (Err refusal) = []

module _ {S D C : Type 0} where
  -- ---- calls that leave the messages
  unless_keeps : {A : Type 0} (old : MachineState S D C) (ended : Option (ℕ × ℕ)) (refused : Refusal → A) (done : A × MachineState S D C)
      → done.1.outbox ≡ old.outbox → (unless_ended ended refused old done).1.outbox ≡ old.outbox
  unless_keeps old None refused done h = h
  unless_keeps old (Some end) refused done h = refl

  either_keeps : {A : Type 0} (old : MachineState S D C) (test : Bool) (one other : A × MachineState S D C) → one.1.outbox ≡ old.outbox → other.1.outbox ≡ old.outbox
      → (if test then one else other).1.outbox ≡ old.outbox
  either_keeps old true one other h k = h
  either_keeps old false one other h k = k

  -- no command but a turn and a take-out changes them
  pub quiet_keeps : (callbacks : Callbacks S D C) (machine : MachineState S D C) (command : Command C) → is_quiet command ≡ true
      → (step_of callbacks machine command).1.outbox ≡ machine.outbox
  quiet_keeps callbacks machine (command.Post entry content) quiet =
      unless_keeps machine machine.ended _ (post_running machine entry content)
      (either_keeps machine (nat_lt machine.schedule.next_number (2 ^ 63)) _ _ refl refl)
  quiet_keeps callbacks machine (command.Tick now) quiet =
      unless_keeps machine machine.ended _ (tick_running machine now) (either_keeps machine (nat_lt now (2 ^ 63)) _ _ refl refl)
  quiet_keeps callbacks machine (command.Turn now) quiet = cc
  quiet_keeps callbacks machine (command.Reply tag content) quiet = refl
  quiet_keeps callbacks machine (command.Collect tag) quiet = refl
  quiet_keeps callbacks machine (command.Stop reason) quiet = unless_keeps machine machine.ended _ (stop_running callbacks machine reason) refl
  quiet_keeps callbacks machine command.TakeOut quiet = cc

  -- ---- turns
  -- a turn with this answer leaves the messages that were there, and its own behind them, as it reports them
  pub record Adds (old : MachineState S D C) (done : Result (Turned S) Refusal × MachineState S D C) : Type 0 where
    pub sent : List (Message C)
    pub messages : done.1.outbox.messages ≡ old.outbox.messages ++ sent
    pub own : AreFrom old.id sent
    pub reported : (report : Report S) → done.0 ≡ Ok (Reported report) → message_numbers sent ≡ report.sent
    pub quiet : ((report : Report S) → done.0 ≡ Ok (Reported report) → ⊥) → sent ≡ []

  adds_nothing : (old : MachineState S D C) (done : Result (Turned S) Refusal × MachineState S D C) → done.1.outbox.messages ≡ old.outbox.messages
      → ((report : Report S) → done.0 ≡ Ok (Reported report) → [] ≡ report.sent) → Adds old done
  adds_nothing old done same none = record {
    sent = [];
    messages = same ∙ sym (append-nil old.outbox.messages);
    own = tt;
    reported = λ report is. none report is;
    quiet = λ unreported. refl;
  }

  either_adds : (old : MachineState S D C) (test : Bool) (one other : Result (Turned S) Refusal × MachineState S D C) → Adds old one → Adds old other
      → Adds old (if test then one else other)
  either_adds old true one other h k = h
  either_adds old false one other h k = k

  -- what is refused
  refused_adds : (old : MachineState S D C) (refusal : Refusal) → Adds old (Err refusal, old)
  refused_adds old refusal = adds_nothing old (Err refusal, old) refl (λ report is. cc)

  -- a machine that goes on sends what its callbacks ask for, where there are numbers
  went_on_by : (test : Bool) (old : MachineState S D C) (now number : ℕ) (called : Called S D C)
      → Adds old (unless_refused old (if◌then◌else◌ {A = Result (Turned S) Refusal × MachineState S D C} test
      (Ok (Reported (report_of (with_moment old now) number called)), with_settled (with_called (with_moment old now) called) number called)
      (Err Exhausted, with_moment old now)))
  went_on_by true old now number called = record {
    sent = messages_from old.id old.outbox.next_number (sends_of called.actions);
    messages = refl;
    own = sent_own old.id old.outbox.next_number (sends_of called.actions);
    reported = λ report is. ap reported_sent is;
    quiet = λ unreported. absurd (unreported (report_of (with_moment old now) number called) refl);
  }
  went_on_by false old now number called = refused_adds old Exhausted

  module _ (callbacks : Callbacks S D C) where
    concluded_adds : (old : MachineState S D C) (now number : ℕ) (called : Called S D C) (reason : Option ℕ)
        → Adds old (unless_refused old (concluded callbacks (with_moment old now) number called reason))
    concluded_adds old now number called None = went_on_by (has_numbers (with_moment old now) called) old now number called
    concluded_adds old now number called (Some reason) = adds_nothing old _ refl (λ report is. ap reported_sent is)

    transition_adds : (old : MachineState S D C) (now : ℕ) (event : Option (Event C)) → Adds old (unless_refused old (transition_of callbacks (with_moment old now) event))
    transition_adds old now None = adds_nothing old (Ok Idle, with_moment old now) refl (λ report is. cc)
    transition_adds old now (Some event) =
        let called = called_of callbacks (with_moment old now) event in concluded_adds old now event.number called called.reason

    unless_adds : (old : MachineState S D C) (ended : Option (ℕ × ℕ)) (done : Result (Turned S) Refusal × MachineState S D C) → Adds old done
        → Adds old (unless_ended ended (λ refusal. Err refusal) old done)
    unless_adds old None done h = h
    unless_adds old (Some end) done h = refused_adds old _

    -- a turn
    pub turn_adds : (old : MachineState S D C) (now : ℕ) → Adds old (turn_of callbacks old now)
    turn_adds old now =
        unless_adds old old.ended (turn_running callbacks old now)
        (either_adds old (nat_lt now (2 ^ 63)) _ _ (transition_adds old now (next_event_of (with_moment old now))) (refused_adds old Moment))
