-- A machine that can come about is followed by one that can: by every command, by all of a run, and from its start on.
use Rattle.std.proofs.Common.{◌≡◌, ℕ, ◌+◌, ◌<◌, ◌^◌, Bool, true, false, if◌then◌else◌, Option, Some, None, List, [], ◌∷◌, length, refl, ap, subst, arith, inl, inr}
use Rattle.std.specs.Prelude.{Result, Ok, Err, nat_lt, max}
use Rattle.std.specs.Option.{option_map}
use Rattle.std.proofs.Math.Nat.{le-max_left}
use Rattle.std.proofs.lemmas.Bool.{ltb-true, leb-true, and_parts}
use Rattle.st_events.specs.declared.event.Event.{Event}
use Rattle.st_events.specs.declared.init.Init.{Init}
use Rattle.st_events.specs.declared.init.Init.TheVariants as init
use Rattle.st_events.specs.declared.machine_id.MachineId.{MachineId}
use Rattle.st_events.specs.declared.refusal.Refusal.{Refusal}
use Rattle.st_events.specs.declared.refused.Refused.{Refused}
use Rattle.st_events.specs.declared.tag.Tag.{Tag}
use Rattle.st_actions.specs.Plan.{replies_of, inserts_of, postpone_of, settings_of, sends_of}
use Rattle.st_outbox.proofs.OutboxLemmas.{lawful_first, lawful_sent, lawful_taken_out}
use Rattle.st_core.specs.Messages.{take_out_of}
use Rattle.st_requests.specs.declared.request.Request.{Request}
use Rattle.st_requests.specs.Requests.{OneEach, AreOf, with_answer, with_answers, without_kept}
use Rattle.st_requests.proofs.RequestLemmas.{one_each_opened, one_each_answer, one_each_kept, one_each_closed}
use Rattle.st_requests.proofs.LawfulRequests.{are_of_later, are_of_opened, are_of_answer, are_of_answers, are_of_closed, are_of_kept, fresh, one_each_answers, none_open_closed, none_open_answer, none_open_answers, none_open_kept}
use Rattle.st_actions.proofs.OnceLemmas.{settings_once}
use Rattle.st_timeouts.specs.declared.running.Running.{Running as RunningTimeout}
use Rattle.st_agenda.specs.declared.schedule.Schedule.{Schedule}
use Rattle.st_agenda.specs.Agenda.{inserted_in, running_on}
use Rattle.st_agenda.specs.Timing.{numbers_taken}
use Rattle.st_agenda.specs.Timing as timing
use Rattle.st_agenda.proofs.LawfulSetting as schedule
use Rattle.st_agenda.proofs.LawfulTurn.{settled_lawful, settled_next}
use Rattle.st_answers.specs.declared.answer.Answer.{Answer}
use Rattle.st_answers.specs.declared.command.Command.{Command}
use Rattle.st_answers.specs.declared.command.Command.TheVariants as command
use Rattle.st_answers.specs.declared.entry.Entry.{Entry}
use Rattle.st_answers.specs.declared.entry.Entry.TheVariants.{Call, Cast, Info}
use Rattle.st_answers.specs.declared.report.Report.{Report}
use Rattle.st_core.specs.declared.start.Start.{Start}
use Rattle.st_core.specs.declared.start.Start.TheVariants.{Running, Ignored, Stopped}
use Rattle.st_core.specs.declared.machine_state.MachineState.{MachineState}
use Rattle.st_core.specs.MachineState.{Machine}
use Rattle.st_core.specs.Callbacks.{Callbacks, Called, called_of, begun_by}
use Rattle.st_core.specs.Choice.{next_event_of}
use Rattle.st_core.specs.Stop.{with_ended, unless_ended, stop_running, stop_of}
use Rattle.st_core.specs.Transition.{with_moment, with_called, with_settled, has_numbers, unless_refused, went_on, stopped, concluded, transition_of, turn_running, turn_of}
use Rattle.st_core.specs.Post.{opened_by, posted_event, with_posted, post_running, post_of}
use Rattle.st_core.specs.Tick.{with_expiries, tick_running, tick_of}
use Rattle.st_core.specs.Replies.{reply_to, collect_of}
use Rattle.st_core.specs.Run.{takes_memory, without_memory, Meets, Does, step_of, Runs}
use Rattle.st_core.specs.Start.{first_state, with_begun, started_with, begun_on, started_by, start_of}
use Rattle.st_core.specs.Lawful.{IsOver, IsLawful}

-- ---- moments
both_early : (latest now bound : ℕ) → latest < bound → now < bound → max latest now < bound
both_early latest now bound h k = grind (arith, h, k)

-- ---- once a machine has ended, all is over
module _ {C : Type 0} where
  -- a machine that runs is not over
  pub not_over : (schedule : Schedule C) (requests : List (Request C)) (ended : Option (ℕ × ℕ)) → ended ≡ None → IsOver schedule requests ended
  not_over schedule requests None runs = tt
  not_over schedule requests (Some end) runs = cc

  -- replies change nothing then
  over_answer : (schedule : Schedule C) (requests : List (Request C)) (ended : Option (ℕ × ℕ)) (tag : Tag) (content : C)
      → IsOver schedule requests ended → IsOver schedule (with_answer requests tag content) ended
  over_answer schedule requests None tag content over = tt
  over_answer schedule requests (Some end) tag content over =
      (over.0, over.1, over.2, rw (none_open_answer requests tag content over.3) over.3)

  pub over_answers : (schedule : Schedule C) (requests : List (Request C)) (ended : Option (ℕ × ℕ)) (replies : List (Tag × C))
      → IsOver schedule requests ended → IsOver schedule (with_answers requests replies) ended
  over_answers schedule requests None replies over = tt
  over_answers schedule requests (Some end) replies over =
      (over.0, over.1, over.2, rw (none_open_answers requests replies over.3) over.3)

  -- what is collected opens nothing
  over_kept : (schedule : Schedule C) (requests : List (Request C)) (ended : Option (ℕ × ℕ)) (tag : Tag)
      → IsOver schedule requests ended → IsOver schedule (without_kept requests tag) ended
  over_kept schedule requests None tag over = tt
  over_kept schedule requests (Some end) tag over = (over.0, over.1, over.2, none_open_kept requests tag over.3)

  -- ---- a call opens a request
  opened_one_each : (id : MachineId) (next : ℕ) (entry : Entry) (requests : List (Request C)) → AreOf id next requests → OneEach requests
      → OneEach (opened_by (record { machine = id; request = next }) entry requests)
  opened_one_each id next Call requests own each =
      one_each_opened (record { machine = id; request = next }) requests (fresh id next requests own) each
  opened_one_each id next Cast requests own each = each
  opened_one_each id next Info requests own each = each

  opened_own : (id : MachineId) (next : ℕ) (entry : Entry) (requests : List (Request C)) → AreOf id next requests
      → AreOf id (next + 1) (opened_by (record { machine = id; request = next }) entry requests)
  opened_own id next Call requests own = are_of_opened id next requests own
  opened_own id next Cast requests own = are_of_later id next (next + 1) requests (omega arith) own
  opened_own id next Info requests own = are_of_later id next (next + 1) requests (omega arith) own

  -- where there is no request, none is another's
  none_own : (id : MachineId) (next : ℕ) (requests : List (Request C)) → requests ≡ [] → AreOf id next requests
  none_own id next [] none = tt
  none_own id next (request ∷ others) none = cc

  -- where nothing waits and nothing runs, nothing runs on
  pub none_runs : (changed : Bool) (next : ℕ) → running_on {C = C} changed (record { pending = []; postponed = []; running = []; next_number = next }) ≡ []
  none_runs true next = refl
  none_runs false next = refl

module _ {S D C : Type 0} where
  -- a message is taken out
  pub lawful_out : (machine : MachineState S D C) → IsLawful machine → IsLawful (take_out_of machine).1
  lawful_out machine law = record {
    scheduled = law.scheduled;
    one_each = law.one_each;
    own = law.own;
    sent = lawful_taken_out machine.id machine.outbox law.sent;
    moment = law.moment;
    over = law.over;
  }

  -- ---- the parts of what commands do
  -- a moment comes
  pub lawful_moment : (machine : MachineState S D C) (now : ℕ) → now < 2 ^ 63 → IsLawful machine → IsLawful (with_moment machine now)
  lawful_moment machine now early law = record {
    scheduled = schedule.lawful_later machine.latest (max machine.latest now) machine.schedule law.scheduled (le-max_left machine.latest now);
    one_each = law.one_each;
    own = law.own;
    sent = law.sent;
    moment = both_early machine.latest now (2 ^ 63) law.moment early;
    over = law.over;
  }

  -- the callbacks' state and data stand, and their replies are sent
  pub lawful_called : (machine : MachineState S D C) (called : Called S D C) → IsLawful machine → IsLawful (with_called machine called)
  lawful_called machine called law =
      let replies = replies_of called.actions in record {
        scheduled = law.scheduled;
        one_each = one_each_answers machine.requests replies law.one_each;
        own = are_of_answers machine.id machine.schedule.next_number machine.requests replies law.own;
        sent = law.sent;
        moment = law.moment;
        over = over_answers machine.schedule machine.requests machine.ended replies law.over;
      }

  -- what waits and what runs is settled
  pub lawful_settled : (machine : MachineState S D C) (number : ℕ) (called : Called S D C) → machine.ended ≡ None
      → option_map (λ (event : Event C). event.number) (next_event_of machine) ≡ Some number → has_numbers machine called ≡ true
      → IsLawful machine → IsLawful (with_settled machine number called)
  lawful_settled machine number called runs next numbers law =
      let postpone = postpone_of called.actions in
      let inserts = inserts_of called.actions in
      let settings = settings_of called.actions in
      let running = running_on called.changed machine.schedule in
      let enough = and_parts (timing.has_numbers machine.schedule.next_number running inserts settings) _ numbers in
      let reserved = leb-true (machine.schedule.next_number + (length inserts + numbers_taken running settings)) (2 ^ 63) enough.0 in
      let once = settings_once called.actions in
      let sends = sends_of called.actions in
      let after = with_settled machine number called in record {
        scheduled = settled_lawful machine.latest machine.schedule number postpone called.changed inserts settings law.scheduled next once reserved;
        one_each = law.one_each;
        own = are_of_later machine.id machine.schedule.next_number after.schedule.next_number machine.requests
            (settled_next machine.latest machine.schedule number postpone called.changed inserts settings law.scheduled next once reserved) law.own;
        sent = lawful_sent machine.id machine.outbox sends (leb-true (machine.outbox.next_number + length sends) (2 ^ 63) enough.1) law.sent;
        moment = law.moment;
        over = not_over after.schedule machine.requests machine.ended runs;
      }

  -- the machine ends
  pub lawful_ended : (machine : MachineState S D C) (reason word : ℕ) → IsLawful machine → IsLawful (with_ended machine reason word)
  lawful_ended machine reason word law = record {
    scheduled = schedule.lawful_empty machine.latest machine.schedule.next_number law.scheduled.bounded;
    one_each = one_each_closed reason machine.requests law.one_each;
    own = are_of_closed machine.id machine.schedule.next_number reason machine.requests law.own;
    sent = law.sent;
    moment = law.moment;
    over = (refl, refl, refl, none_open_closed reason machine.requests);
  }

  -- an event is posted
  pub lawful_posted : (machine : MachineState S D C) (entry : Entry) (content : C) → machine.ended ≡ None → machine.schedule.next_number < 2 ^ 63
      → IsLawful machine → IsLawful (with_posted machine entry content)
  lawful_posted machine entry content runs reserved law =
      let after = with_posted machine entry content in record {
        scheduled = schedule.lawful_posted machine.latest machine.schedule (posted_event machine entry content) refl reserved law.scheduled;
        one_each = opened_one_each machine.id machine.schedule.next_number entry machine.requests law.own law.one_each;
        own = opened_own machine.id machine.schedule.next_number entry machine.requests law.own;
        sent = law.sent;
        moment = law.moment;
        over = not_over after.schedule after.requests machine.ended runs;
      }

  -- what is due expires
  pub lawful_expired : (machine : MachineState S D C) → machine.ended ≡ None → IsLawful machine → IsLawful (with_expiries machine)
  lawful_expired machine runs law = record {
    scheduled = schedule.lawful_expired machine.latest machine.schedule law.scheduled;
    one_each = law.one_each;
    own = law.own;
    sent = law.sent;
    moment = law.moment;
    over = not_over (with_expiries machine).schedule machine.requests machine.ended runs;
  }

  -- ---- what a call leaves, by its cases
  either_lawful : {A : Type 0} (test : Bool) (chosen other : A × MachineState S D C) → (test ≡ true → IsLawful chosen.1) → IsLawful other.1
      → IsLawful (if test then chosen else other).1
  either_lawful true chosen other first second = first refl
  either_lawful false chosen other first second = second

  either_kept : {A : Type 0} (old : MachineState S D C) (test : Bool) (chosen other : Result A Refusal × MachineState S D C)
      → (test ≡ true → IsLawful (unless_refused old chosen).1) → IsLawful (unless_refused old other).1
      → IsLawful (unless_refused old (if test then chosen else other)).1
  either_kept old true chosen other first second = first refl
  either_kept old false chosen other first second = second

  unless_lawful : {A : Type 0} (ended : Option (ℕ × ℕ)) (refused : Refusal → A) (machine : MachineState S D C) (done : A × MachineState S D C)
      → IsLawful machine → (ended ≡ None → IsLawful done.1) → IsLawful (unless_ended ended refused machine done).1
  unless_lawful None refused machine done law runs = runs refl
  unless_lawful (Some end) refused machine done law runs = law

  -- ---- calls
  post_running_lawful : (machine : MachineState S D C) (entry : Entry) (content : C) → machine.ended ≡ None → IsLawful machine
      → IsLawful (post_running machine entry content).1
  post_running_lawful machine entry content runs law =
      either_lawful (nat_lt machine.schedule.next_number (2 ^ 63)) _ _
      (λ early. lawful_posted machine entry content runs (ltb-true machine.schedule.next_number (2 ^ 63) early) law) law

  pub post_lawful : (machine : MachineState S D C) (entry : Entry) (content : C) → IsLawful machine → IsLawful (post_of machine entry content).1
  post_lawful machine entry content law =
      unless_lawful machine.ended _ machine (post_running machine entry content) law (λ runs. post_running_lawful machine entry content runs law)

  tick_running_lawful : (machine : MachineState S D C) (now : ℕ) → machine.ended ≡ None → IsLawful machine → IsLawful (tick_running machine now).1
  tick_running_lawful machine now runs law =
      either_lawful (nat_lt now (2 ^ 63)) _ _
      (λ early. lawful_expired (with_moment machine now) runs (lawful_moment machine now (ltb-true now (2 ^ 63) early) law)) law

  pub tick_lawful : (machine : MachineState S D C) (now : ℕ) → IsLawful machine → IsLawful (tick_of machine now).1
  tick_lawful machine now law =
      unless_lawful machine.ended _ machine (tick_running machine now) law (λ runs. tick_running_lawful machine now runs law)

  pub reply_lawful : (machine : MachineState S D C) (tag : Tag) (content : C) → IsLawful machine → IsLawful (reply_to machine tag content).1
  reply_lawful machine tag content law = record {
    scheduled = law.scheduled;
    one_each = one_each_answer tag content machine.requests law.one_each;
    own = are_of_answer machine.id machine.schedule.next_number machine.requests tag content law.own;
    sent = law.sent;
    moment = law.moment;
    over = over_answer machine.schedule machine.requests machine.ended tag content law.over;
  }

  pub collect_lawful : (machine : MachineState S D C) (tag : Tag) → IsLawful machine → IsLawful (collect_of machine tag).1
  collect_lawful machine tag law = record {
    scheduled = law.scheduled;
    one_each = one_each_kept tag machine.requests law.one_each;
    own = are_of_kept machine.id machine.schedule.next_number machine.requests tag law.own;
    sent = law.sent;
    moment = law.moment;
    over = over_kept machine.schedule machine.requests machine.ended tag law.over;
  }

  pub stop_lawful : (callbacks : Callbacks S D C) (machine : MachineState S D C) (reason : ℕ) → IsLawful machine
      → IsLawful (stop_of callbacks machine reason).1
  stop_lawful callbacks machine reason law =
      unless_lawful machine.ended _ machine (stop_running callbacks machine reason) law
      (λ runs. lawful_ended machine reason (callbacks.terminate_is reason machine.state machine.data) law)

  -- ---- turns
  -- the machine goes on
  pub went_on_lawful : (machine : MachineState S D C) (now number : ℕ) (called : Called S D C) → machine.ended ≡ None → now < 2 ^ 63
      → option_map (λ (event : Event C). event.number) (next_event_of machine) ≡ Some number → IsLawful machine
      → IsLawful (unless_refused machine (went_on (with_moment machine now) number called)).1
  went_on_lawful machine now number called runs early next law =
      either_kept machine (has_numbers (with_moment machine now) called) _ _
      (λ numbers. lawful_settled (with_called (with_moment machine now) called) number called runs next numbers
      (lawful_called (with_moment machine now) called (lawful_moment machine now early law))) law

  -- it stops
  pub stopped_lawful : (callbacks : Callbacks S D C) (machine : MachineState S D C) (now number : ℕ) (called : Called S D C) (reason : ℕ)
      → now < 2 ^ 63 → IsLawful machine → IsLawful (stopped callbacks (with_moment machine now) number called reason).1
  stopped_lawful callbacks machine now number called reason early law =
      lawful_ended (with_called (with_moment machine now) called) reason (callbacks.terminate_is reason called.state called.data)
      (lawful_called (with_moment machine now) called (lawful_moment machine now early law))

  concluded_lawful : (callbacks : Callbacks S D C) (machine : MachineState S D C) (now number : ℕ) (called : Called S D C) (reason : Option ℕ)
      → machine.ended ≡ None → now < 2 ^ 63 → option_map (λ (event : Event C). event.number) (next_event_of machine) ≡ Some number → IsLawful machine
      → IsLawful (unless_refused machine (concluded callbacks (with_moment machine now) number called reason)).1
  concluded_lawful callbacks machine now number called None runs early next law = went_on_lawful machine now number called runs early next law
  concluded_lawful callbacks machine now number called (Some reason) runs early next law =
      stopped_lawful callbacks machine now number called reason early law

  transition_lawful : (callbacks : Callbacks S D C) (machine : MachineState S D C) (now : ℕ) (next : Option (Event C)) → next_event_of machine ≡ next
      → machine.ended ≡ None → now < 2 ^ 63 → IsLawful machine → IsLawful (unless_refused machine (transition_of callbacks (with_moment machine now) next)).1
  transition_lawful callbacks machine now None same runs early law = lawful_moment machine now early law
  transition_lawful callbacks machine now (Some event) same runs early law =
      let called = called_of callbacks (with_moment machine now) event in
      concluded_lawful callbacks machine now event.number called called.reason runs early
      (ap (option_map (λ (event : Event C). event.number)) same) law

  turn_running_lawful : (callbacks : Callbacks S D C) (machine : MachineState S D C) (now : ℕ) → machine.ended ≡ None → IsLawful machine
      → IsLawful (turn_running callbacks machine now).1
  turn_running_lawful callbacks machine now runs law =
      either_lawful (nat_lt now (2 ^ 63)) _ _
      (λ early. transition_lawful callbacks machine now (next_event_of machine) refl runs (ltb-true now (2 ^ 63) early) law) law

  pub turn_lawful : (callbacks : Callbacks S D C) (machine : MachineState S D C) (now : ℕ) → IsLawful machine → IsLawful (turn_of callbacks machine now).1
  turn_lawful callbacks machine now law =
      unless_lawful machine.ended _ machine (turn_running callbacks machine now) law (λ runs. turn_running_lawful callbacks machine now runs law)

  -- ---- runs
  -- what a call leaves that did what its definition says, or found no memory
  pub met_lawful : {A : Type 0} (takes : A → Bool) (without answer : A) (old new : MachineState S D C) (definition : A × MachineState S D C)
      → Meets takes without answer old new definition → IsLawful old → IsLawful definition.1 → IsLawful new
  met_lawful takes without answer old new definition (inl done) law follows = rw done.1 follows
  met_lawful takes without answer old new definition (inr none) law follows = rw none.2 law

  pub step_lawful : (callbacks : Callbacks S D C) (machine : MachineState S D C) (command : Command C) → IsLawful machine
      → IsLawful (step_of callbacks machine command).1
  step_lawful callbacks machine (command.Post entry content) law = post_lawful machine entry content law
  step_lawful callbacks machine (command.Tick now) law = tick_lawful machine now law
  step_lawful callbacks machine (command.Turn now) law = turn_lawful callbacks machine now law
  step_lawful callbacks machine (command.Reply tag content) law = reply_lawful machine tag content law
  step_lawful callbacks machine (command.Collect tag) law = collect_lawful machine tag law
  step_lawful callbacks machine (command.Stop reason) law = stop_lawful callbacks machine reason law
  step_lawful callbacks machine command.TakeOut law = lawful_out machine law

  -- ---- starts
  -- a machine to which nothing was posted
  pub begun_lawful : (id : MachineId) (state : S) (held : D) (now first : ℕ) → now < 2 ^ 63 → first < 2 ^ 63
      → IsLawful {C = C} (first_state id state held now first)
  begun_lawful id state held now first early reserved = record {
    scheduled = schedule.lawful_empty now first (omega (arith, reserved));
    one_each = tt;
    own = tt;
    sent = lawful_first id;
    moment = early;
    over = tt;
  }

  -- events are inserted, what is asked of timers is done, and messages are sent
  pub with_begun_lawful : (machine : MachineState S D C) (called : Called S D C) → machine.ended ≡ None → machine.requests ≡ []
      → running_on called.changed machine.schedule ≡ machine.schedule.running
      → has_numbers machine called ≡ true → IsLawful machine → IsLawful (with_begun machine called.actions)
  with_begun_lawful machine called runs none running numbers law =
      let inserts = inserts_of called.actions in
      let settings = settings_of called.actions in
      let sends = sends_of called.actions in
      let enough = and_parts (timing.has_numbers machine.schedule.next_number (running_on called.changed machine.schedule) inserts settings) _ numbers in
      let reserved = leb-true (machine.schedule.next_number + (length inserts + numbers_taken (running_on called.changed machine.schedule) settings)) (2 ^ 63) enough.0 in
      let same : numbers_taken (running_on called.changed machine.schedule) settings ≡ numbers_taken machine.schedule.running settings =
      ap (λ (one : List (RunningTimeout C)). numbers_taken one settings) running in
      let after = with_begun machine called.actions in record {
        scheduled = schedule.lawful_set_all machine.latest (inserted_in machine.schedule inserts) settings (settings_once called.actions) (omega (arith, reserved, same))
            (schedule.lawful_inserted machine.latest machine.schedule inserts (omega (arith, reserved)) law.scheduled);
        one_each = law.one_each;
        own = none_own machine.id after.schedule.next_number machine.requests none;
        sent = lawful_sent machine.id machine.outbox sends (leb-true (machine.outbox.next_number + length sends) (2 ^ 63) enough.1) law.sent;
        moment = law.moment;
        over = not_over after.schedule machine.requests machine.ended runs;
      }

module _ {M S D C : Type 0} (callbacks : M → Callbacks S D C) where
  -- a command that was done meets its definition on the machine state
  pub does_meets : (old new : Machine M S D C) (command : Command C) (answer : Answer S C) → Does callbacks old command answer new
      → Meets takes_memory (without_memory command) answer old.machine new.machine (step_of (callbacks old.module_) old.machine command)
  does_meets old new command answer (inl done) = inl (done.0, ap (λ (one : Machine M S D C). one.machine) done.1)
  does_meets old new command answer (inr none) = inr (none.0, none.1, ap (λ (one : Machine M S D C). one.machine) none.2)

  pub does_lawful : (old new : Machine M S D C) (command : Command C) (answer : Answer S C) → Does callbacks old command answer new
      → IsLawful old.machine → IsLawful new.machine
  does_lawful old new command answer does law =
      met_lawful takes_memory (without_memory command) answer old.machine new.machine (step_of (callbacks old.module_) old.machine command)
      (does_meets old new command answer does) law (step_lawful (callbacks old.module_) old.machine command law)

  pub runs_lawful : (old : Machine M S D C) (commands : List (Command C)) (answers : List (Answer S C)) (new : Machine M S D C)
      → Runs callbacks old commands answers new → IsLawful old.machine → IsLawful new.machine
  runs_lawful old [] [] new ran law = rw ran law
  runs_lawful old [] (answer ∷ answers) new ran law = absurd ran
  runs_lawful old (command ∷ commands) [] new ran law = absurd ran
  runs_lawful old (command ∷ commands) (answer ∷ answers) new ran law =
      runs_lawful ran.0 commands answers new ran.2 (does_lawful old ran.0 command answer ran.1 law)

module _ (A : Type 0) {M S D C : Type 0} where
  -- where a machine started, it can come about
  abbrev StartsLawful : Result (Start M S D C A) (Refused M) → Type 0
  StartsLawful (Ok (Running core report)) = IsLawful core.machine
  StartsLawful (Ok Ignored) = Unit {0}
  StartsLawful (Ok (Stopped reason)) = Unit {0}
  StartsLawful (Err refused) = Unit {0}

  either_starts : (test : Bool) (chosen other : Result (Start M S D C A) (Refused M)) → (test ≡ true → StartsLawful chosen) → StartsLawful other
      → StartsLawful (if test then chosen else other)
  either_starts true chosen other first second = first refl
  either_starts false chosen other first second = second

  started_starts : (module_ : M) (id : MachineId) (called : Called S D C) (now first : ℕ) → now < 2 ^ 63 → first < 2 ^ 63
      → StartsLawful (started_with {A = A} module_ (first_state id called.state called.data now first) called)
  started_starts module_ id called now first early reserved =
      let machine : MachineState S D C = first_state id called.state called.data now first in
      either_starts (has_numbers machine called) _ _
      (λ numbers. with_begun_lawful machine called refl refl (none_runs called.changed first) numbers (begun_lawful id called.state called.data now first early reserved)) tt

  begun_starts : (callbacks : Callbacks S D C) (module_ : M) (id : MachineId) (called : Called S D C) (now first : ℕ) (reason : Option ℕ)
      → now < 2 ^ 63 → first < 2 ^ 63
      → StartsLawful (begun_on {A = A} callbacks module_ (first_state id called.state called.data now first) called reason)
  begun_starts callbacks module_ id called now first None early reserved = started_starts module_ id called now first early reserved
  begun_starts callbacks module_ id called now first (Some reason) early reserved =
      let machine : MachineState S D C = first_state id called.state called.data now first in
      lawful_ended machine reason (callbacks.terminate_is reason machine.state machine.data)
      (begun_lawful id called.state called.data now first early reserved)

  answer_starts : (callbacks : Callbacks S D C) (module_ : M) (id : MachineId) (answer : Init S D C) (now first : ℕ) → now < 2 ^ 63 → first < 2 ^ 63
      → StartsLawful (started_by {A = A} callbacks module_ id answer now first)
  answer_starts callbacks module_ id (init.Ok state held actions) now first early reserved =
      let called = begun_by callbacks state held actions in
      begun_starts callbacks module_ id called now first called.reason early reserved
  answer_starts callbacks module_ id (init.Stop reason) now first early reserved = tt
  answer_starts callbacks module_ id init.Ignore now first early reserved = tt

  start_starts : (callbacks : Callbacks S D C) (module_ : M) (id : MachineId) (answer : Init S D C) (now first : ℕ) → first < 2 ^ 63
      → StartsLawful (start_of {A = A} callbacks module_ id answer now first)
  start_starts callbacks module_ id answer now first reserved =
      either_starts (nat_lt now (2 ^ 63)) _ _
      (λ early. answer_starts callbacks module_ id answer now first (ltb-true now (2 ^ 63) early) reserved) tt

  started_is : (result : Result (Start M S D C A) (Refused M)) (core : Machine M S D C) (report : Report S) → result ≡ Ok (Running core report)
      → StartsLawful result → IsLawful core.machine
  started_is result core report same starts = subst (λ one. StartsLawful one) same starts

-- a machine that started can come about
module _ {M S D C A : Type 0} where
  pub start_lawful : (callbacks : Callbacks S D C) (module_ : M) (id : MachineId) (answer : Init S D C) (now first : ℕ) → first < 2 ^ 63
      → (core : Machine M S D C) (report : Report S) → start_of {A = A} callbacks module_ id answer now first ≡ Ok (Running core report)
      → IsLawful core.machine
  start_lawful callbacks module_ id answer now first reserved core report same =
      started_is A (start_of callbacks module_ id answer now first) core report same (start_starts A callbacks module_ id answer now first reserved)
