-- The next event stays where others come behind it.
--     first_received_behind     the first received event is the same, if none of those behind was received
--     choice_behind             what a turn takes up is the same
--     does_next, runs_next      no command but a turn or a stop changes the next event
use Rattle.std.proofs.Common.{◌≡◌, ℕ, ◌+◌, ◌^◌, Bool, true, false, if◌then◌else◌, Option, Some, None, List, [], ◌∷◌, ◌++◌, refl, ap, ◌∙◌, inl, inr}
use Rattle.std.specs.Prelude.{◌||◌, nat_lt, map}
use Rattle.std.specs.Option.{option_map}
use Rattle.st_events.specs.declared.event.Event.{Event}
use Rattle.st_events.specs.declared.refusal.Refusal.{Refusal}
use Rattle.st_timeouts.specs.declared.running.Running.{Running}
use Rattle.st_timeouts.specs.Running.{first_zero_of}
use Rattle.st_agenda.specs.declared.item.Item.{Item}
use Rattle.st_agenda.specs.declared.item.Item.TheVariants.{Received, Posted, Expiry}
use Rattle.st_agenda.specs.Items.{has, or_else, first_received}
use Rattle.st_agenda.specs.Choice.{Choice, event_of, choice_among, first_unreceived}
use Rattle.st_agenda.specs.Choice.Choice.{Resumed, Lapsed}
use Rattle.st_agenda.specs.Lawful.{NoneReceived}
use Rattle.st_answers.specs.declared.answer.Answer.{Answer}
use Rattle.st_answers.specs.declared.command.Command.{Command}
use Rattle.st_answers.specs.declared.command.Command.TheVariants as command
use Rattle.st_core.specs.declared.machine_state.MachineState.{MachineState}
use Rattle.st_core.specs.MachineState.{Machine}
use Rattle.st_core.specs.Callbacks.{Callbacks}
use Rattle.st_core.specs.Choice.{next_event_of}
use Rattle.st_core.specs.Stop.{unless_ended}
use Rattle.st_core.specs.Transition.{with_moment}
use Rattle.st_core.specs.Post.{posted_event, post_running}
use Rattle.st_core.specs.Tick.{tick_running, expiring_of}
use Rattle.st_core.specs.Run.{takes_memory, without_memory, Meets, Does, step_of, Runs}
use Rattle.st_core.proofs.LawfulLemmas.{does_meets}
use Rattle.st_hosted.specs.Shown.{is_turn_or_stop, has_turn_or_stop}

-- ---- one of two tests holds nowhere where neither does
neither : (one other : Bool) → (one || other) ≡ false → (one ≡ false) × (other ≡ false)
neither true other h = cc
neither false other h = (refl, h)

module _ {A : Type 0} where
  -- the third of three may become another, as long as it stays where it is there
  or_else_behind : (first second third later : Option A) (one : A) → ((x : A) → third ≡ Some x → later ≡ Some x)
      → or_else first (or_else second third) ≡ Some one → or_else first (or_else second later) ≡ Some one
  or_else_behind (Some x) second third later one stays h = h
  or_else_behind None (Some x) third later one stays h = h
  or_else_behind None None third later one stays h = stays one h

  -- so may what a function is applied to
  mapped_behind : {B : Type 0} (f : A → B) (old new : Option A) (y : B) → ((x : A) → old ≡ Some x → new ≡ Some x)
      → option_map f old ≡ Some y → option_map f new ≡ Some y
  mapped_behind f None new y stays h = cc
  mapped_behind f (Some x) new y stays h = ap (option_map f) (stays x refl) ∙ h

module _ {C : Type 0} where
  -- among what was not received no event was
  none_first : (postponed : List ℕ) (items : List (Item C)) → NoneReceived items → first_received postponed items ≡ None
  none_first postponed [] none = refl
  none_first postponed (Received event ∷ items) none = absurd none
  none_first postponed (Posted event ∷ items) none = none_first postponed items none
  none_first postponed (Expiry timer ∷ items) none = none_first postponed items none

  pub first_received_behind : (postponed : List ℕ) (items more : List (Item C)) → NoneReceived more
      → first_received postponed (items ++ more) ≡ first_received postponed items
  first_received_behind postponed [] more none = none_first postponed more none
  first_received_behind postponed (Received event ∷ items) more none =
      ap (λ (first : Option (Event C)). if has postponed event.number then first else Some event) (first_received_behind postponed items more none)
  first_received_behind postponed (Posted event ∷ items) more none = first_received_behind postponed items more none
  first_received_behind postponed (Expiry timer ∷ items) more none = first_received_behind postponed items more none

  -- the first item that was not received stays the first
  first_unreceived_behind : (running : List (Running C)) (items more : List (Item C)) (choice : Choice C)
      → first_unreceived running items ≡ Some choice → first_unreceived running (items ++ more) ≡ Some choice
  first_unreceived_behind running [] more choice h = cc
  first_unreceived_behind running (Received event ∷ items) more choice h = first_unreceived_behind running items more choice h
  first_unreceived_behind running (Posted event ∷ items) more choice h = h
  first_unreceived_behind running (Expiry timer ∷ items) more choice h = h

  pub choice_behind : (postponed : List ℕ) (items more : List (Item C)) (running : List (Running C)) (choice : Choice C) → NoneReceived more
      → choice_among postponed items running ≡ Some choice → choice_among postponed (items ++ more) running ≡ Some choice
  choice_behind postponed items more running choice none h =
      ap (λ (first : Option (Event C)). or_else (option_map Resumed first) (or_else (option_map Lapsed (first_zero_of running)) (first_unreceived running (items ++ more))))
      (first_received_behind postponed items more none)
      ∙ or_else_behind (option_map Resumed (first_received postponed items)) (option_map Lapsed (first_zero_of running)) (first_unreceived running items)
      (first_unreceived running (items ++ more)) choice (first_unreceived_behind running items more) h

  -- expiries were not received
  expiries_unreceived : (expiring : List (Running C)) → NoneReceived {C = C} (map (λ (one : Running C). Expiry one.timer) expiring)
  expiries_unreceived [] = tt
  expiries_unreceived (one ∷ expiring) = expiries_unreceived expiring

module _ {S D C : Type 0} (event : Event C) where
  -- the event comes next
  abbrev Comes : MachineState S D C → Type 0
  Comes machine = next_event_of machine ≡ Some event

  comes_behind : (machine : MachineState S D C) (more : List (Item C)) (next : ℕ) → NoneReceived more → Comes machine
      → Comes (record machine { schedule = record machine.schedule { pending = machine.schedule.pending ++ more; next_number = next } })
  comes_behind machine more next none comes =
      mapped_behind event_of (choice_among machine.schedule.postponed machine.schedule.pending machine.schedule.running)
      (choice_among machine.schedule.postponed (machine.schedule.pending ++ more) machine.schedule.running) event
      (λ choice. choice_behind machine.schedule.postponed machine.schedule.pending more machine.schedule.running choice none) comes

  either_comes : {A : Type 0} (test : Bool) (chosen other : A × MachineState S D C) → Comes chosen.1 → Comes other.1
      → Comes (if test then chosen else other).1
  either_comes true chosen other first second = first
  either_comes false chosen other first second = second

  unless_comes : {A : Type 0} (ended : Option (ℕ × ℕ)) (refused : Refusal → A) (machine : MachineState S D C) (done : A × MachineState S D C)
      → Comes machine → Comes done.1 → Comes (unless_ended ended refused machine done).1
  unless_comes None refused machine done comes after = after
  unless_comes (Some end) refused machine done comes after = comes

  step_comes : (callbacks : Callbacks S D C) (machine : MachineState S D C) (command : Command C) → is_turn_or_stop command ≡ false
      → Comes machine → Comes (step_of callbacks machine command).1
  step_comes callbacks machine (command.Post entry content) other comes =
      unless_comes machine.ended _ machine (post_running machine entry content) comes
      (either_comes (nat_lt machine.schedule.next_number (2 ^ 63)) _ _
      (comes_behind machine (Posted (posted_event machine entry content) ∷ []) (machine.schedule.next_number + 1) tt comes) comes)
  step_comes callbacks machine (command.Tick now) other comes =
      unless_comes machine.ended _ machine (tick_running machine now) comes
      (either_comes (nat_lt now (2 ^ 63)) _ _
      (comes_behind (with_moment machine now) (map (λ (one : Running C). Expiry one.timer) (expiring_of (with_moment machine now)))
      machine.schedule.next_number (expiries_unreceived (expiring_of (with_moment machine now))) comes) comes)
  step_comes callbacks machine (command.Turn now) other comes = cc
  step_comes callbacks machine (command.Reply tag content) other comes = comes
  step_comes callbacks machine (command.Collect tag) other comes = comes
  step_comes callbacks machine (command.Stop reason) other comes = cc
  step_comes callbacks machine command.TakeOut other comes = comes

  met_comes : {A : Type 0} (takes : A → Bool) (without answer : A) (old new : MachineState S D C) (definition : A × MachineState S D C)
      → Meets takes without answer old new definition → Comes old → Comes definition.1 → Comes new
  met_comes takes without answer old new definition (inl done) comes after = rw done.1 after
  met_comes takes without answer old new definition (inr none) comes after = rw none.2 comes

  module _ {M : Type 0} (callbacks : M → Callbacks S D C) where
    pub does_next : (old new : Machine M S D C) (command : Command C) (answer : Answer S C) → is_turn_or_stop command ≡ false
        → Does callbacks old command answer new → next_event_of old.machine ≡ Some event → next_event_of new.machine ≡ Some event
    does_next old new command answer other does comes =
        met_comes takes_memory (without_memory command) answer old.machine new.machine (step_of (callbacks old.module_) old.machine command)
        (does_meets callbacks old new command answer does) comes (step_comes (callbacks old.module_) old.machine command other comes)

    pub runs_next : (old : Machine M S D C) (commands : List (Command C)) (answers : List (Answer S C)) (new : Machine M S D C)
        → has_turn_or_stop commands ≡ false → Runs callbacks old commands answers new
        → next_event_of old.machine ≡ Some event → next_event_of new.machine ≡ Some event
    runs_next old [] [] new other ran comes = rw ran comes
    runs_next old [] (answer ∷ answers) new other ran comes = absurd ran
    runs_next old (command ∷ commands) [] new other ran comes = absurd ran
    runs_next old (command ∷ commands) (answer ∷ answers) new other ran comes =
        let both = neither (is_turn_or_stop command) (has_turn_or_stop commands) other in
        runs_next ran.0 commands answers new both.1 ran.2 (does_next old ran.0 command answer both.0 ran.1 comes)
