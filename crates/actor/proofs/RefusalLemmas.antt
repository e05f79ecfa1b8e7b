-- Why a machine could not be served on: for want of memory, or of numbers.
use Rattle.std.proofs.Common.{◌≡◌, ℕ, ◌<◌, ◌^◌, Bool, true, false, Option, Some, None, refl, ap, ◌∙◌, inl, inr, if◌then◌else◌}
use Rattle.std.specs.Prelude.{Result, Ok, Err, nat_lt}
use Rattle.std.proofs.lemmas.Bool.{lt-ltb}
use Rattle.st_events.specs.declared.event.Event.{Event}
use Rattle.st_events.specs.declared.refused.Refused.{Refused}
use Rattle.st_events.specs.declared.refusal.Refusal.{Refusal}
use Rattle.st_events.specs.declared.refusal.Refusal.TheVariants as refusal
use Rattle.st_answers.specs.declared.answer.Answer.{Answer}
use Rattle.st_answers.specs.declared.answer.Answer.TheVariants as answer
use Rattle.st_answers.specs.declared.command.Command.TheVariants as command
use Rattle.st_answers.specs.declared.entry.Entry.{Entry}
use Rattle.st_core.specs.declared.machine_state.MachineState.{MachineState}
use Rattle.st_answers.specs.declared.turned.Turned.{Turned}
use Rattle.st_core.specs.Callbacks.{Callbacks, called_of}
use Rattle.st_core.specs.Choice.{next_event_of}
use Rattle.st_core.specs.MachineState.{Machine}
use Rattle.st_core.specs.Post.{post_of, post_running, post_refused}
use Rattle.st_core.specs.Run.{Does, turn_takes_memory}
use Rattle.st_core.specs.Stop.{unless_ended}
use Rattle.st_core.specs.Tick.{tick_of, tick_running}
use Rattle.st_core.specs.Transition.{comes_after_callbacks, with_moment, transition_of, turn_of, turn_running}
use Rattle.st_core.proofs.TransitionLemmas.{concluded_takes_memory}
use Rattle.actor.specs.declared.event.Event.{Event as Sent}
use Rattle.actor.specs.Ending.{IsWant, IsUnserved}
use Rattle.actor.specs.Serving.{IsNext}

-- ---- what is refused, and what is answered
exhausted : (why : Refusal) → comes_after_callbacks why ≡ true → why ≡ refusal.Exhausted
exhausted refusal.NoMemory h = cc
exhausted (refusal.Stopped reason) h = cc
exhausted refusal.Exhausted h = refl
exhausted refusal.Moment h = cc
exhausted refusal.NotPossible h = cc
exhausted refusal.NotQueued h = cc
exhausted (refusal.AlreadyStarted id) h = cc
exhausted refusal.NoSuchName h = cc
exhausted refusal.NoSuchMachine h = cc
exhausted refusal.NotStopped h = cc
exhausted refusal.Full h = cc
exhausted refusal.BadName h = cc

module _ {S C : Type 0} where
  tick_injective : {one other : Result ℕ Refusal} → ◌≡◌ {A = Answer S C} (answer.Tick one) (answer.Tick other) → one ≡ other
  tick_injective h = cc

  turn_injective : {one other : Result (Turned S) Refusal} → ◌≡◌ {A = Answer S C} (answer.Turn one) (answer.Turn other) → one ≡ other
  turn_injective h = cc

  post_injective : {one other : Result ℕ (Refused C)} → ◌≡◌ {A = Answer S C} (answer.Post one) (answer.Post other) → one ≡ other
  post_injective h = cc

-- why something was refused; of what was not, this is never asked
abbrev why_of : {A : Type 0} → Result A Refusal → Refusal
why_of (Ok answer) = refusal.Exhausted
why_of (Err why) = why

-- why a post was refused
abbrev why_posted : {C : Type 0} → Result ℕ (Refused C) → Refusal
why_posted (Ok number) = refusal.Exhausted
why_posted (Err refused) = refused.refusal

-- ---- ticks
module _ {S D C : Type 0} (machine : MachineState S D C) (now : ℕ) where
  never_refused : (why : Refusal) → machine.ended ≡ None → now < 2 ^ 63 → Err why ≡ (tick_of machine now).0 → ⊥
  never_refused why running early same =
      let ran : (tick_of machine now).0 ≡ (tick_running machine now).0 =
      ap (λ (end : Option (ℕ × ℕ)). (unless_ended end (λ refusal. Err refusal) machine (tick_running machine now)).0) running in
      let found = rw (lt-ltb now (2 ^ 63) early) at (same ∙ ran) in
      cc

-- ---- turns
module _ {S D C : Type 0} (callbacks : Callbacks S D C) (machine : MachineState S D C) (now : ℕ) where
  after_callbacks : (at : MachineState S D C) (next : Option (Event C)) (why : Refusal) → Err why ≡ (transition_of callbacks at next).0 → why ≡ refusal.Exhausted
  after_callbacks at None why same = cc
  after_callbacks at (Some event) why same =
      let called = called_of callbacks at event in
      exhausted why (ap (λ (turned : Result (Turned S) Refusal). turn_takes_memory turned) same
      ∙ concluded_takes_memory callbacks at event.number called called.reason)

  turn_refused : (why : Refusal) → machine.ended ≡ None → now < 2 ^ 63 → Err why ≡ (turn_of callbacks machine now).0 → why ≡ refusal.Exhausted
  turn_refused why running early same =
      let ran : (turn_of callbacks machine now).0 ≡ (turn_running callbacks machine now).0 =
      ap (λ (end : Option (ℕ × ℕ)). (unless_ended end (λ refusal. Err refusal) machine (turn_running callbacks machine now)).0) running in
      let at : MachineState S D C = with_moment machine now in
      let made : (turn_running callbacks machine now).0 ≡ (transition_of callbacks at (next_event_of at)).0 = rw (lt-ltb now (2 ^ 63) early) refl in
      after_callbacks at (next_event_of at) why (same ∙ ran ∙ made)

-- ---- posts
module _ {S D C : Type 0} (machine : MachineState S D C) (entry : Entry) (content : C) where
  out_of_numbers : (free : Bool) (number : ℕ) (after : MachineState S D C) (refused : Refused C)
      → Err refused ≡ (if◌then◌else◌ {A = Result ℕ (Refused C) × MachineState S D C} free (Ok number, after) (post_refused content refusal.Exhausted, machine)).0 → refused.refusal ≡ refusal.Exhausted
  out_of_numbers true number after refused same = cc
  out_of_numbers false number after refused same = ap (λ (posted : Result ℕ (Refused C)). why_posted posted) same

  post_refused_for : (refused : Refused C) → machine.ended ≡ None → Err refused ≡ (post_of machine entry content).0 → refused.refusal ≡ refusal.Exhausted
  post_refused_for refused running same =
      let ran : (post_of machine entry content).0 ≡ (post_running machine entry content).0 =
      ap (λ (end : Option (ℕ × ℕ)). (unless_ended end (post_refused content) machine (post_running machine entry content)).0) running in
      out_of_numbers (nat_lt machine.schedule.next_number (2 ^ 63)) _ _ refused (same ∙ ran)

-- ---- a machine
module _ {M S D C : Type 0} (callbacks : M → Callbacks S D C) (old new : Machine M S D C) where
  tick_wants : (now : ℕ) (why : Refusal) → old.machine.ended ≡ None → now < 2 ^ 63
      → Does callbacks old (command.Tick now) (answer.Tick (Err why)) new → IsWant why
  tick_wants now why running early (inl (same, after)) = absurd (never_refused old.machine now why running early (tick_injective {S = S} {C = C} same))
  tick_wants now why running early (inr (takes, same, stays)) =
      inl (ap (λ (ticked : Result ℕ Refusal). why_of ticked) (tick_injective {S = S} {C = C} same))

  turn_wants : (now : ℕ) (why : Refusal) → old.machine.ended ≡ None → now < 2 ^ 63
      → Does callbacks old (command.Turn now) (answer.Turn (Err why)) new → IsWant why
  turn_wants now why running early (inl (same, after)) =
      inr (turn_refused (callbacks old.module_) old.machine now why running early (turn_injective {S = S} {C = C} same))
  turn_wants now why running early (inr (takes, same, stays)) =
      inl (ap (λ (turned : Result (Turned S) Refusal). why_of turned) (turn_injective {S = S} {C = C} same))

  post_wants : (event : Sent C) (refused : Refused C) → old.machine.ended ≡ None
      → Does callbacks old (command.Post event.entry event.content) (answer.Post (Err refused)) new → IsWant refused.refusal
  post_wants event refused running (inl (same, after)) =
      inr (post_refused_for old.machine event.entry event.content refused running (post_injective {S = S} {C = C} same))
  post_wants event refused running (inr (takes, same, stays)) =
      inl (ap (λ (posted : Result ℕ (Refused C)). why_posted posted) (post_injective {S = S} {C = C} same))

  -- a tick was next, and was refused
  pub tick_unserved : (now : ℕ) (why : Refusal) → IsNext old.machine (command.Tick now)
      → Does callbacks old (command.Tick now) (answer.Tick (Err why)) new → new ≡ old
      → IsUnserved callbacks (record { refusal = why; event = None }) new
  tick_unserved now why next does same =
      (tick_wants now why next.0.0 next.1.1 does, rw same (now, inl (next, rw same at does)))

  -- a turn was
  pub turn_unserved : (now : ℕ) (why : Refusal) → IsNext old.machine (command.Turn now)
      → Does callbacks old (command.Turn now) (answer.Turn (Err why)) new → new ≡ old
      → IsUnserved callbacks (record { refusal = why; event = None }) new
  turn_unserved now why next does same =
      (turn_wants now why next.0.0 next.1.0.1 does, rw same (now, inr (next, rw same at does)))

  -- the post of an event was, and gave its content back
  pub post_unserved : (event : Sent C) (refused : Refused C) → IsNext old.machine (command.Post event.entry event.content)
      → Does callbacks old (command.Post event.entry event.content) (answer.Post (Err refused)) new → new ≡ old → refused.value ≡ event.content
      → IsUnserved callbacks (record { refusal = refused.refusal; event = Some event }) new
  post_unserved event refused next does same returned =
      let whole : refused ≡ record { refusal = refused.refusal; value = event.content } =
      ap (λ (value : C). record { refusal = refused.refusal; value = value }) returned in
      (post_wants event refused next.0.0 does, rw same (next, rw (same, whole) at does))
