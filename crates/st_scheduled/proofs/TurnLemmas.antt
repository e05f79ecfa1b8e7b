-- A turn of a machine that has an event takes a number of the count where its moment is in range, or is refused for want of one.
use Rattle.std.proofs.Common.{◌≡◌, ℕ, Bool, true, false, if◌then◌else◌, Option, Some, None, refl, sym, ◌&&◌}
use Rattle.std.specs.Prelude.{Result, Ok, Err, is_some, is_none, nat_lt, ◌^◌}
use Rattle.st_events.specs.declared.event.Event.{Event}
use Rattle.st_events.specs.declared.refusal.Refusal.{Refusal}
use Rattle.st_events.specs.declared.refusal.Refusal.TheVariants.{Exhausted, Moment}
use Rattle.st_answers.specs.declared.answer.Answer.TheVariants as answer
use Rattle.st_core.specs.declared.machine_state.MachineState.{MachineState}
use Rattle.st_answers.specs.declared.report.Report.{Report}
use Rattle.st_answers.specs.declared.turned.Turned.{Turned}
use Rattle.st_answers.specs.declared.turned.Turned.TheVariants.{Reported}
use Rattle.st_core.specs.Callbacks.{Callbacks, Called, called_of}
use Rattle.st_core.specs.Choice.{has_event_of, next_event_of}
use Rattle.st_core.specs.Stop.{unless_ended}
use Rattle.st_core.specs.Transition.{has_numbers, report_of, with_called, with_settled, concluded, transition_of, unless_refused, turn_running, turn_of, with_moment}
use Rattle.st_scheduled.specs.Serving.{needs_count}

module _ {S D C : Type 0} where
  -- what a turn answers takes a number of the count, or wants one
  abbrev Needs : Result (Turned S) Refusal × MachineState S D C → Type 0
  Needs turned = needs_count {S = S} {C = C} (answer.Turn turned.0) ≡ true

  -- where a turn goes on, or has too few numbers
  went_needs : (enough : Bool) (report : Report S) (new old : MachineState S D C) → Needs (if enough then (Ok (Reported report), new) else (Err Exhausted, old))
  went_needs true report new old = refl
  went_needs false report new old = refl

  -- where it has been told what the callbacks came to
  concluded_needs : (callbacks : Callbacks S D C) (machine : MachineState S D C) (number : ℕ) (called : Called S D C) (reason : Option ℕ)
      → Needs (concluded callbacks machine number called reason)
  concluded_needs callbacks machine number called None =
      went_needs (has_numbers machine called) (report_of machine number called) (with_settled (with_called machine called) number called) machine
  concluded_needs callbacks machine number called (Some reason) = refl

  -- where there is an event
  transition_needs : (callbacks : Callbacks S D C) (machine : MachineState S D C) (next : Option (Event C)) → is_some next ≡ true
      → Needs (transition_of callbacks machine next)
  transition_needs callbacks machine None there = let same : false ≡ true = there in cc
  transition_needs callbacks machine (Some event) there =
      let called = called_of callbacks machine event in concluded_needs callbacks machine event.number called called.reason

  -- by whether the moment is in range
  running_needs : (in_range : Bool) (machine : MachineState S D C) (done : Result (Turned S) Refusal × MachineState S D C) → Needs done
      → in_range ≡ needs_count {S = S} {C = C} (answer.Turn (if in_range then unless_refused machine done else (Err Moment, machine)).0)
  running_needs true machine done needs = sym needs
  running_needs false machine done needs = refl

  ready_by : (ended : Option (ℕ × ℕ)) (callbacks : Callbacks S D C) (machine : MachineState S D C) (now : ℕ) → is_none ended && is_some (next_event_of machine) ≡ true
      → nat_lt now (2 ^ 63) ≡ needs_count {S = S} {C = C} (answer.Turn (unless_ended ended (λ refusal. Err refusal) machine (turn_running callbacks machine now)).0)
  ready_by (Some end) callbacks machine now ready = let same : false ≡ true = ready in cc
  ready_by None callbacks machine now ready =
      let at = with_moment machine now in
      running_needs (nat_lt now (2 ^ 63)) machine (transition_of callbacks at (next_event_of at)) (transition_needs callbacks at (next_event_of at) ready)

  -- a machine that has an event
  pub ready_needs : (callbacks : Callbacks S D C) (machine : MachineState S D C) (now : ℕ) → has_event_of machine ≡ true
      → nat_lt now (2 ^ 63) ≡ needs_count {S = S} {C = C} (answer.Turn (turn_of callbacks machine now).0)
  ready_needs callbacks machine now ready = ready_by machine.ended callbacks machine now ready
