-- A state change is a change of value.
use Rattle.std.proofs.Common.{◌≡◌, Bool, true, false, not, Option, Some, None, refl, ap, sym, ◌∙◌, if◌then◌else◌}
use Rattle.st_events.specs.declared.event.Event.{Event}
use Rattle.st_core.specs.declared.machine_state.MachineState.{MachineState}
use Rattle.st_core.specs.Callbacks.{Callbacks, Called, or_old, differs, asked_by, outcome_of, is_entered, handled_with, entered_by, called_of}

not_both : (same : Bool) → same ≡ true → not same ≡ true → ⊥
not_both true h k = cc
not_both false h k = cc

must_be : (same : Bool) → not same ≡ false → same ≡ true
must_be true h = refl
must_be false h = cc

module _ {S : Type 0} (same_state : S → S → Bool) where
  -- a state that differs is another
  another : ((one : S) → same_state one one ≡ true) → (old : S) (given : Option S) → differs same_state old given ≡ true → or_old old given ≡ old → ⊥
  another reflexive old None changed same = cc
  another reflexive old (Some state) changed same =
      not_both (same_state old state) (ap (λ (s : S). same_state old s) same ∙ reflexive old) changed

  -- one that does not is the same
  the_same : ((one other : S) → same_state one other ≡ true → one ≡ other) → (old : S) (given : Option S) → differs same_state old given ≡ false
      → or_old old given ≡ old
  the_same exact old None unchanged = refl
  the_same exact old (Some state) unchanged = sym (exact old state (must_be (same_state old state) unchanged))

module _ {S D C : Type 0} (callbacks : Callbacks S D C) (machine : MachineState S D C) (event : Event C) where
  abbrev handled : Called S D C
  handled = handled_with callbacks.same_state event.number event.kind machine.state machine.data (outcome_of callbacks machine event)

  -- an enter call changes neither the state nor whether it changed
  either : (enters : Bool) → ((if enters then entered_by callbacks machine.state handled else handled).state ≡ handled.state)
      × ((if enters then entered_by callbacks machine.state handled else handled).changed ≡ handled.changed)
  either true = (refl, refl)
  either false = (refl, refl)

  abbrev as_handled : ((called_of callbacks machine event).state ≡ handled.state) × ((called_of callbacks machine event).changed ≡ handled.changed)
  as_handled = either (is_entered callbacks machine.state (outcome_of callbacks machine event))

  pub changed_is_another : ((one : S) → callbacks.same_state one one ≡ true) → (called_of callbacks machine event).changed ≡ true
      → (called_of callbacks machine event).state ≡ machine.state → ⊥
  changed_is_another reflexive changed same =
      another callbacks.same_state reflexive machine.state (asked_by (outcome_of callbacks machine event)).state
      (sym as_handled.1 ∙ changed) (sym as_handled.0 ∙ same)

  pub unchanged_is_the_same : ((one other : S) → callbacks.same_state one other ≡ true → one ≡ other) → (called_of callbacks machine event).changed ≡ false
      → (called_of callbacks machine event).state ≡ machine.state
  unchanged_is_the_same exact unchanged =
      as_handled.0 ∙ the_same callbacks.same_state exact machine.state (asked_by (outcome_of callbacks machine event)).state (sym as_handled.1 ∙ unchanged)
