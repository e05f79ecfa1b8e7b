-- A turn with the answers of a host.
use Rattle.std.specs.Prelude.{◌≡◌, ℕ, Some, None, Err}
use Rattle.std.specs.Option.{option_map}
use Rattle.st_events.specs.declared.event.Event.{Event}
use Rattle.st_answers.specs.declared.answer.Answer.TheVariants as answer
use Rattle.st_answers.specs.declared.command.Command.TheVariants as command
use Rattle.st_core.specs.declared.machine_state.MachineState.{MachineState}
use Rattle.st_core.specs.MachineState.{Machine}
use Rattle.st_core.specs.Callbacks.{Callbacks}
use Rattle.st_core.specs.Choice.{next_event_of}
use Rattle.st_core.specs.Run.{Does}
use Rattle.st_hosted.specs.declared.why_not.WhyNot.{WhyNot}
use Rattle.st_hosted.specs.declared.why_not.WhyNot.TheVariants.{NotNext, Refused}

-- the event that a turn would handle next has this number
abbrev pub IsNext : {S D C : Type 0} → MachineState S D C → ℕ → Type 0
IsNext {S} {D} {C} machine number = option_map (λ (event : Event C). event.number) (next_event_of machine) ≡ Some number

-- why a turn at a moment, for the event of a number, is not made by a machine whose module has the answers: it runs,
-- and its next event is another, or there is none; or the turn itself is refused, and then it has ended, or the event
-- is the next one
abbrev pub IsWhyNot : {M S D C : Type 0} → (M → Callbacks S D C) → Machine M S D C → ℕ → ℕ → WhyNot → Type 0
IsWhyNot callbacks told number now NotNext = (told.machine.ended ≡ None) × (IsNext told.machine number → ⊥)
IsWhyNot callbacks told number now (Refused refusal) =
    (told.machine.ended ≡ None → IsNext told.machine number) × Does callbacks told (command.Turn now) (answer.Turn (Err refusal)) told
