-- Why a machine is served no more.
use Rattle.std.specs.Prelude.{◌≡◌, ℕ, ◌⊎◌, false, Option, Some, None, Err}
use Rattle.st_events.specs.declared.refusal.Refusal.{Refusal}
use Rattle.st_events.specs.declared.refusal.Refusal.TheVariants.{NoMemory, Exhausted}
use Rattle.st_answers.specs.declared.answer.Answer.TheVariants as answer
use Rattle.st_answers.specs.declared.command.Command.TheVariants as command
use Rattle.st_core.specs.declared.machine_state.MachineState.{MachineState}
use Rattle.st_core.specs.Callbacks.{Callbacks}
use Rattle.st_core.specs.Choice.{has_event_of, has_message_of}
use Rattle.st_core.specs.MachineState.{Machine}
use Rattle.st_core.specs.Run.{Does}
use Rattle.actor.specs.declared.event.Event.{Event}
use Rattle.actor.specs.declared.served.Served.{Served}
use Rattle.actor.specs.declared.served.Served.TheVariants.{Ended, Left}
use Rattle.actor.specs.declared.unserved.Unserved.{Unserved}
use Rattle.actor.specs.Serving.{IsNext, IsRunning}

-- memory is wanting, or too few numbers are left
abbrev pub IsWant : Refusal → Type 0
IsWant refusal = (refusal ≡ NoMemory) ⊎ (refusal ≡ Exhausted)

module _ {S D C : Type 0} where
  -- it has ended for this reason with this word, or it runs and has nothing to handle; no message is left in it
  abbrev pub IsEndOf : Served → MachineState S D C → Type 0
  IsEndOf (Ended reason word) machine = (machine.ended ≡ Some (reason, word)) × (has_message_of machine ≡ false)
  IsEndOf Left machine = IsRunning machine × (has_event_of machine ≡ false)

module _ {M S D C : Type 0} (callbacks : M → Callbacks S D C) where
  -- a tick or a turn was next, and refused so, or else the post of this event, which comes back; it changed nothing
  abbrev pub IsRefused : Machine M S D C → Refusal → Option (Event C) → Type 0
  IsRefused machine refusal None = (now : ℕ) × (
      (IsNext machine.machine (command.Tick now) × Does callbacks machine (command.Tick now) (answer.Tick (Err refusal)) machine)
      ⊎ (IsNext machine.machine (command.Turn now) × Does callbacks machine (command.Turn now) (answer.Turn (Err refusal)) machine))
  IsRefused machine refusal (Some event) =
      IsNext machine.machine (command.Post event.entry event.content)
      × Does callbacks machine (command.Post event.entry event.content) (answer.Post (Err (record { refusal = refusal; value = event.content }))) machine

  -- the machine could not be served on for this: something is wanting
  abbrev pub IsUnserved : Unserved C → Machine M S D C → Type 0
  IsUnserved unserved machine = IsWant unserved.refusal × IsRefused machine unserved.refusal unserved.event
