-- What is known of a tick: that the machine was due, and what it answered.
use Rattle.std.specs.Prelude.{◌≡◌, ℕ, ◌<◌, ◌≤◌, Option, Some, None, Ok, IfSome}
use Rattle.st_events.specs.declared.machine_id.MachineId.{MachineId}
use Rattle.st_events.specs.declared.token.Token.{Token}
use Rattle.st_core.specs.Callbacks.{Callbacks}
use Rattle.st_core.specs.Choice.{next_due_of}
use Rattle.st_answers.specs.declared.command.Command.TheVariants as command
use Rattle.st_core.specs.declared.machine_state.MachineState.{MachineState}
use Rattle.st_scheduled.specs.Answered.{ticked_as}
use Rattle.st_lock.specs.Machines.{IsReadAt, IsToldSomewhere}
use Rattle.st_ticker.specs.declared.visit.Visit.{Visit}

-- no token was issued, and the machine is visited after this moment, if it is
abbrev pub IsLater : ℕ → Visit → Type 0
IsLater now visit = (visit.wake ≡ None) × IfSome visit.next (λ next. now < next)

module _ {M S D C : Type 0} (callbacks : M → Callbacks S D C) where
  -- the machine of this id had a time-out that was due by a moment
  abbrev pub WasDueBy : MachineId → ℕ → Type 0
  WasDueBy id now =
      (due : ℕ) × (due ≤ now) × IsReadAt callbacks (λ (machine : MachineState S D C). next_due_of machine) id (Some due)

  -- the machine of this id was told a moment, and was issued this token by that, if it was
  abbrev pub IsTicked : MachineId → ℕ → Option Token → Type 0
  IsTicked id now wake =
      (expired : ℕ) × IsToldSomewhere callbacks id (command.Tick now) (ticked_as (Ok (record { expired = expired; wake = wake })))
