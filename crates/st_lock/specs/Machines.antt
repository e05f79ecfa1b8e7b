-- What a contract sees of a machine that threads share: its id, and that its calls are those of a lawful cell of its own.
use Rattle.st_events.specs.declared.machine_id.MachineId.{MachineId}
use Rattle.st_events.specs.declared.message.Message.{Message}
use Rattle.st_core.specs.Callbacks.{Callbacks}
use Rattle.st_events.specs.declared.refused.Refused.{Refused}
use Rattle.st_events.specs.declared.token.Token.{Token}
use Rattle.st_answers.specs.declared.command.Command.{Command}
use Rattle.st_answers.specs.declared.entry.Entry.{Entry}
use Rattle.st_core.specs.declared.machine_state.MachineState.{MachineState}
use Rattle.st_scheduled.specs.declared.step_answer.StepAnswer.{StepAnswer}
use Rattle.st_scheduled.specs.declared.posted.Posted.{Posted}
use Rattle.st_cell.specs.Calls.{Delivers, IsJournalOf, IsTold, Posts, TakesOut, Turns, look_of}
use Rattle.st_cell.specs.Cell.{CellState, IsJournaled, IsOpen, count_for}
use Rattle.st_cell.specs.declared.journal.Journal.{Journal}
use Rattle.st_cell.specs.declared.look.Look.{Look}
use Rattle.st_scheduled.specs.declared.next.Next.{Next}
use Rattle.st_lock_inner.specs.Service.{Serves}
use Rattle.st_lock.specs.declared.machine.Machine.{Machine}
use Rattle.st_lock.specs.declared.vacant_machine.VacantMachine.{VacantMachine}
use Rattle.st_lock_inner.specs.declared.service.Service.{Service}
use Rattle.std.specs.Arc.{arc_value}
use Rattle.std.specs.Prelude.{◌≡◌, ℕ, List, Option, Result, Ok, Err}
use Rattle.st_events.specs.declared.refusal.Refusal.{Refusal}
use Rattle.st_answers.specs.declared.command.Command.TheVariants as command
use Rattle.st_core.specs.Choice.{waiting_of}
use Rattle.st_scheduled.specs.Answered.{stopped_as}

module _ {M S D C A : Type 0} where
  -- the machine's id
  abbrev pub id_of : Machine M S D C A → MachineId
  id_of machine = machine.id

  -- the id of the machine that a vacant one is filled with
  abbrev pub id_for : VacantMachine M S D C A → MachineId
  id_for vacant = id_of (arc_value vacant.machine)

module _ {M S D C : Type 0} (callbacks : M → Callbacks S D C) where
  -- a lawful cell of the machine of this id: what lies under its lock is one at every moment
  pub record IsCellOf (id : MachineId) (cell : CellState M S D C) : Type 0 where
    pub own : cell.scheduled.core.machine.id ≡ id
    pub journaled : IsJournaled callbacks cell

  -- the turn of some such cell, by this token at this moment, answers so
  abbrev pub TurnsSomewhere : MachineId → Token → ℕ → Result Next (Refused Token) → Type 0
  TurnsSomewhere id token now result =
      (old : CellState M S D C) × (new : CellState M S D C) × IsCellOf id old × Turns callbacks old token now result new

  -- the take-out from some such cell, by this token, answers so
  abbrev pub TakesOutSomewhere : MachineId → Token → Result (Option (Message C)) (Refused Token) → Type 0
  TakesOutSomewhere id token result =
      (old : CellState M S D C) × (new : CellState M S D C) × IsCellOf id old × TakesOut callbacks old token result new

  -- some such cell that is served by this token at this moment answers so
  abbrev pub ServesSomewhere : MachineId → Token → ℕ → Result (Service C) (Refused Token) → Type 0
  ServesSomewhere id token now result =
      (old : CellState M S D C) × (new : CellState M S D C) × IsCellOf id old × Serves callbacks old token now result new

  -- some such cell to which this message is delivered answers so
  abbrev pub DeliversSomewhere : MachineId → Message C → Result Posted (Refused (Message C)) → Type 0
  DeliversSomewhere id message result =
      (old : CellState M S D C) × (new : CellState M S D C) × IsCellOf id old × Delivers callbacks old message result new

  -- some such cell that is told this command answers so
  abbrev pub IsToldSomewhere : MachineId → Command C → StepAnswer S C → Type 0
  IsToldSomewhere id command answer =
      (old : CellState M S D C) × (new : CellState M S D C) × IsCellOf id old × IsTold callbacks old command answer new

  -- some such cell, by a port of it that has posted so many events, answers a post so
  abbrev pub PostsSomewhere : MachineId → ℕ → Entry → C → StepAnswer S C → Type 0
  PostsSomewhere id count entry content answer =
      (old : CellState M S D C) × (new : CellState M S D C) × (port : ℕ) × IsCellOf id old × IsOpen port old
      × (count_for port old ≡ count) × Posts callbacks old port entry content answer new

  -- this is seen of some such cell by a port of it that has posted so many events
  abbrev pub IsLookAt : MachineId → ℕ → Look S D → Type 0
  IsLookAt id count look =
      (cell : CellState M S D C) × (port : ℕ) × IsCellOf id cell × IsOpen port cell × (count_for port cell ≡ count) × (look ≡ look_of port cell)

  -- this is found at some such cell
  abbrev pub IsFoundAt : {X : Type 0} → (CellState M S D C → X) → MachineId → X → Type 0
  IsFoundAt find id value = (cell : CellState M S D C) × IsCellOf id cell × (value ≡ find cell)

  -- this is read off the machine of some such cell
  abbrev pub IsReadAt : {X : Type 0} → (MachineState S D C → X) → MachineId → X → Type 0
  IsReadAt read id value = (cell : CellState M S D C) × IsCellOf id cell × (value ≡ read cell.scheduled.core.machine)

  -- some such cell was told to stop and did, and so many events waited there before; or it refused for this reason
  abbrev pub StopsSomewhere : MachineId → ℕ → Result ℕ Refusal → Type 0
  StopsSomewhere id reason (Ok waited) =
      (old : CellState M S D C) × (new : CellState M S D C) × (word : ℕ) × IsCellOf id old
      × IsTold callbacks old (command.Stop reason) (stopped_as (Ok word)) new × (waited ≡ waiting_of old.scheduled.core.machine)
  StopsSomewhere id reason (Err refusal) = IsToldSomewhere id (command.Stop reason) (stopped_as (Err refusal))

  -- this is the journal of some such cell, with this label
  abbrev pub IsJournalAt : MachineId → List ℕ → Journal S C → Type 0
  IsJournalAt id label journal = (cell : CellState M S D C) × IsCellOf id cell × IsJournalOf cell label journal
