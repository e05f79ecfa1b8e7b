-- A registry as a plain value, a directory of machines; and what a start comes to.
use Rattle.std.specs.Prelude.{◌≡◌, ℕ, ◌+◌, ◌⊎◌, ◌^◌, if◌then◌else◌, nat_lt, Option, Some, None, IsSome, List, Result, Ok, Err, All}
use Rattle.std.specs.Option.{option_map}
use Rattle.std.specs.Arc.{arc_value}
use Rattle.std.specs.Global.{Global}
use Rattle.std_alloc.specs.declared.arc.Arc.{Arc}
use Rattle.st_events.specs.declared.machine_id.MachineId.{MachineId}
use Rattle.st_events.specs.declared.refusal.Refusal.{Refusal}
use Rattle.st_events.specs.declared.refusal.Refusal.TheVariants.{NoMemory, Moment, NoSuchMachine, NotStopped}
use Rattle.st_events.specs.declared.refused.Refused.{Refused}
use Rattle.st_events.specs.declared.token.Token.{Token}
use Rattle.st_answers.specs.declared.report.Report.{Report}
use Rattle.st_core.specs.declared.start.Start.{Start}
use Rattle.st_core.specs.declared.start.Start.TheVariants as start
use Rattle.st_core.specs.MachineState as machine_state
use Rattle.st_scheduled.specs.ScheduledMachine.{token_of}
use Rattle.st_cell.specs.Cell.{cell_at_first}
use Rattle.st_directory.specs.Admission.{admission_refusal, first_due, place_refusal}
use Rattle.st_directory.specs.DirectoryState.{DirectoryState, VacancyState, inserted, found}
use Rattle.st_lock.specs.declared.machine.Machine.{Machine}
use Rattle.st_lock.specs.Machines.{id_of}
use Rattle.st_registry.specs.declared.started.Started.{Started}
use Rattle.st_registry.specs.declared.started.Started.TheVariants.{Running, Ignored, Stopped}

-- what is due at a moment: from 2^63 on there is none
abbrev pub moment_refusal : ℕ → Option Refusal
moment_refusal now = if nat_lt now (2 ^ 63) then None else Some Moment

-- a machine that threads share, as a registry has it
abbrev pub Shared : Type 0 → Type 0 → Type 0 → Type 0 → Type 0 → Type 0
Shared M S D C A = Arc (Machine M S D C A) Global

-- the names in order of registration, the machines by id, and how many were started
abbrev pub RegistryState : Type 0 → Type 0 → Type 0 → Type 0 → Type 0 → Type 0
RegistryState M S D C A = DirectoryState (Shared M S D C A)

module _ {M S D C A : Type 0} where
  -- each machine is there under its own id
  abbrev pub HasIds : RegistryState M S D C A → Type 0
  HasIds registry = All (λ (entry : MachineId × Shared M S D C A). id_of (arc_value entry.1) ≡ entry.0) registry.values

  -- what refuses a start under a name, or under none, before anything of the machine is called
  abbrev pub start_due : Option (List ℕ) → ℕ → RegistryState M S D C A → Option Refusal
  start_due name now registry = first_due (admission_refusal name registry) (first_due (moment_refusal now) (place_refusal registry))

  -- the machine that a start made is kept at its vacancy, and its token is handed out, if it has one
  pub record Keeps (core : machine_state.Machine M S D C) (vacancy : VacancyState) (old : RegistryState M S D C A) (id : MachineId) (wake : Option Token) (new : RegistryState M S D C A) : Type 0 where
    pub machine : Shared M S D C A
    pub under : id ≡ vacancy.id
    pub issued : wake ≡ token_of (cell_at_first core).scheduled
    pub identified : id_of (arc_value machine) ≡ id
    pub kept : new ≡ inserted vacancy machine old

  -- and so it is answered
  abbrev pub KeepsAs : machine_state.Machine M S D C → VacancyState → RegistryState M S D C A → Started → RegistryState M S D C A → Type 0
  KeepsAs core vacancy old (Running id wake) new = Keeps core vacancy old id wake new
  KeepsAs core vacancy old Ignored new = ⊥
  KeepsAs core vacancy old (Stopped reason) new = ⊥

  -- what a start at a vacancy answers and leaves, whose machine's own start is this: its machine is kept; or there is none; or it is
  -- refused as its own start is, or for want of memory, and the module comes back
  abbrev pub StartsAs : M → Result (Start M S D C A) (Refused M) → VacancyState → RegistryState M S D C A → Result Started (Refused M) → RegistryState M S D C A → Type 0
  StartsAs module_ own vacancy old (Ok (Running id wake)) new =
      (core : machine_state.Machine M S D C) × (report : Report S) × (own ≡ Ok (start.Running core report)) × Keeps core vacancy old id wake new
  StartsAs module_ own vacancy old (Ok Ignored) new = (own ≡ Ok start.Ignored) × (new ≡ old)
  StartsAs module_ own vacancy old (Ok (Stopped reason)) new = (own ≡ Ok (start.Stopped reason)) × (new ≡ old)
  StartsAs module_ own vacancy old (Err refused) new =
      ((own ≡ Err refused) ⊎ (refused.refusal ≡ NoMemory)) × (refused.value ≡ module_) × (new ≡ old)

  -- the vacancy of a machine that starts: its serial is that of no machine before
  abbrev pub start_vacancy : ℕ → Option (List ℕ) → RegistryState M S D C A → VacancyState
  start_vacancy slot name old = record { id = record { slot = slot; serial = old.begun + 1 }; name = name }

  -- what a start under a name answers and leaves: what is due refuses it; else it is the machine's own start, at a new vacancy
  abbrev pub StartsUnder : M → (MachineId → Result (Start M S D C A) (Refused M)) → Option Refusal → Option (List ℕ) → RegistryState M S D C A → Result Started (Refused M) → RegistryState M S D C A → Type 0
  StartsUnder module_ own (Some refusal) name old answer new = (answer ≡ Err (record { refusal = refusal; value = module_ })) × (new ≡ old)
  StartsUnder module_ own None name old answer new =
      (slot : ℕ) × StartsAs module_ (own (start_vacancy slot name old).id) (start_vacancy slot name old) old answer new

  -- this is the machine of an id, and that is its own
  abbrev pub IsMachineAt : MachineId → RegistryState M S D C A → Machine M S D C A → Type 0
  IsMachineAt id registry machine = (option_map arc_value (found id registry) ≡ Some machine) × (id_of machine ≡ id)

  -- why the machine of an id is not answered: the id names none, or it has too many owners
  abbrev pub RefusesMachine : MachineId → RegistryState M S D C A → Refusal → Type 0
  RefusesMachine id registry refusal = ((refusal ≡ NoSuchMachine) × (found id registry ≡ None)) ⊎ ((refusal ≡ NoMemory) × IsSome (found id registry))

  -- why the machine of an id is not removed: the id names none, or it has not ended
  abbrev pub RefusesRemoval : MachineId → RegistryState M S D C A → Refusal → Type 0
  RefusesRemoval id registry refusal = ((refusal ≡ NoSuchMachine) × (found id registry ≡ None)) ⊎ ((refusal ≡ NotStopped) × IsSome (found id registry))
