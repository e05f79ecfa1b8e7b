-- A registry that threads share is seen by nobody but in its calls: each call's answer is that of some registry, at that moment.
use Rattle.std.specs.Prelude.{◌≡◌, ℕ, Option, Some, IsSome, List, Result, All, length}
use Rattle.st_events.specs.declared.machine_id.MachineId.{MachineId}
use Rattle.st_events.specs.declared.refused.Refused.{Refused}
use Rattle.st_core.specs.declared.start.Start.{Start}
use Rattle.st_directory.specs.DirectoryState.{Named, found, id_of_name}
use Rattle.st_directory.specs.InOrder.{IsDirectory, StandsElsewhere}
use Rattle.st_directory.specs.Slots.{ids_of}
use Rattle.st_registry.specs.declared.started.Started.{Started}
use Rattle.st_registry.specs.Registry.{RegistryState, HasIds, StartsUnder, start_due}

-- this is what a start under a name answers, at some registry that is in order, where the machine's own start is this
abbrev pub StartsSomewhere : {M S D C A : Type 0} → M → (MachineId → Result (Start M S D C A) (Refused M)) → Option (List ℕ) → ℕ → Result Started (Refused M) → Type 0
StartsSomewhere {M} {S} {D} {C} {A} module_ own name now answer =
    (old : RegistryState M S D C A) × (new : RegistryState M S D C A) × IsDirectory old × HasIds old
    × StartsUnder module_ own (start_due name now old) name old answer new

-- some registry that is in order has this name for this id
abbrev pub IsNamedSomewhere : Type 0 → Type 0 → Type 0 → Type 0 → Type 0 → List ℕ → MachineId → Type 0
IsNamedSomewhere M S D C A name id = (registry : RegistryState M S D C A) × IsDirectory registry × HasIds registry × (id_of_name name registry ≡ Some id)

-- some registry that is in order has machines of these ids, by rising slot
abbrev pub AreIdsSomewhere : Type 0 → Type 0 → Type 0 → Type 0 → Type 0 → List MachineId → Type 0
AreIdsSomewhere M S D C A ids = (registry : RegistryState M S D C A) × IsDirectory registry × HasIds registry × (ids ≡ ids_of registry.values)

-- some registry that is in order has these names, the first registered first
abbrev pub AreNamesSomewhere : Type 0 → Type 0 → Type 0 → Type 0 → Type 0 → List Named → Type 0
AreNamesSomewhere M S D C A names = (registry : RegistryState M S D C A) × IsDirectory registry × HasIds registry × (registry.names ≡ names)

-- some registry that is in order has this name
abbrev pub IsRegisteredSomewhere : Type 0 → Type 0 → Type 0 → Type 0 → Type 0 → List ℕ → Type 0
IsRegisteredSomewhere M S D C A name = (registry : RegistryState M S D C A) × IsDirectory registry × HasIds registry × IsSome (id_of_name name registry)

-- some registry that is in order has a machine of this id
abbrev pub IsThereSomewhere : Type 0 → Type 0 → Type 0 → Type 0 → Type 0 → MachineId → Type 0
IsThereSomewhere M S D C A id = (registry : RegistryState M S D C A) × IsDirectory registry × HasIds registry × IsSome (found id registry)

-- some registry that is in order has no machine at this slot
abbrev pub IsVacantSomewhere : Type 0 → Type 0 → Type 0 → Type 0 → Type 0 → ℕ → Type 0
IsVacantSomewhere M S D C A slot = (registry : RegistryState M S D C A) × IsDirectory registry × HasIds registry × All (StandsElsewhere slot) registry.values

-- some registry that is in order has so many machines
abbrev pub IsCountedSomewhere : Type 0 → Type 0 → Type 0 → Type 0 → Type 0 → ℕ → Type 0
IsCountedSomewhere M S D C A count = (registry : RegistryState M S D C A) × IsDirectory registry × HasIds registry × (count ≡ length registry.values)
