-- The slots of a slab, as values under their ids.
use Rattle.std.specs.Prelude.{ℕ, ◌+◌, Option, Some, None, List, [], ◌∷◌, map}
use Rattle.st_events.specs.declared.machine_id.MachineId.{MachineId}
use Rattle.st_directory.specs.declared.values.Stored.{Stored}

-- the values by rising slot, the slot of the next one, and how many more fit with no memory
pub record ValuesState (T : Type 0) : Type 0 where
  pub values : List (MachineId × T)
  pub slot : ℕ
  pub places : ℕ

-- an id
abbrev pub id_at : ℕ → ℕ → MachineId
id_at slot serial = record { slot = slot; serial = serial }

-- the ids of values
abbrev pub ids_of : {T : Type 0} → List (MachineId × T) → List MachineId
ids_of values = map (λ value. value.0) values

-- the values of slots, of which the first has this number
abbrev pub values_from : {T : Type 0} → ℕ → List (Option (Stored T)) → List (MachineId × T)
values_from slot [] = []
values_from slot (None ∷ later) = values_from (slot + 1) later
values_from slot (Some stored ∷ later) = (id_at slot stored.serial, stored.value) ∷ values_from (slot + 1) later
