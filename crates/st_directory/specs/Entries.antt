-- The entries of a map from names to ids, as names with the ids that they name.
use Rattle.std.specs.Prelude.{ℕ, List, map, string_bytes, String}
use Rattle.st_events.specs.declared.machine_id.MachineId.{MachineId}
use Rattle.st_directory.specs.DirectoryState.{Named}

-- the names in order of registration, and how many more fit with no memory
pub record NamesState : Type 0 where
  pub names : List Named
  pub places : ℕ

-- the name of an entry, and the id that it names
abbrev pub named_of_entry : {A : Type 0} → String A × MachineId → Named
named_of_entry entry = (string_bytes entry.0, entry.1)

-- those of entries, in order
abbrev pub names_of_entries : {A : Type 0} → List (String A × MachineId) → List Named
names_of_entries entries = map named_of_entry entries
