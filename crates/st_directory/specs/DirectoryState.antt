-- A directory as a plain value: its values by id, and its names in order of registration.
use Rattle.std.specs.Prelude.{ℕ, ◌+◌, Bool, ◌&&◌, ◌==◌, if◌then◌else◌, nat_lt, bytes_eq, Option, Some, None, List, [], ◌∷◌, ◌++◌}
use Rattle.st_events.specs.declared.machine_id.MachineId.{MachineId}

-- a name, and the id that it names
abbrev pub Named : Type 0
Named = List ℕ × MachineId

-- the names in order of registration; the values by rising slot, each under its id; and how many values were ever put in
pub record DirectoryState (T : Type 0) : Type 0 where
  pub names : List Named
  pub values : List (MachineId × T)
  pub begun : ℕ

-- the slot of the next value, and how many more values and names fit with no memory
pub record Room : Type 0 where
  pub slot : ℕ
  pub value_places : ℕ
  pub name_places : ℕ

-- a directory: what it holds, and the room that was got for more
pub record DirectoryView (T : Type 0) : Type 0 where
  pub state : DirectoryState T
  pub room : Room

-- where a value goes: its id, and the name that is registered with it, if one is
pub record VacancyState : Type 0 where
  pub id : MachineId
  pub name : Option (List ℕ)

-- whether two ids are one
abbrev pub same_id : MachineId → MachineId → Bool
same_id one other = (one.slot == other.slot) && (one.serial == other.serial)

-- the id that a name names
abbrev pub id_in : List ℕ → List Named → Option MachineId
id_in name [] = None
id_in name (first ∷ others) = if bytes_eq name first.0 then Some first.1 else id_in name others

-- the names with one more at the end, if there is one
abbrev pub with_name : Option (List ℕ) → MachineId → List Named → List Named
with_name None id names = names
with_name (Some name) id names = names ++ (name, id) ∷ []

-- the names without one of them
abbrev pub without_name : List ℕ → List Named → List Named
without_name name [] = []
without_name name (first ∷ others) = if bytes_eq name first.0 then others else first ∷ without_name name others

-- the names without those of an id
abbrev pub without_names_of : MachineId → List Named → List Named
without_names_of id [] = []
without_names_of id (first ∷ others) = if same_id id first.1 then without_names_of id others else first ∷ without_names_of id others

module _ {T : Type 0} where
  -- the value of an id
  abbrev pub value_in : MachineId → List (MachineId × T) → Option T
  value_in id [] = None
  value_in id (first ∷ others) = if same_id id first.0 then Some first.1 else value_in id others

  -- the values with one more, behind those of lower slots
  abbrev pub with_value : MachineId → T → List (MachineId × T) → List (MachineId × T)
  with_value id value [] = (id, value) ∷ []
  with_value id value (first ∷ others) = if nat_lt id.slot first.0.slot then (id, value) ∷ first ∷ others else first ∷ with_value id value others

  -- the values without that of an id
  abbrev pub without_value : MachineId → List (MachineId × T) → List (MachineId × T)
  without_value id [] = []
  without_value id (first ∷ others) = if same_id id first.0 then others else first ∷ without_value id others

  -- a directory with these names, these values and this count
  abbrev pub state_of : List Named → List (MachineId × T) → ℕ → DirectoryState T
  state_of names values begun = record { names = names; values = values; begun = begun }

  -- the value that an id names now
  abbrev pub found : MachineId → DirectoryState T → Option T
  found id d = value_in id d.values

  -- the id that a name is registered for
  abbrev pub id_of_name : List ℕ → DirectoryState T → Option MachineId
  id_of_name name d = id_in name d.names

  -- a value more, under the id of its vacancy; its name, if it has one, is registered last
  abbrev pub inserted : VacancyState → T → DirectoryState T → DirectoryState T
  inserted vacancy value d = record {
    names = with_name vacancy.name vacancy.id d.names;
    values = with_value vacancy.id value d.values;
    begun = d.begun + 1;
  }

  -- a name less; the value that it named stays
  abbrev pub unregistered : List ℕ → DirectoryState T → DirectoryState T
  unregistered name d = record d { names = without_name name d.names }

  -- the value of an id is gone, and so is its name, if it has one
  abbrev pub removed : MachineId → DirectoryState T → DirectoryState T
  removed id d = record d { names = without_names_of id d.names; values = without_value id d.values }
