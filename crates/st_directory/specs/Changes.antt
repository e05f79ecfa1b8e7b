-- What becomes of a directory, change by change.
use Rattle.std.specs.Prelude.{◌≡◌, ℕ, ◌+◌, ◌≤◌, ◌⊎◌, None, List, [], ◌∷◌}
use Rattle.st_events.specs.declared.machine_id.MachineId.{MachineId}
use Rattle.st_directory.specs.DirectoryState.{DirectoryState, VacancyState, inserted, unregistered, removed, found}

module _ {T : Type 0} where
  -- one change: a value is put in under a new serial, a name is unregistered, or a value is removed
  abbrev pub Changes : DirectoryState T → DirectoryState T → Type 0
  Changes old new =
      ((vacancy : VacancyState) × (value : T) × (vacancy.id.serial ≡ old.begun + 1) × (new ≡ inserted vacancy value old))
      ⊎ (((name : List ℕ) × (new ≡ unregistered name old))
      ⊎ ((id : MachineId) × (new ≡ removed id old)))

  -- changes one after another lead through these states to the last
  abbrev pub LeadTo : DirectoryState T → List (DirectoryState T) → DirectoryState T → Type 0
  LeadTo old [] last = last ≡ old
  LeadTo old (next ∷ later) last = Changes old next × LeadTo next later last

  -- an id of a serial that was given names nothing
  abbrev pub IsGone : MachineId → DirectoryState T → Type 0
  IsGone id d = (id.serial ≤ d.begun) × (found id d ≡ None)
