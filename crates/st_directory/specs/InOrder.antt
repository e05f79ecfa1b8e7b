-- What holds of each directory.
use Rattle.std.specs.Prelude.{◌≡◌, ◌≢◌, ℕ, ◌<◌, ◌≤◌, ◌^◌, None, IsSome, List, [], ◌∷◌, length, All}
use Rattle.st_events.specs.declared.machine_id.MachineId.{MachineId}
use Rattle.st_directory.specs.DirectoryState.{DirectoryState, Named, id_in, value_in}
use Rattle.st_directory.specs.Admission.{values_at_most, bytes_at_most}

-- no name stands twice
abbrev pub NamesStandOnce : List Named → Type 0
NamesStandOnce [] = Unit {0}
NamesStandOnce (first ∷ others) = (id_in first.0 others ≡ None) × NamesStandOnce others

-- it names another id
abbrev pub NamesAnother : MachineId → Named → Type 0
NamesAnother id named = named.1 ≢ id

-- no id is named twice
abbrev pub IdsNamedOnce : List Named → Type 0
IdsNamedOnce [] = Unit {0}
IdsNamedOnce (first ∷ others) = All (NamesAnother first.1) others × IdsNamedOnce others

-- a name has as many bytes as it may
abbrev pub HasFairLength : Named → Type 0
HasFairLength named = (0 < length named.0) × (length named.0 ≤ bytes_at_most)

module _ {T : Type 0} where
  -- a name names a value that is there
  abbrev pub NamesOneOf : List (MachineId × T) → Named → Type 0
  NamesOneOf values named = IsSome (value_in named.1 values)

  -- a serial is one of so many that were given
  abbrev pub WasGiven : ℕ → MachineId × T → Type 0
  WasGiven begun value = (1 ≤ value.0.serial) × (value.0.serial ≤ begun)

  -- it stands at a later slot
  abbrev pub StandsBehind : ℕ → MachineId × T → Type 0
  StandsBehind slot value = slot < value.0.slot

  -- it stands at another slot
  abbrev pub StandsElsewhere : ℕ → MachineId × T → Type 0
  StandsElsewhere slot value = value.0.slot ≢ slot

  -- each slot is behind those before it
  abbrev pub SlotsRise : List (MachineId × T) → Type 0
  SlotsRise [] = Unit {0}
  SlotsRise (first ∷ others) = All (StandsBehind first.0.slot) others × SlotsRise others

  -- it has another serial
  abbrev pub HasAnotherSerial : ℕ → MachineId × T → Type 0
  HasAnotherSerial serial value = value.0.serial ≢ serial

  -- no serial stands twice
  abbrev pub SerialsStandOnce : List (MachineId × T) → Type 0
  SerialsStandOnce [] = Unit {0}
  SerialsStandOnce (first ∷ others) = All (HasAnotherSerial first.0.serial) others × SerialsStandOnce others

  -- each name stands once and names a value that is there, and no two names name one value; names are of fair length;
  -- values stand by rising slot, and each has a serial of its own, one of those that were given; and there are no more
  -- values than there may be
  pub record IsDirectory (d : DirectoryState T) : Type 0 where
    pub names_once : NamesStandOnce d.names
    pub ids_once : IdsNamedOnce d.names
    pub names_fair : All HasFairLength d.names
    pub names_there : All (NamesOneOf d.values) d.names
    pub slots_rise : SlotsRise d.values
    pub serials_once : SerialsStandOnce d.values
    pub serials_given : All (WasGiven d.begun) d.values
    pub begun_fits : d.begun < 2 ^ 63
    pub values_fit : length d.values ≤ values_at_most
