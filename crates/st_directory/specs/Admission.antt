-- Which values a directory takes in, and where the next one goes.
use Rattle.std.specs.Prelude.{◌≡◌, ℕ, ◌+◌, ◌<◌, ◌≤◌, ◌^◌, Bool, ◌||◌, ◌==◌, if◌then◌else◌, nat_lt, Option, Some, None, IsSome, Result, Ok, Err, List, length}
use Rattle.st_events.specs.declared.machine_id.MachineId.{MachineId}
use Rattle.st_events.specs.declared.refusal.Refusal.{Refusal}
use Rattle.st_events.specs.declared.refusal.Refusal.TheVariants.{NoMemory, Exhausted, AlreadyStarted, Full, BadName}
use Rattle.st_directory.specs.DirectoryState.{DirectoryState, DirectoryView, VacancyState, Room, id_of_name}

-- how many values a directory may have
abbrev pub values_at_most : ℕ
values_at_most = 65536

-- how many bytes a name may have
abbrev pub bytes_at_most : ℕ
bytes_at_most = 64

-- a name has 1 to 64 bytes
abbrev pub is_bad_name : List ℕ → Bool
is_bad_name name = (length name == 0) || nat_lt bytes_at_most (length name)

-- the first refusal that is due
abbrev pub first_due : Option Refusal → Option Refusal → Option Refusal
first_due (Some due) later = Some due
first_due None later = later

-- what is due where a name is taken
abbrev pub taken_by : Option MachineId → Option Refusal
taken_by (Some id) = Some (AlreadyStarted id)
taken_by None = None

module _ {T : Type 0} where
  -- what is due for a name: it is empty or too long, or it is taken
  abbrev pub name_refusal : Option (List ℕ) → DirectoryState T → Option Refusal
  name_refusal None d = None
  name_refusal (Some name) d = if is_bad_name name then Some BadName else taken_by (id_of_name name d)

  -- what is due for a value: there are as many as there may be
  abbrev pub value_refusal : DirectoryState T → Option Refusal
  value_refusal d = if nat_lt (length d.values) values_at_most then None else Some Full

  -- why a value is not admitted under a name, or under none
  abbrev pub admission_refusal : Option (List ℕ) → DirectoryState T → Option Refusal
  admission_refusal name d = first_due (name_refusal name d) (value_refusal d)

  -- a value is admitted under a name, or under none
  abbrev pub Admits : DirectoryState T → Option (List ℕ) → Type 0
  Admits d name = admission_refusal name d ≡ None

  -- why no vacancy is prepared where there is memory: 2^63 - 1 values were put in already
  abbrev pub place_refusal : DirectoryState T → Option Refusal
  place_refusal d = if nat_lt (d.begun + 1) (2 ^ 63) then None else Some Exhausted

  -- the vacancy of the next value: the next vacant slot, and a serial that no value had
  abbrev pub next_vacancy : Option (List ℕ) → DirectoryView T → VacancyState
  next_vacancy name d = record { id = record { slot = d.room.slot; serial = d.state.begun + 1 }; name = name }

  -- the vacancy is the next one, and a value fits there, with its name, and needs no memory
  pub record HasRoomFor (d : DirectoryView T) (vacancy : VacancyState) : Type 0 where
    pub next : vacancy ≡ next_vacancy vacancy.name d
    pub admits : Admits d.state vacancy.name
    pub numbers_left : d.state.begun + 1 < 2 ^ 63
    pub fits : 0 < d.room.value_places
    pub name_fits : IsSome vacancy.name → 0 < d.room.name_places

-- the next value goes to the same slot, and as many more values and names fit
pub record KeepsRoom (old new : Room) : Type 0 where
  pub slot_kept : new.slot ≡ old.slot
  pub values_fit : old.value_places ≤ new.value_places
  pub names_fit : old.name_places ≤ new.name_places

-- the refusal that is due comes; where none is due, only want of memory refuses
abbrev pub RefusesOnly : {V : Type 0} → Option Refusal → Result V Refusal → Type 0
RefusesOnly due (Ok done) = due ≡ None
RefusesOnly (Some due) (Err refusal) = refusal ≡ due
RefusesOnly None (Err refusal) = refusal ≡ NoMemory
