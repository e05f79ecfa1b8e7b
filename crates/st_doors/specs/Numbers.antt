-- The numbers that doors have in their table, by their names.
use Rattle.std.specs.Prelude.{◌≡◌, ⊤, ℕ, zero, suc, ◌≤◌, Bool, List, [], ◌∷◌, Option, Some, None, map, nat_eq, string_bytes, String, bytes_eq, if◌then◌else◌}
use Rattle.std.specs.BTreeMap.{BTreeMap, get_by_text}
use Rattle.std.specs.Global.{Global}
use Rattle.st_doors.specs.Doors.{NamedDoor, KeptDoor}
use Rattle.st_doors.specs.Entries.{door_of_entry}

-- an entry of the table of doors: a number, a name and a door
abbrev pub Numbered : Type 0 → Type 0
Numbered A = ℕ × (String A × KeptDoor)

-- the entries of the table
abbrev pub NumberedDoors : Type 0
NumberedDoors = List (Numbered Global)

-- whether the entry has this number
abbrev pub has_number : {A : Type 0} → ℕ → Numbered A → Bool
has_number number entry = nat_eq number entry.0

-- the entries without the first that has this number
abbrev pub without_number : {A : Type 0} → ℕ → List (Numbered A) → List (Numbered A)
without_number number [] = []
without_number number (entry ∷ entries) = if has_number number entry then entries else entry ∷ without_number number entries

-- the names and the doors of entries, and the doors alone
abbrev pub unnumbered : {A : Type 0} → List (Numbered A) → List (String A × KeptDoor)
unnumbered entries = map (λ entry. entry.1) entries

abbrev pub kept_doors : {A : Type 0} → List (Numbered A) → List KeptDoor
kept_doors entries = map (λ entry. entry.1.1) entries

-- the entries with this door at this place
abbrev pub with_door : {A : Type 0} → List (Numbered A) → ℕ → KeptDoor → List (Numbered A)
with_door [] place door = []
with_door (entry ∷ entries) zero door = (entry.0, (entry.1.0, door)) ∷ entries
with_door (entry ∷ entries) (suc place) door = entry ∷ with_door entries place door

-- the numbers rise, from this one on
abbrev pub DoRise : {A : Type 0} → ℕ → List (Numbered A) → Type 0
DoRise from [] = ⊤
DoRise from (entry ∷ entries) = (from ≤ entry.0) × DoRise (suc entry.0) entries

-- the doors of numbered entries, in order
abbrev pub doors_of_numbered : {A : Type 0} → List (Numbered A) → List NamedDoor
doors_of_numbered entries = map (λ entry. door_of_entry entry.1) entries

-- the number of a name: that of the first entry with it
abbrev pub number_of : {A : Type 0} → List ℕ → List (Numbered A) → Option ℕ
number_of name [] = None
number_of name (entry ∷ entries) = if bytes_eq name (string_bytes entry.1.0) then Some entry.0 else number_of name entries

-- the numbers rise, from this one on and up to the next one, and no name stands twice
abbrev pub AreNumbered : {A : Type 0} → ℕ → List (Numbered A) → ℕ → Type 0
AreNumbered from [] next = from ≤ next
AreNumbered from (entry ∷ entries) next =
    (from ≤ entry.0) × (number_of (string_bytes entry.1.0) entries ≡ None) × AreNumbered (suc entry.0) entries next

-- each door's number is the serial of its id
abbrev pub AreSerials : {A : Type 0} → List (Numbered A) → Type 0
AreSerials [] = ⊤
AreSerials (entry ∷ entries) = (entry.0 ≡ entry.1.1.machine.id.serial) × AreSerials entries

-- the serials of doors rise, from this one on
abbrev pub DoSerialsRise : ℕ → List NamedDoor → Type 0
DoSerialsRise from [] = ⊤
DoSerialsRise from (door ∷ doors) = (from ≤ door.machine.id.serial) × DoSerialsRise (suc door.machine.id.serial) doors

-- the table has the number of each name
abbrev pub HasNumbers : {A : Type 0} → BTreeMap (String A) ℕ → List (Numbered A) → Type 0
HasNumbers numbers entries = (name : List ℕ) → get_by_text numbers name ≡ number_of name entries
