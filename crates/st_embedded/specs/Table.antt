-- Machines in a map, by their numbers, as their callers see them.
use Rattle.std.specs.Prelude.{◌≡◌, ◌==◌, ℕ, cond, [], Option, Some, None}
use Rattle.std.specs.HashMap.{HashMap}
use Rattle.indexmap.specs.IndexMap.{get_by}
use Rattle.st_answers.specs.declared.report.Report.{Report}
use Rattle.st_embedded.specs.declared.lists.Lists.{Lists}
use Rattle.st_embedded.specs.declared.machines.Machines.{Machines}

module _ {K S : Type 0} where
  -- the machine of a number, if there is one
  abbrev pub machine_at : HashMap ℕ K S → ℕ → Option K
  machine_at machines number = get_by (λ key. number == key) machines

  -- the machine of a number is this now, and each other number names what it named
  abbrev pub Puts : HashMap ℕ K S → HashMap ℕ K S → ℕ → K → Type 0
  Puts old new number machine = (other : ℕ) → machine_at new other ≡ cond (number == other) (Some machine) (machine_at old other)

  -- each number names what it named
  abbrev pub Same : HashMap ℕ K S → HashMap ℕ K S → Type 0
  Same old new = (other : ℕ) → machine_at new other ≡ machine_at old other

  -- the machine of a number is there before and after, this is how it changed, and each other number names what it named
  abbrev pub Changes : (K → K → Type 0) → HashMap ℕ K S → HashMap ℕ K S → ℕ → Type 0
  Changes How old new number = (before : K) × (after : K) × (machine_at old number ≡ Some before) × How before after × Puts old new number after

  -- a number names no machine now, and each other names what it named
  abbrev pub Loses : HashMap ℕ K S → HashMap ℕ K S → ℕ → Type 0
  Loses old new number = (other : ℕ) → machine_at new other ≡ cond (number == other) None (machine_at old other)

-- the lists of a report
abbrev pub lists_of : {S : Type 0} → Report S → Lists
lists_of report = record { replied = report.replied; inserted = report.inserted; set = report.set; sent = report.sent }

-- a table without machines and descriptions, whose first machine gets the number 1
abbrev pub IsEmptyTable : Machines → Type 0
IsEmptyTable all = (all.hosted.entries ≡ []) × (all.described.entries ≡ []) × (all.charts.items ≡ []) × (all.next_id ≡ 1)
    × (all.lists ≡ record { replied = []; inserted = []; set = []; sent = [] })

-- there is a table, of which this is so
abbrev pub IfOpen : Option Machines → (Machines → Type 0) → Type 0
IfOpen None So = ⊥
IfOpen (Some all) So = So all
