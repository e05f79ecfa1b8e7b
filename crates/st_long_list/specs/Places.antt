-- A long list as its callers see it, and what each call makes of it.
use Rattle.std.specs.Prelude.{ℕ, ◌+◌, ◌-◌, List, insert, remove}

-- the elements in order, and how many more can come in without memory
pub record Places (V : Type 0) : Type 0 where
  pub items : List V
  pub reserved : ℕ

-- the list with a value at a place, on a place that was reserved; what stood there comes after it
abbrev pub with_inserted : {V : Type 0} → Places V → ℕ → V → Places V
with_inserted old place value = record { items = insert old.items place value; reserved = old.reserved - 1 }

-- the list without what stands at a place; its own place is reserved
abbrev pub with_removed : {V : Type 0} → Places V → ℕ → Places V
with_removed old place = record { items = remove old.items place; reserved = old.reserved + 1 }
