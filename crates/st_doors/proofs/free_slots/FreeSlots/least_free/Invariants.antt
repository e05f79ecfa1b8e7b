use Rattle.std.proofs.Common.{◌≡◌, ℕ, ◌-◌, ◌<◌, ◌≤◌, true, length}
use Rattle.st_doors.specs.Slots.{is_marked}
use Rattle.st_doors.proofs.free_slots.FreeSlots.least_free.Given as goal

abbrev pub invariant-loop-self : goal.invariant-loop-self
invariant-loop-self l = record {
  marks : l.self-inside.marks ≡ l.initial.self-inside.marks;
  within : l.self-inside.least ≤ length l.self-inside.marks.items;
  lower : (slot : ℕ) → slot < l.self-inside.least → is_marked l.self-inside.marks.items slot ≡ true;
}

abbrev pub decreases-loop-self : goal.decreases-loop-self
decreases-loop-self l = length l.self-inside.marks.items - l.self-inside.least
