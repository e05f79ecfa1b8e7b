use Rattle.std.proofs.Common.{◌≡◌, ◌≤◌, length, take}
use Rattle.std.specs.Vec.{vec_len, vec_capacity}
use Rattle.st_cell.proofs.copying.copied_entries.Given as goal

-- the entries so far are copied, and there is room for all
abbrev pub invariant-loop-entry : goal.invariant-loop-entry
invariant-loop-entry g l = record {
  items : l.copies.items ≡ take l.entry-index l.entries;
  listed : vec_len l.copies ≡ l.entry-index;
  room : length l.entries ≤ vec_capacity l.copies;
}
