use Rattle.std.proofs.Common.{◌≡◌, ◌≤◌, length, take}
use Rattle.std.specs.Vec.{vec_len, vec_capacity}
use Rattle.st_timeouts.specs.Timeouts.{all_of}
use Rattle.st_timeouts.specs.Entries.{listed_of}
use Rattle.st_timeouts.proofs.timeouts.copy_all.Given as goal

-- the time-outs so far are copied, and there is room for all
abbrev pub invariant-loop-row : goal.invariant-loop-row
invariant-loop-row g l = record {
  items : l.copies.items ≡ take l.row-index (all_of (listed_of l.entries.rows));
  listed : vec_len l.copies ≡ l.row-index;
  room : length l.rows ≤ vec_capacity l.copies;
}
