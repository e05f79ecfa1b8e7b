use Rattle.std.proofs.Common.{◌≡◌, ◌≤◌, length, take, map}
use Rattle.std.specs.Vec.{vec_len, vec_capacity}
use Rattle.st_timer_map.specs.Slots.{rows_of}
use Rattle.st_timer_map.proofs.slots.list_rows.Given as goal

-- the rows so far are listed, and there is room for all
abbrev pub invariant-loop-slot : goal.invariant-loop-slot
invariant-loop-slot g l = record {
  items : l.rows.items ≡ map (λ row. g.V.Mark.row_of row.0 row.1) (rows_of (take l.slot-index l.slots));
  listed : vec_len l.rows ≡ length (rows_of (take l.slot-index l.slots));
  room : l.live ≤ vec_capacity l.rows;
}
