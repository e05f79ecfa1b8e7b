use Rattle.std.proofs.Common.{◌≡◌, ◌≤◌, None, replicate}
use Rattle.std.specs.Vec.{vec_len, vec_capacity}
use Rattle.st_pool_core.proofs.transit.Transit.new.Given as goal

-- so many hands are made, and there is room for all
abbrev pub invariant-loop-number : goal.invariant-loop-number
invariant-loop-number g l = record {
  hands : l.hands.items ≡ replicate l._number None;
  made : vec_len l.hands ≡ l._number;
  room : l.count ≤ vec_capacity l.hands;
}
