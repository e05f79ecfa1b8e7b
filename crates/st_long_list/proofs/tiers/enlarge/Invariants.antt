use Rattle.std.proofs.Common.{◌≡◌, ℕ, ◌/◌, ◌≤◌, ◌<◌, ◌-◌, ◌+◌, length, get_or}
use Rattle.std.specs.Vec.{vec_capacity}
use Rattle.st_long_list.specs.Tiers.{share, items_of, lengths_of, rooms_of, AreSame, AreNoLess}
use Rattle.st_long_list.proofs.tiers.enlarge.Given as goal

-- the tiers before the one to which the loop has come have room
abbrev pub invariant-loop-tier : goal.invariant-loop-tier
invariant-loop-tier g l = record {
  there : l.tier ≤ length l.tiers.items;
  room : (tier : ℕ) → tier < l.tier → share l.wanted tier ≤ get_or (rooms_of l.tiers.items) tier 0;
  items : items_of l.tiers.items ≡ items_of l.initial.tiers.items;
  lengths : AreSame (lengths_of l.initial.tiers.items) (lengths_of l.tiers.items);
  row : (l.wanted - 1) / 512 + 1 ≤ vec_capacity l.tiers;
  rooms : AreNoLess (rooms_of l.initial.tiers.items) (rooms_of l.tiers.items);
}

abbrev pub decreases-loop-tier : goal.decreases-loop-tier
decreases-loop-tier g l = (l.wanted - 1) / 512 + 1 - l.tier
