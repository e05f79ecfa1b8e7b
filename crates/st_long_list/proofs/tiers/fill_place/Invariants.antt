use Rattle.std.proofs.Common.{◌≡◌, ◌/◌, ◌≤◌, ◌-◌}
use Rattle.st_long_list.specs.Tiers.{items_of, lengths_of, rooms_of, HaveGap}
use Rattle.st_long_list.proofs.tiers.fill_place.Given as goal

-- the place is free in the tier to which the loop has come
abbrev pub invariant-loop-free : goal.invariant-loop-free
invariant-loop-free g l = record {
  within : l.free ≤ l.len / 512;
  gap : HaveGap l.len l.free (lengths_of l.tiers.items);
  items : items_of l.tiers.items ≡ items_of l.initial.tiers.items;
  rooms : rooms_of l.tiers.items ≡ rooms_of l.initial.tiers.items;
}

abbrev pub decreases-loop-free : goal.decreases-loop-free
decreases-loop-free g l = l.len / 512 - l.free
