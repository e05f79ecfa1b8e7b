use Rattle.std.proofs.Common.{◌+◌, arith}
use Rattle.std.proofs.lemmas.Grind.{common_steps}
use Rattle.st_pool_core.proofs.HandLemmas.{hands_more}
use Rattle.st_pool_core.proofs.transit.Transit.new.Goals as goal

-- one hand more is made
pub loop-number-preserved : goal.loop-number-preserved
loop-number-preserved g c = record {
  hands = rw (c.push_reserved.ensures.items, c.loop-number.invariant.hands) (hands_more c.loop-number._number (c.loop-number._number + 1) (omega arith));
  made = grind (arith, common_steps);
  room = grind (arith, common_steps);
}
