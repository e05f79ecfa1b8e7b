use Rattle.std.proofs.Common.{refl, arith}
use Rattle.std.specs.VecDeque.{deque_capacity}
use Rattle.std.proofs.lemmas.List.{length-map}
use Rattle.st_long_list.specs.Tiers.{rooms_of}
use Rattle.st_long_list.proofs.GapLemmas.{tiers_reached}
use Rattle.st_long_list.proofs.tiers.enlarge.Goals as goal

pub loop-tier-init : goal.loop-tier-init
loop-tier-init g c =
    let tiers = c.args.tiers.now.items in
    let reached = tiers_reached c.args.had (rooms_of tiers) c.requires.room in
    rw c.reserve.ensures.items record {
      there = omega (arith, length-map tiers (λ t. deque_capacity t));
      room = λ tier below. (let full = c.requires.room tier in omega arith);
      items = refl;
      lengths = λ tier. refl;
      row = omega (arith, c.in_ok-reserve.ensures.ok, c.in_ok-reserve.ensures.len, c.args.tiers.now.ok.0);
      rooms = λ tier. omega arith;
    }
