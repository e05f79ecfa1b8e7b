use Rattle.std.proofs.Common.{◌+◌, length, ◌∙◌, arith}
use Rattle.std.specs.VecDeque.{deque_capacity}
use Rattle.std.proofs.lemmas.List.{length-map}
use Rattle.st_long_list.specs.Tiers.{lengths_of}
use Rattle.st_long_list.proofs.GapLemmas.{tier_still_there, gap_up}
use Rattle.st_long_list.proofs.tiers.fill_place.Goals as goal

pub pass_down-requires-clause-next : goal.pass_down-requires-clause-next
pass_down-requires-clause-next g c =
    tier_still_there (λ t. deque_capacity t) c.args.tiers.now.items c.loop-free.tiers.items (c.args.len + 1) (c.loop-free.free + 1) c.requires.room c.loop-free.invariant.rooms (omega arith)

pub loop-free-preserved : goal.loop-free-preserved
loop-free-preserved g c =
    let tiers = c.loop-free.tiers.items in
    let free = c.loop-free.free in
    let there = tier_still_there (λ t. deque_capacity t) c.args.tiers.now.items tiers (c.args.len + 1) (free + 1) c.requires.room c.loop-free.invariant.rooms (omega arith) in
    let long = length-map tiers (λ t. length t.items) in
    record {
      within = omega arith;
      gap = rw c.pass_down.ensures.lengths (gap_up (lengths_of tiers) free (omega arith) c.args.len (omega arith) c.loop-free.invariant.gap);
      items = c.pass_down.ensures.items ∙ c.loop-free.invariant.items;
      rooms = c.pass_down.ensures.rooms ∙ c.loop-free.invariant.rooms;
    }
