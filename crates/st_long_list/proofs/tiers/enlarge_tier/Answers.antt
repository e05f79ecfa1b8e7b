use Rattle.std.proofs.Common.{length, refl, sym, ap, ◌∙◌, arith}
use Rattle.std.specs.VecDeque.{deque_capacity}
use Rattle.std.proofs.lemmas.List.{length-map}
use Rattle.st_long_list.specs.Tiers.{rooms_of}
use Rattle.st_long_list.proofs.GapLemmas.{no_less}
use Rattle.st_long_list.proofs.TierLemmas.{replaced, size_at, size_set, size_same, size_here}
use Rattle.st_long_list.proofs.tiers.enlarge_tier.Goals as goal

pub returns-clause-items : goal.returns-clause-items
returns-clause-items g c =
    let tiers = c.add_tier.new.tiers.items in
    replaced (λ t. t.items) tiers c.args.tier c.index_mut.result.now c.widen.new.tier c.add_tier.ensures.there c.index_mut.ensures.value c.widen.ensures.items
    ∙ c.add_tier.ensures.items

pub returns-clause-lengths : goal.returns-clause-lengths
returns-clause-lengths g c =
    let tiers = c.add_tier.new.tiers.items in
    let had = size_at (λ t. length t.items) tiers c.args.tier c.index_mut.result.now c.add_tier.ensures.there c.index_mut.ensures.value in
    let same = size_same (λ t. length t.items) tiers c.args.tier c.widen.new.tier (ap length c.widen.ensures.items ∙ sym had) in
    rw same c.add_tier.ensures.lengths

pub returns-clause-rooms : goal.returns-clause-rooms
returns-clause-rooms g c =
    let tiers = c.add_tier.new.tiers.items in
    let tier = c.args.tier in
    let had = size_at (λ t. deque_capacity t) tiers tier c.index_mut.result.now c.add_tier.ensures.there c.index_mut.ensures.value in
    let set_is = size_set (λ t. deque_capacity t) tiers tier (deque_capacity c.widen.new.tier) c.widen.new.tier refl in
    let there = c.add_tier.ensures.there in
    let long = length-map tiers (λ t. deque_capacity t) in
    rw set_is (λ other.
    let more = no_less (rooms_of tiers) tier (deque_capacity c.widen.new.tier) (omega arith) (omega (arith, c.widen.ensures.room)) other in
    let before = c.add_tier.ensures.rooms other in
    omega arith)

pub returns-clause-room : goal.returns-clause-room
returns-clause-room g c = rw (size_here (λ t. deque_capacity t) c.add_tier.new.tiers.items c.args.tier c.widen.new.tier c.add_tier.ensures.there) c.widen.ensures.enough
