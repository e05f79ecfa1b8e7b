use Rattle.std.proofs.Common.{◌≡◌, ◌+◌, ◌-◌, length, get_or, [], ◌∷◌, ap, sym, refl, ◌∙◌, arith}
use Rattle.std.specs.VecDeque.{deque_capacity}
use Rattle.std.proofs.lemmas.List.{length-append}
use Rattle.st_long_list.specs.Tiers.{lengths_of}
use Rattle.st_long_list.proofs.TierLemmas.{passed, seam_moved, beside, size_at, sizes_set, sizes_same}
use Rattle.st_long_list.proofs.tiers.pass_up.Given.{Over}
use Rattle.st_long_list.proofs.tiers.pass_up.Goals.{After-push_front_reserved}
use Rattle.st_long_list.proofs.tiers.pass_up.Goals as goal

-- the next tier is the one that it was before an element left the other
next : (g : Over) (c : After-push_front_reserved g) → c.index_mut-in-Some.result.now ≡ get_or c.args.tiers.now.items (c.args.tier + 1) c.index_mut-in-Some.result.now
next g c = beside c.args.tiers.now.items c.args.tier (c.args.tier + 1) c.pop_back.new.self c.index_mut-in-Some.result.now (λ e. omega arith) c.index_mut-in-Some.ensures.value

pub returns-in-Some-clause-items : goal.returns-in-Some-clause-items
returns-in-Some-clause-items g c =
    let one = c.index_mut.result.now in
    let other = c.index_mut-in-Some.result.now in
    let left = c.pop_back.new.self in
    let longer = c.push_front_reserved.new.self in
    passed (λ t. t.items) c.args.tiers.now.items c.args.tier (c.args.tier + 1) one other left longer refl c.requires.next c.index_mut.ensures.value (next g (goal.at.returns-in-Some-clause-items g c).After-push_front_reserved)
    (seam_moved left.items longer.items other.items one.items c.in-Some.value c.in-Some.ensures.items c.push_front_reserved.ensures.items)

pub returns-in-Some-clause-lengths : goal.returns-in-Some-clause-lengths
returns-in-Some-clause-lengths g c =
    let tiers = c.args.tiers.now.items in
    let tier = c.args.tier in
    let left = c.pop_back.new.self in
    let had = size_at (λ t. length t.items) tiers tier c.index_mut.result.now (omega arith) c.index_mut.ensures.value in
    let held = size_at (λ t. length t.items) tiers (tier + 1) c.index_mut-in-Some.result.now c.requires.next (next g (goal.at.returns-in-Some-clause-lengths g c).After-push_front_reserved) in
    let fewer = ap length c.in-Some.ensures.items ∙ length-append left.items (c.in-Some.value ∷ []) in
    let more = ap length c.push_front_reserved.ensures.items in
    sizes_set (λ t. length t.items) tiers tier (tier + 1) (get_or (lengths_of tiers) tier 0 - 1) (get_or (lengths_of tiers) (tier + 1) 0 + 1) left c.push_front_reserved.new.self (omega arith) (omega arith)

pub returns-in-Some-clause-rooms : goal.returns-in-Some-clause-rooms
returns-in-Some-clause-rooms g c =
    let tiers = c.args.tiers.now.items in
    let tier = c.args.tier in
    let had = size_at (λ t. deque_capacity t) tiers tier c.index_mut.result.now (omega arith) c.index_mut.ensures.value in
    let held = size_at (λ t. deque_capacity t) tiers (tier + 1) c.index_mut-in-Some.result.now c.requires.next (next g (goal.at.returns-in-Some-clause-rooms g c).After-push_front_reserved) in
    sizes_same (λ t. deque_capacity t) tiers tier (tier + 1) c.pop_back.new.self c.push_front_reserved.new.self (c.in-Some.ensures.capacity ∙ sym had) (c.push_front_reserved.ensures.capacity ∙ sym held)
