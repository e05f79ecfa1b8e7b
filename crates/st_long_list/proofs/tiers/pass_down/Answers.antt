use Rattle.std.proofs.Common.{◌≡◌, ◌+◌, ◌-◌, length, get_or, [], ◌∷◌, ap, sym, refl, ◌∙◌, arith}
use Rattle.std.specs.VecDeque.{deque_capacity}
use Rattle.std.proofs.lemmas.List.{length-append}
use Rattle.st_long_list.specs.Tiers.{lengths_of}
use Rattle.st_long_list.proofs.TierLemmas.{passed_back, seam_moved, beside, size_at, sizes_set, sizes_same}
use Rattle.st_long_list.proofs.tiers.pass_down.Given.{Over}
use Rattle.st_long_list.proofs.tiers.pass_down.Goals.{After-push_back_reserved}
use Rattle.st_long_list.proofs.tiers.pass_down.Goals as goal

-- the tier is the one that it was before an element left the next
at : (g : Over) (c : After-push_back_reserved g) → c.index_mut-in-Some.result.now ≡ get_or c.args.tiers.now.items c.args.tier c.index_mut-in-Some.result.now
at g c = beside c.args.tiers.now.items (c.args.tier + 1) c.args.tier c.pop_front.new.self c.index_mut-in-Some.result.now (λ e. omega arith) c.index_mut-in-Some.ensures.value

pub returns-in-Some-clause-items : goal.returns-in-Some-clause-items
returns-in-Some-clause-items g c =
    let one = c.index_mut-in-Some.result.now in
    let other = c.index_mut.result.now in
    let left = c.pop_front.new.self in
    let longer = c.push_back_reserved.new.self in
    passed_back (λ t. t.items) c.args.tiers.now.items c.args.tier (c.args.tier + 1) one other longer left refl c.requires.next (at g (goal.at.returns-in-Some-clause-items g c).After-push_back_reserved) c.index_mut.ensures.value
    (sym (seam_moved one.items other.items left.items longer.items c.in-Some.value c.push_back_reserved.ensures.items c.in-Some.ensures.items))

pub returns-in-Some-clause-lengths : goal.returns-in-Some-clause-lengths
returns-in-Some-clause-lengths g c =
    let tiers = c.args.tiers.now.items in
    let tier = c.args.tier in
    let one = c.index_mut-in-Some.result.now in
    let had = size_at (λ t. length t.items) tiers (tier + 1) c.index_mut.result.now c.requires.next c.index_mut.ensures.value in
    let held = size_at (λ t. length t.items) tiers tier one (omega arith) (at g (goal.at.returns-in-Some-clause-lengths g c).After-push_back_reserved) in
    let fewer = ap length c.in-Some.ensures.items in
    let more = ap length c.push_back_reserved.ensures.items ∙ length-append one.items (c.in-Some.value ∷ []) in
    sizes_set (λ t. length t.items) tiers (tier + 1) tier (get_or (lengths_of tiers) (tier + 1) 0 - 1) (get_or (lengths_of tiers) tier 0 + 1) c.pop_front.new.self c.push_back_reserved.new.self (omega arith) (omega arith)

pub returns-in-Some-clause-rooms : goal.returns-in-Some-clause-rooms
returns-in-Some-clause-rooms g c =
    let tiers = c.args.tiers.now.items in
    let tier = c.args.tier in
    let had = size_at (λ t. deque_capacity t) tiers (tier + 1) c.index_mut.result.now c.requires.next c.index_mut.ensures.value in
    let held = size_at (λ t. deque_capacity t) tiers tier c.index_mut-in-Some.result.now (omega arith) (at g (goal.at.returns-in-Some-clause-rooms g c).After-push_back_reserved) in
    sizes_same (λ t. deque_capacity t) tiers (tier + 1) tier c.pop_front.new.self c.push_back_reserved.new.self (c.in-Some.ensures.capacity ∙ sym had) (c.push_back_reserved.ensures.capacity ∙ sym held)
