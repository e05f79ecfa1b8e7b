use Rattle.std.proofs.Common.{◌≡◌, ◌+◌, ◌-◌, ◌/◌, ◌%◌, ◌<◌, true, is_some, length, set, refl, sym, ◌∙◌, arith}
use Rattle.std.specs.VecDeque.{deque_capacity}
use Rattle.std.proofs.lemmas.List.{length-map}
use Rattle.std.proofs.lemmas.Option.{slice_get_past}
use Rattle.st_long_list.specs.Tiers.{lengths_of, rooms_of}
use Rattle.st_long_list.proofs.GapLemmas.{tier_still_there, gap_made, packed_before, room_for_fewer}
use Rattle.st_long_list.proofs.TierLemmas.{removed, got_in, length_of_items, size_at, size_set, size_same, same_places, of_some, on_some, not_none, taken_is_got}
use Rattle.st_long_list.proofs.long_list.LongList.remove.Given.{Over}
use Rattle.st_long_list.proofs.long_list.LongList.remove.Goals.{After-remove-value}
use Rattle.st_long_list.proofs.long_list.LongList.remove.Goals as goal

there : (g : Over) (c : After-remove-value g) → c.args.place / 512 < length c.self.inside.tiers.items
there g c =
    let tiers = c.self.inside.tiers.items in
    tier_still_there (λ t. deque_capacity t) tiers tiers c.self.inside.places (c.args.place / 512) c.self.invariant.room refl (omega arith)

-- the place is one of the tier's
inside_tier : (g : Over) (c : After-remove-value g) → c.args.place % 512 < length c.index_mut.result.now.items
inside_tier g c =
    let has = size_at (λ t. length t.items) c.self.inside.tiers.items (c.args.place / 512) c.index_mut.result.now (there g c) c.index_mut.ensures.value in
    let packed = c.self.invariant.packed (c.args.place / 512) in
    omega arith

some : (g : Over) (c : After-remove-value g) → is_some c.remove-value.result ≡ true
some g c = let inside = inside_tier g c in c.remove-value.ensures.variant.1 (omega (arith, c.index_mut.result.now.ok.0))

-- the tiers have the memory that they had
rooms : (g : Over) (c : After-remove-value g) → rooms_of (set c.self.inside.tiers.items (c.args.place / 512) c.remove-value.new.self) ≡ rooms_of c.self.inside.tiers.items
rooms g c =
    let tiers = c.self.inside.tiers.items in
    let may = size_at (λ t. deque_capacity t) tiers (c.args.place / 512) c.index_mut.result.now (there g c) c.index_mut.ensures.value in
    size_same (λ t. deque_capacity t) tiers (c.args.place / 512) c.remove-value.new.self (c.remove-value.ensures.capacity ∙ sym may)

pub returns-then-self-place-clause-value : goal.returns-then-self-place-clause-value
returns-then-self-place-clause-value g c =
    let long = length_of_items (λ t. t.items) c.self.inside.tiers.items c.self.inside.len c.self.invariant.packed in
    rw (← c.self.view_is) (sym (slice_get_past _ c.args.place (omega arith)))

pub index_mut-requires : goal.index_mut-requires
index_mut-requires g c =
    let tiers = c.self.inside.tiers in
    let here = tier_still_there (λ t. deque_capacity t) tiers.items tiers.items c.self.inside.places (c.args.place / 512) c.self.invariant.room refl (omega arith) in
    omega (arith, tiers.ok.0)

pub fill_place-requires-clause-gap : goal.fill_place-requires-clause-gap
fill_place-requires-clause-gap g c =
    let before = (goal.at.fill_place-requires-clause-gap g c).After-remove-value in
    let tiers = c.self.inside.tiers.items in
    let tier = c.args.place / 512 in
    let one = c.index_mut.result.now in
    let left = c.remove-value.new.self in
    let here = there g before in
    let has = size_at (λ t. length t.items) tiers tier one here c.index_mut.ensures.value in
    let fewer = of_some c.remove-value.result _ (some g before) c.remove-value.ensures.len in
    let whole : c.self.inside.len - 1 + 1 ≡ c.self.inside.len = omega arith in
    rw (size_set (λ t. length t.items) tiers tier (length left.items) left refl)
    (gap_made (lengths_of tiers) tier (length left.items) (omega (arith, length-map tiers (λ t. length t.items))) (c.self.inside.len - 1) (omega arith) (omega (arith, one.ok.0, left.ok.0)) (rw whole c.self.invariant.packed))

pub fill_place-requires-clause-room : goal.fill_place-requires-clause-room
fill_place-requires-clause-room g c =
    rw (rooms g (goal.at.fill_place-requires-clause-room g c).After-remove-value)
    (room_for_fewer c.self.inside.places (c.self.inside.len - 1 + 1) (rooms_of c.self.inside.tiers.items) (omega arith) c.self.invariant.room)

pub invariant_of-self : goal.invariant_of-self
invariant_of-self g c = record {
  packed = c.fill_place.ensures.packed;
  room = rw (c.fill_place.ensures.rooms, rooms g (goal.at.invariant_of-self g c).After-remove-value) c.self.invariant.room;
  within = omega arith;
}

pub returns-clause-value : goal.returns-clause-value
returns-clause-value g c =
    let before = (goal.at.returns-clause-value g c).After-remove-value in
    let place = c.args.place in
    let one = c.index_mut.result.now in
    rw (← c.self.view_is)
    (taken_is_got one.items (place % 512) c.remove-value.result (inside_tier g before) (some g before) c.remove-value.ensures.value
    ∙ sym (got_in (λ t. t.items) c.self.inside.tiers.items c.self.inside.len (place / 512) (place % 512) place one (omega arith) (omega arith) (there g before) c.index_mut.ensures.value c.self.invariant.packed))

pub returns-clause-removed : goal.returns-clause-removed
returns-clause-removed g c =
    let before = (goal.at.returns-clause-removed g c).After-remove-value in
    let tiers = c.self.inside.tiers.items in
    let place = c.args.place in
    let fewer = of_some c.remove-value.result _ (some g before) c.remove-value.ensures.items in
    let full = packed_before c.self.inside.len (place / 512) (lengths_of tiers) (omega arith) c.self.invariant.packed in
    let items = removed (λ t. t.items) tiers (place / 512) c.index_mut.result.now (there g before) c.index_mut.ensures.value full (place % 512) place c.remove-value.new.self (omega arith) (inside_tier g before) fewer in
    rw (← c.self.view_is) (on_some c.remove-value.result _ (same_places (c.fill_place.ensures.items ∙ items) (omega arith)))

pub returns-clause-unchanged : goal.returns-clause-unchanged
returns-clause-unchanged g c = not_none c.remove-value.result _ (some g (goal.at.returns-clause-unchanged g c).After-remove-value)
