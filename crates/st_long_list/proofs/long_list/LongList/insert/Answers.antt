use Rattle.std.proofs.Common.{◌/◌, ◌%◌, ◌<◌, ◌≤◌, length, ap, refl, ◌∙◌, insert, arith}
use Rattle.std.specs.VecDeque.{deque_capacity}
use Rattle.std.proofs.lemmas.List.{length-map}
use Rattle.std.proofs.lemmas.List.Edits.{length-insert}
use Rattle.st_long_list.specs.Tiers.{lengths_of, rooms_of, HaveRoom}
use Rattle.st_long_list.proofs.GapLemmas.{tier_still_there, gap_filled, no_less, room_kept, place_fits, full_before}
use Rattle.st_long_list.proofs.TierLemmas.{inserted, length_of_items, size_at, size_set, same_places}
use Rattle.st_long_list.proofs.long_list.LongList.insert.Given.{Over}
use Rattle.st_long_list.proofs.long_list.LongList.insert.Goals.{After-free_place, After-index_mut}
use Rattle.st_long_list.proofs.long_list.LongList.insert.Goals as goal

-- the place is one of the list's or behind the last, and a place is reserved
bounds : (g : Over) (c : After-free_place g) → (c.args.place ≤ c.self.inside.len) × (c.self.inside.len < c.self.inside.places)
bounds g c =
    let long = length_of_items (λ t. t.items) c.self.inside.tiers.items c.self.inside.len c.self.invariant.packed in
    let within = rw (← c.self.view_is) at c.requires.place in
    let some = rw (← c.self.view_is) at c.requires.reserved in
    (omega arith, omega arith)

there : (g : Over) (c : After-free_place g) → c.args.place / 512 < length c.free_place.new.tiers.items
there g c =
    let bound = bounds g c in
    tier_still_there (λ t. deque_capacity t) c.self.inside.tiers.items c.free_place.new.tiers.items c.self.inside.places (c.args.place / 512) c.self.invariant.room c.free_place.ensures.rooms (omega arith)

room : (g : Over) (c : After-free_place g) → HaveRoom c.self.inside.places (rooms_of c.free_place.new.tiers.items)
room g c = rw c.free_place.ensures.rooms c.self.invariant.room

-- the place is one of the tier's or behind its last element, and the tier has memory
fits : (g : Over) (c : After-index_mut g) → (c.args.place % 512 ≤ length c.index_mut.result.now.items) × (length c.index_mut.result.now.items < deque_capacity c.index_mut.result.now)
fits g c =
    let before = (goal.at.put-requires-clause-place g c).After-free_place in
    let tiers = c.free_place.new.tiers.items in
    let one = c.index_mut.result.now in
    let bound = bounds g before in
    let fit = place_fits c.self.inside.len c.self.inside.places c.args.place (lengths_of tiers) (rooms_of tiers) bound.0 bound.1 c.free_place.ensures.gap (room g before) in
    let has = size_at (λ t. length t.items) tiers (c.args.place / 512) one (there g before) c.index_mut.ensures.value in
    let may = size_at (λ t. deque_capacity t) tiers (c.args.place / 512) one (there g before) c.index_mut.ensures.value in
    (omega arith, omega arith)

pub free_place-requires-clause-tier : goal.free_place-requires-clause-tier
free_place-requires-clause-tier g c =
    let long = length_of_items (λ t. t.items) c.self.inside.tiers.items c.self.inside.len c.self.invariant.packed in
    let within = rw (← c.self.view_is) at c.requires.place in
    omega arith

pub index_mut-requires : goal.index_mut-requires
index_mut-requires g c = let here = there g (goal.at.index_mut-requires g c).After-free_place in omega (arith, c.free_place.new.tiers.ok.0)

pub put-requires-clause-place : goal.put-requires-clause-place
put-requires-clause-place g c = (fits g (goal.at.put-requires-clause-place g c).After-index_mut).0

pub put-requires-clause-room : goal.put-requires-clause-room
put-requires-clause-room g c = (fits g (goal.at.put-requires-clause-room g c).After-index_mut).1

pub invariant_of-self : goal.invariant_of-self
invariant_of-self g c =
    let opened = (goal.at.invariant_of-self g c).After-index_mut in
    let before = (goal.at.invariant_of-self g c).After-free_place in
    let tiers = c.free_place.new.tiers.items in
    let tier = c.args.place / 512 in
    let one = c.index_mut.result.now in
    let fuller = c.put.new.tier in
    let bound = bounds g before in
    let here = there g before in
    let fit = fits g opened in
    let has = size_at (λ t. length t.items) tiers tier one here c.index_mut.ensures.value in
    let may = size_at (λ t. deque_capacity t) tiers tier one here c.index_mut.ensures.value in
    let more = ap length c.put.ensures.items ∙ length-insert one.items (c.args.place % 512) c.args.value fit.0 in
    record {
      packed = rw (size_set (λ t. length t.items) tiers tier (length fuller.items) fuller refl)
          (gap_filled (lengths_of tiers) tier (length fuller.items) (omega (arith, length-map tiers (λ t. length t.items))) c.self.inside.len (omega arith) (omega arith) c.free_place.ensures.gap);
      room = rw (size_set (λ t. deque_capacity t) tiers tier (deque_capacity fuller) fuller refl)
          (room_kept c.self.inside.places (rooms_of tiers) _ (room g before) (no_less (rooms_of tiers) tier (deque_capacity fuller) (omega (arith, length-map tiers (λ t. deque_capacity t))) (omega (arith, c.put.ensures.room))));
      within = omega arith;
    }

pub returns : goal.returns
returns g c =
    let opened = (goal.at.returns g c).After-index_mut in
    let before = (goal.at.returns g c).After-free_place in
    let tiers = c.free_place.new.tiers.items in
    let place = c.args.place in
    let bound = bounds g before in
    let fit = fits g opened in
    let full = full_before c.self.inside.len (place / 512) (lengths_of tiers) (omega arith) c.free_place.ensures.gap in
    let items = inserted (λ t. t.items) tiers (place / 512) c.index_mut.result.now (there g before) c.index_mut.ensures.value full (place % 512) place c.args.value c.put.new.tier (omega arith) fit.0 c.put.ensures.items in
    rw (← c.self.view_is) (same_places (items ∙ ap (λ vs. insert vs place c.args.value) c.free_place.ensures.items) (omega arith))
