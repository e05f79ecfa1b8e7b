use Rattle.std.proofs.Common.{◌≡◌, length, sym, ap, ◌∙◌, arith, inl, inr}
use Rattle.std.specs.Prelude.{is_some}
use Rattle.st_timer_map.specs.Slots.{place_of, slot_at, value_in}
use Rattle.st_timer_map.proofs.SlotLemmas.{value_there, within_length, length_hole, places_put, rows_put}
use Rattle.st_timer_map.proofs.IndexLemmas.{tells}
use Rattle.st_timer_map.proofs.slots.put_last.Goals as goal

pub take_at-old-requires : goal.take_at-old-requires
take_at-old-requires g c =
    let place = c.place_of-place.ensures ∙ ap (place_of c.args.timer) c.deref.ensures.value in
    within_length c.args.timer c.args.slots.now.items c.place_of-place.result _ place c.args.slots.now.ok.0

pub push_reserved-requires : goal.push_reserved-requires
push_reserved-requires g c =
    let long = ap length c.take_at-old.ensures.items ∙ length_hole c.args.slots.now.items c.place_of-place.result in
    omega (arith, long, c.take_at-old.new.slots.ok.0, c.args.slots.now.ok.0, c.take_at-old.ensures.capacity, c.requires.fits)

pub write-requires : goal.write-requires
write-requires g c =
    elim c.requires.room [
      | inl h ↦ inl (tells c.args.index.now c.args.slots.now.items c.args.timer c.requires.tied h)
      | inr h ↦ inr h
    ]

pub returns-clause-returned : goal.returns-clause-returned
returns-clause-returned g c =
    let place = c.place_of-place.ensures ∙ ap (place_of c.args.timer) c.deref.ensures.value in
    c.take_at-old.ensures.value
    ∙ (ap (λ place. value_in (slot_at c.args.slots.now.items place)) place ∙ value_there c.args.timer c.args.slots.now.items)

pub returns-clause-rows : goal.returns-clause-rows
returns-clause-rows g c =
    let slots = c.args.slots.now.items in
    let place = c.place_of-place.ensures ∙ ap (place_of c.args.timer) c.deref.ensures.value in
    rw (c.push_reserved.ensures.items, c.take_at-old.ensures.items, place) (rows_put c.args.timer c.args.value slots c.requires.once_each)

pub returns-clause-tied : goal.returns-clause-tied
returns-clause-tied g c = λ other known.
    let slots = c.args.slots.now.items in
    let place = c.place_of-place.ensures ∙ ap (place_of c.args.timer) c.deref.ensures.value in
    let knew = sym (c.write.ensures.knows other) ∙ known in
    let long = ap length c.take_at-old.ensures.items ∙ length_hole slots c.place_of-place.result in
    let last : c.len-last.result ≡ length slots = c.len-last.ensures ∙ (c.take_at-old.new.slots.ok.0 ∙ long) in
    c.write.ensures.places other knew
    ∙ (rw (last, c.requires.tied other knew, c.push_reserved.ensures.items, c.take_at-old.ensures.items, place)
    (sym (places_put c.args.timer other c.args.value slots c.requires.once_each)))

pub returns-clause-again : goal.returns-clause-again
returns-clause-again g c = λ had.
    let place = c.place_of-place.ensures ∙ ap (place_of c.args.timer) c.deref.ensures.value in
    let returned = c.take_at-old.ensures.value
    ∙ (ap (λ place. value_in (slot_at c.args.slots.now.items place)) place ∙ value_there c.args.timer c.args.slots.now.items) in
    c.write.ensures.again (tells c.args.index.now c.args.slots.now.items c.args.timer c.requires.tied (sym (ap is_some returned) ∙ had))
