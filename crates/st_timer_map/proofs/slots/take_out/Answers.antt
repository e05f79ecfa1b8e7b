use Rattle.std.proofs.Common.{sym, ap, ◌∙◌}
use Rattle.std.specs.Prelude.{None, if◌then◌else◌}
use Rattle.st_events.specs.Timers.{same_timer}
use Rattle.st_timer_map.specs.Slots.{rows_of, place_of, with_hole, slot_at, value_in}
use Rattle.st_timer_map.proofs.SlotLemmas.{value_there, removed, places_left, within_length}
use Rattle.st_timer_map.proofs.slots.take_out.Goals as goal

pub take_at-old-requires : goal.take_at-old-requires
take_at-old-requires g c =
    let place = c.place_of-place.ensures ∙ ap (place_of c.args.timer) c.deref.ensures.value in
    within_length c.args.timer c.args.slots.now.items c.place_of-place.result _ place c.args.slots.now.ok.0

pub returns-clause-returned : goal.returns-clause-returned
returns-clause-returned g c =
    let place = c.place_of-place.ensures ∙ ap (place_of c.args.timer) c.deref.ensures.value in
    c.take_at-old.ensures.value
    ∙ (ap (λ place. value_in (slot_at c.args.slots.now.items place)) place ∙ value_there c.args.timer c.args.slots.now.items)

pub returns-clause-rows : goal.returns-clause-rows
returns-clause-rows g c =
    let place = c.place_of-place.ensures ∙ ap (place_of c.args.timer) c.deref.ensures.value in
    ap rows_of (c.take_at-old.ensures.items ∙ ap (with_hole c.args.slots.now.items) place)
    ∙ removed c.args.timer c.args.slots.now.items c.requires.once_each

pub returns-clause-tied : goal.returns-clause-tied
returns-clause-tied g c = λ other known.
    let slots = c.args.slots.now.items in
    let place = c.place_of-place.ensures ∙ ap (place_of c.args.timer) c.deref.ensures.value in
    let items = c.take_at-old.ensures.items ∙ ap (with_hole slots) place in
    let knew = sym (c.forget.ensures.knows other) ∙ known in
    c.forget.ensures.places other
    ∙ (ap (λ here. if same_timer c.args.timer other then None else here) (c.requires.tied other knew)
    ∙ sym (ap (place_of other) items ∙ places_left c.args.timer other slots c.requires.once_each))
