use Rattle.std.proofs.Common.{refl, sym, ap, ◌∙◌, arith}
use Rattle.st_timer_map.specs.Slots.{rows_of, place_of, slot_at, value_in, marked_at}
use Rattle.st_timer_map.proofs.RowLemmas.{once_each_marked, counted_marked}
use Rattle.st_timer_map.proofs.SlotLemmas.{within_length, rows_marked, places_marked, value_there}
use Rattle.st_timer_map.proofs.timer_map.TimerMap.replace.Goals as goal

pub replace_at-requires : goal.replace_at-requires
replace_at-requires g c =
    let place = c.place_of-place.ensures ∙ ap (place_of c.args.timer) c.deref.ensures.value in
    within_length c.args.timer c.self.inside.slots.items c.place_of-place.result _ place c.self.inside.slots.ok.0

pub invariant_of-self : goal.invariant_of-self
invariant_of-self g c =
    let slots = c.self.inside.slots.items in
    let old = c.self.invariant in
    let place = c.place_of-place.ensures ∙ ap (place_of c.args.timer) c.deref.ensures.value in
    let rows = ap rows_of (c.replace_at.ensures.items ∙ ap (marked_at (λ old. c.args.value) slots) place) ∙ rows_marked (λ old. c.args.value) c.args.timer slots old.once_each in
    record {
      once_each = rw rows (once_each_marked (λ old. c.args.value) c.args.timer (rows_of slots) old.once_each);
      tied = λ other known. old.tied other known ∙ (sym (ap (place_of other) c.replace_at.ensures.items ∙ places_marked (λ old. c.args.value) other slots c.place_of-place.result));
      counted = rw rows (old.counted ∙ sym (counted_marked (λ old. c.args.value) c.args.timer (rows_of slots)));
      fits = omega (arith, old.fits, c.replace_at.ensures.capacity);
      room = old.room;
    }

pub returns-clause-returned : goal.returns-clause-returned
returns-clause-returned g c =
    let slots = c.self.inside.slots.items in
    let place = c.place_of-place.ensures ∙ ap (place_of c.args.timer) c.deref.ensures.value in
    rw (← c.self.view_is) (c.replace_at.ensures.returned ∙ (ap (λ at. value_in (slot_at slots at)) place ∙ value_there c.args.timer slots))

pub returns-clause-replaced : goal.returns-clause-replaced
returns-clause-replaced g c =
    let slots = c.self.inside.slots.items in
    let place = c.place_of-place.ensures ∙ ap (place_of c.args.timer) c.deref.ensures.value in
    let rows = ap rows_of (c.replace_at.ensures.items ∙ ap (marked_at (λ old. c.args.value) slots) place) ∙ rows_marked (λ old. c.args.value) c.args.timer slots c.self.invariant.once_each in
    rw (← c.self.view_is, rows) refl
