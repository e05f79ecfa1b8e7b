use Rattle.std.proofs.Common.{refl, sym, ap, ◌∙◌, arith}
use Rattle.st_timer_map.specs.Slots.{rows_of, place_of, marked_at}
use Rattle.st_timer_map.proofs.RowLemmas.{once_each_marked, counted_marked}
use Rattle.st_timer_map.proofs.SlotLemmas.{within_length, rows_marked, places_marked}
use Rattle.st_timer_map.proofs.timer_map.TimerMap.mark.Goals as goal

pub mark_at-requires : goal.mark_at-requires
mark_at-requires g c =
    let place = c.place_of-place.ensures ∙ ap (place_of c.args.timer) c.deref.ensures.value in
    within_length c.args.timer c.self.inside.slots.items c.place_of-place.result _ place c.self.inside.slots.ok.0

pub invariant_of-self : goal.invariant_of-self
invariant_of-self g c =
    let slots = c.self.inside.slots.items in
    let old = c.self.invariant in
    let marked = g.V.Mark.marked in
    let place = c.place_of-place.ensures ∙ ap (place_of c.args.timer) c.deref.ensures.value in
    let rows = ap rows_of (c.mark_at.ensures.items ∙ ap (marked_at marked slots) place) ∙ rows_marked marked c.args.timer slots old.once_each in
    record {
      once_each = rw rows (once_each_marked marked c.args.timer (rows_of slots) old.once_each);
      tied = λ other known. old.tied other known ∙ (sym (ap (place_of other) c.mark_at.ensures.items ∙ places_marked marked other slots c.place_of-place.result));
      counted = rw rows (old.counted ∙ sym (counted_marked marked c.args.timer (rows_of slots)));
      fits = omega (arith, old.fits, c.mark_at.ensures.capacity);
      room = old.room;
    }

pub returns : goal.returns
returns g c =
    let slots = c.self.inside.slots.items in
    let marked = g.V.Mark.marked in
    let place = c.place_of-place.ensures ∙ ap (place_of c.args.timer) c.deref.ensures.value in
    let rows = ap rows_of (c.mark_at.ensures.items ∙ ap (marked_at marked slots) place) ∙ rows_marked marked c.args.timer slots c.self.invariant.once_each in
    rw (← c.self.view_is, rows) refl
