use Rattle.std.proofs.Common.{◌+◌, ◌-◌, ◌∷◌, ◌++◌, [], length, not, inl, inr, refl, sym, ap, ◌∙◌, arith, length-append}
use Rattle.std.specs.Prelude.{is_some}
use Rattle.st_events.specs.declared.timer.Timer.{Timer}
use Rattle.st_timer_map.specs.Slots.{rows_of}
use Rattle.st_timer_map.specs.Rows.{value_of, without_timer}
use Rattle.st_timer_map.proofs.IndexLemmas.{room_less}
use Rattle.st_timer_map.proofs.RowLemmas.{once_each_put, one_less, none_less, room_left, fewer_than}
use Rattle.st_timer_map.proofs.timer_map.TimerMap.put.Goals as goal

pub make_room-requires-clause-fits : goal.make_room-requires-clause-fits
make_room-requires-clause-fits g c =
    fewer_than c.args.timer (rows_of c.self.inside.slots.items) c.self.inside.live c.self.inside.ready _
    (rw (← c.self.view_is) at c.requires) c.self.invariant.counted c.self.invariant.fits

pub put_last-old-requires-clause-room : goal.put_last-old-requires-clause-room
put_last-old-requires-clause-room g c =
    let inside = c.self.inside in
    let made = c.make_room.ensures in
    elim (rw (← c.self.view_is) at c.requires) [
      | inl there ↦ inl (ap (λ rows. is_some (value_of c.args.timer rows)) made.rows ∙ there)
      | inr more ↦ inr (made.room 1 (room_less inside.index 1 inside.ready (omega (arith, more)) c.self.invariant.room))
    ]

pub overflow_sub-self : goal.overflow_sub-self
overflow_sub-self g c =
    let rows = rows_of c.self.inside.slots.items in
    let absent = sym (ap is_some (c.put_last-old.ensures.returned ∙ ap (value_of c.args.timer) c.make_room.ensures.rows)) ∙ c.if-is_none.ensures in
    let reserved = room_left c.args.timer rows c.self.inside.ready absent (rw (← c.self.view_is) at c.requires) in
    omega (arith, reserved)

-- the timer was not there, so it takes one of those that are reserved
pub invariant_of-self : goal.invariant_of-self
invariant_of-self g c =
    let inside = c.self.inside in
    let old = c.self.invariant in
    let made = c.make_room.ensures in
    let last = c.put_last-old.ensures in
    let timer = c.args.timer in
    let row : Timer × g.row.V.Denot = (c.args.timer, c.args.value) in
    let rows = rows_of inside.slots.items in
    let put = last.rows ∙ ap (λ rows. without_timer timer rows ++ row ∷ []) made.rows in
    let absent = sym (ap is_some (last.returned ∙ ap (value_of timer) made.rows)) ∙ (c.is_none.ensures ∙ ap not c.if-is_none.true) in
    let same = none_less timer rows old.once_each absent in
    let reserved = room_left timer rows inside.ready absent (rw (← c.self.view_is) at c.requires) in
    record {
      once_each = rw put (once_each_put timer c.args.value rows old.once_each);
      tied = last.tied;
      counted = omega (arith, same, old.counted, ap length put, length-append (without_timer timer rows) (row ∷ []));
      fits = omega (arith, old.fits, reserved, last.capacity, made.capacity);
      room = last.room (inside.ready - 1) (room_less c.make_room.new.index (inside.ready - 1 + 1) inside.ready (omega arith) (made.room inside.ready old.room));
    }

-- it was there, so it takes none
pub invariant_of-self-else-is_none : goal.invariant_of-self-else-is_none
invariant_of-self-else-is_none g c =
    let inside = c.self.inside in
    let old = c.self.invariant in
    let made = c.make_room.ensures in
    let last = c.put_last-old.ensures in
    let timer = c.args.timer in
    let row : Timer × g.row.V.Denot = (c.args.timer, c.args.value) in
    let rows = rows_of inside.slots.items in
    let put = last.rows ∙ ap (λ rows. without_timer timer rows ++ row ∷ []) made.rows in
    let is_there = c.is_none.ensures ∙ ap not c.if-is_none.false in
    let there = sym (ap is_some (last.returned ∙ ap (value_of timer) made.rows)) ∙ is_there in
    let fewer = one_less timer rows old.once_each there in
    record {
      once_each = rw put (once_each_put timer c.args.value rows old.once_each);
      tied = last.tied;
      counted = omega (arith, fewer, old.counted, ap length put, length-append (without_timer timer rows) (row ∷ []));
      fits = omega (arith, old.fits, last.capacity, made.capacity);
      room = last.again is_there inside.ready (made.room inside.ready old.room);
    }

pub returns-then-is_none-clause-put : goal.returns-then-is_none-clause-put
returns-then-is_none-clause-put g c =
    let made = c.make_room.ensures in
    let last = c.put_last-old.ensures in
    let row : Timer × g.row.V.Denot = (c.args.timer, c.args.value) in
    let put = last.rows ∙ ap (λ rows. without_timer c.args.timer rows ++ row ∷ []) made.rows in
    let absent = sym (ap is_some (last.returned ∙ ap (value_of c.args.timer) made.rows)) ∙ c.if-is_none.ensures in
    rw (← c.self.view_is, put, absent) refl

pub returns-else-is_none-clause-put : goal.returns-else-is_none-clause-put
returns-else-is_none-clause-put g c =
    let made = c.make_room.ensures in
    let last = c.put_last-old.ensures in
    let row : Timer × g.row.V.Denot = (c.args.timer, c.args.value) in
    let put = last.rows ∙ ap (λ rows. without_timer c.args.timer rows ++ row ∷ []) made.rows in
    let there = sym (ap is_some (last.returned ∙ ap (value_of c.args.timer) made.rows)) ∙ (c.is_none.ensures ∙ ap not c.if-is_none.false) in
    rw (← c.self.view_is, put, there) refl
