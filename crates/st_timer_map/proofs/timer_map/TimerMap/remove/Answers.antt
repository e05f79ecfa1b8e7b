use Rattle.std.proofs.Common.{length, refl, sym, ap, ◌∙◌, arith}
use Rattle.std.specs.Prelude.{is_some}
use Rattle.st_timer_map.specs.Slots.{rows_of}
use Rattle.st_timer_map.proofs.RowLemmas.{once_each_without, one_less, none_less}
use Rattle.st_timer_map.proofs.timer_map.TimerMap.remove.Goals as goal

pub invariant_of-self : goal.invariant_of-self
invariant_of-self g c =
    let inside = c.self.inside in
    let old = c.self.invariant in
    let taken = c.take_out-old.ensures in
    let rows = rows_of inside.slots.items in
    let there = sym (ap is_some taken.returned) ∙ (sym c.is_some.ensures ∙ c.if-is_some.true) in
    let fewer = one_less c.args.timer rows old.once_each there in
    record {
      once_each = rw taken.rows (once_each_without c.args.timer rows old.once_each);
      tied = taken.tied;
      counted = omega (arith, fewer, old.counted, ap length taken.rows);
      fits = omega (arith, old.fits, taken.capacity);
      room = taken.room inside.ready old.room;
    }

pub invariant_of-self-else-is_some : goal.invariant_of-self-else-is_some
invariant_of-self-else-is_some g c =
    let inside = c.self.inside in
    let old = c.self.invariant in
    let taken = c.take_out-old.ensures in
    let rows = rows_of inside.slots.items in
    let absent = sym (ap is_some taken.returned) ∙ (sym c.is_some.ensures ∙ c.if-is_some.false) in
    let same = none_less c.args.timer rows old.once_each absent in
    record {
      once_each = rw taken.rows (once_each_without c.args.timer rows old.once_each);
      tied = taken.tied;
      counted = omega (arith, same, old.counted, ap length taken.rows);
      fits = omega (arith, old.fits, taken.capacity);
      room = taken.room inside.ready old.room;
    }

-- one that is there is counted
pub overflow_sub-self : goal.overflow_sub-self
overflow_sub-self g c =
    let rows = rows_of c.self.inside.slots.items in
    let there = sym (ap is_some c.take_out-old.ensures.returned) ∙ (sym c.is_some.ensures ∙ c.if-is_some.true) in
    omega (arith, one_less c.args.timer rows c.self.invariant.once_each there, c.self.invariant.counted)

pub returns-then-is_some-clause-removed : goal.returns-then-is_some-clause-removed
returns-then-is_some-clause-removed g c = rw (← c.self.view_is, c.take_out-old.ensures.rows) refl

pub returns-else-is_some-clause-removed : goal.returns-else-is_some-clause-removed
returns-else-is_some-clause-removed g c = rw (← c.self.view_is, c.take_out-old.ensures.rows) refl
