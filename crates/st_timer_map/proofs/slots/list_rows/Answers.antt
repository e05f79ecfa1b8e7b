use Rattle.std.proofs.Common.{◌≤◌, length, take, map, [], ◌∷◌, sym, ap, ◌∙◌, arith, length-append}
use Rattle.std.proofs.lemmas.List.{map-append, take_all}
use Rattle.st_timer_map.specs.Slots.{row_of, rows_of}
use Rattle.st_timer_map.proofs.SlotLemmas.{rows_further, rows_further_hole, fewer_before}
use Rattle.st_timer_map.proofs.slots.list_rows.Goals as goal
use Rattle.st_timer_map.proofs.slots.list_rows.Goals.{in-Some, in_default}

pub push_reserved-requires : goal.push_reserved-requires
push_reserved-requires g c =
    let fewer = fewer_before c.args.slots.now c.loop-slot.slot-index c.slot-item.result c.in-Some.slot c.loop-slot-test.true c.slot-item.is c.in-Some.is in
    omega (arith, fewer, c.loop-slot.invariant.listed, c.loop-slot.invariant.room, c.requires)

pub loop-slot-preserved : goal.loop-slot-preserved
loop-slot-preserved g c =
    let slots = c.args.slots.now in
    let place = c.loop-slot.slot-index in
    let item = c.slot-item.result in
    let so_far = c.loop-slot.invariant in
    elim c.match-slot.branch [
      | in-Some w ↦
          (let more = rows_further slots place item w.in-Some.slot c.loop-slot-test.true c.slot-item.is w.in-Some.is in
          rw (w.rows-is, more) (record {
            items = rw (w.push_reserved.ensures.items, so_far.items, w.row.ensures)
                (sym (map-append (λ row. g.V.Mark.row_of row.0 row.1) (rows_of (take place slots)) (row_of w.in-Some.slot ∷ [])));
            listed = omega (arith, w.push_reserved.ensures.len, so_far.listed, length-append (rows_of (take place slots)) (row_of w.in-Some.slot ∷ []));
            room = omega (arith, w.push_reserved.ensures.capacity, so_far.room);
          }))
      | in_default w ↦
          (let same = rows_further_hole slots place item c.loop-slot-test.true c.slot-item.is w.in_default.is in
          rw (w.rows-is, same) so_far)
    ]

pub returns : goal.returns
returns g c =
    let slots = c.args.slots.now in
    let past : length slots ≤ c.loop-slot.slot-index = omega arith in
    c.loop-slot.invariant.items ∙ ap (λ some. map (λ row. g.V.Mark.row_of row.0 row.1) (rows_of some)) (take_all c.loop-slot.slot-index slots past)
