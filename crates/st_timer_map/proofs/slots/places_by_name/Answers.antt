use Rattle.std.proofs.Common.{◌≤◌, length, sym, ap, ◌∙◌, arith}
use Rattle.std.specs.Prelude.{Some, if◌then◌else◌}
use Rattle.st_events.specs.Timers.{same_timer}
use Rattle.st_events.specs.declared.timer.Timer.TheVariants.{Named}
use Rattle.st_timer_map.proofs.SlotLemmas.{place_further, place_further_hole, places_all}
use Rattle.st_timer_map.proofs.slots.places_by_name.Goals as goal
use Rattle.st_timer_map.proofs.slots.places_by_name.Goals.{in-Some+in_ok-write_if_named, in_default}

pub loop-place-preserved : goal.loop-place-preserved
loop-place-preserved g c =
    let slots = c.args.slots.now in
    let place = c.loop-place.place in
    let within = c.loop-place-test.true in
    let at = c.index-slots-place.is in
    elim c.match-slot.branch [
      | in-Some+in_ok-write_if_named w ↦
          (rw w.named-is (λ name.
          w.in_ok-write_if_named.ensures name
          ∙ (ap (λ old. if same_timer w.in-Some.slot.timer (Named name) then Some place else old) (c.loop-place.invariant name)
          ∙ sym (place_further (Named name) slots place c.index-slots-place.result w.in-Some.slot c.requires within at w.in-Some.is))))
      | in_default w ↦ (rw w.named-is (λ name.
          c.loop-place.invariant name
          ∙ sym (place_further_hole (Named name) slots place c.index-slots-place.result within at w.in_default.is)))
    ]

pub returns-clause-places : goal.returns-clause-places
returns-clause-places g c = λ name.
    let past : length c.args.slots.now ≤ c.loop-place.place = omega arith in
    c.in_ok-reserve.ensures.entries.2 name
    ∙ (c.loop-place.invariant name ∙ places_all (Named name) c.args.slots.now c.loop-place.place past)
