use Rattle.std.proofs.Common.{◌≤◌, length, take, sym, ap, ◌∙◌, inl, arith}
use Rattle.std.specs.Prelude.{is_some, Some, if◌then◌else◌}
use Rattle.st_events.specs.Timers.{same_timer}
use Rattle.std.specs.Option.{option_or}
use Rattle.st_timer_map.specs.Slots.{place_of}
use Rattle.st_timer_map.specs.Index.{place_in, HasPlace}
use Rattle.st_timer_map.proofs.SlotLemmas.{told_more, told_all, told_still, place_further, place_further_hole, there_at, places_all}
use Rattle.st_timer_map.proofs.slots.write_places.Goals as goal
use Rattle.st_timer_map.proofs.slots.write_places.Goals.{in-Some, in_default}

pub write-requires : goal.write-requires
write-requires g c =
    let slots = c.args.slots.now in
    let place = c.loop-place.place in
    let slot = c.in-Some.slot in
    inl (λ known.
    let knew = sym (c.loop-place.invariant.same slot.timer) ∙ known in
    let had = c.requires.places slot.timer knew ∙ there_at slots place c.index-slots-place.result slot c.loop-place-test.true c.index-slots-place.is c.in-Some.is in
    ap is_some (c.loop-place.invariant.places slot.timer knew) ∙ told_still _ _ had)

pub loop-place-preserved : goal.loop-place-preserved
loop-place-preserved g c =
    let slots = c.args.slots.now in
    let place = c.loop-place.place in
    let item = c.index-slots-place.result in
    let old = c.args.index.now in
    let so_far = c.loop-place.invariant in
    let within = c.loop-place-test.true in
    let at = c.index-slots-place.is in
    elim c.match-slot.branch [
      | in-Some w ↦
          (let slot = w.in-Some.slot in
          let tells : HasPlace c.loop-place.index slot.timer = λ known.
          let knew = sym (so_far.same slot.timer) ∙ known in
          let had = c.requires.places slot.timer knew ∙ there_at slots place item slot within at w.in-Some.is in
          ap is_some (so_far.places slot.timer knew) ∙ told_still _ _ had in
          rw w.index-is (record {
            same = λ timer. w.write.ensures.knows timer ∙ so_far.same timer;
            places = λ timer knew.
                w.write.ensures.places timer (so_far.same timer ∙ knew)
                ∙ (ap (λ here. if same_timer slot.timer timer then Some place else here) (so_far.places timer knew)
                ∙ (told_more (same_timer slot.timer timer) place (place_of timer (take place slots)) (place_in old timer)
                ∙ ap (λ here. option_or here (place_in old timer)) (sym (place_further timer slots place item slot c.requires.once_each within at w.in-Some.is))));
            room = λ count had. w.write.ensures.again tells count (so_far.room count had);
          }))
      | in_default w ↦
          (rw w.index-is (record {
            same = so_far.same;
            places = λ timer knew.
                so_far.places timer knew
                ∙ ap (λ here. option_or here (place_in old timer)) (sym (place_further_hole timer slots place item within at w.in_default.is));
            room = so_far.room;
          }))
    ]

pub returns-clause-tied : goal.returns-clause-tied
returns-clause-tied g c = λ timer known.
    let knew = sym (c.loop-place.invariant.same timer) ∙ known in
    let past : length c.args.slots.now ≤ c.loop-place.place = omega arith in
    c.loop-place.invariant.places timer knew
    ∙ (ap (λ place. option_or place (place_in c.args.index.now timer)) (places_all timer c.args.slots.now c.loop-place.place past)
    ∙ told_all (place_of timer c.args.slots.now) (place_in c.args.index.now timer) (c.requires.places timer knew))
