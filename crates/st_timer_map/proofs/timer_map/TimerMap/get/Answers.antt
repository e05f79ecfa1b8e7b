use Rattle.std.proofs.Common.{ap, ◌∙◌}
use Rattle.st_timer_map.specs.Slots.{place_of, value_in}
use Rattle.st_timer_map.proofs.SlotLemmas.{value_there}
use Rattle.st_timer_map.proofs.timer_map.TimerMap.get.Goals as goal

pub returns-in_err-slot : goal.returns-in_err-slot
returns-in_err-slot g c =
    let place = c.place_of-place.ensures ∙ ap (place_of c.args.timer) c.deref.ensures.value in
    let at = rw (c.deref-2.ensures.value, place) at c.in_err-slot.ensures in
    rw (c.from_residual.ensures, ← c.self.view_is) (ap value_in at ∙ value_there c.args.timer c.self.inside.slots.items)

pub returns : goal.returns
returns g c =
    let place = c.place_of-place.ensures ∙ ap (place_of c.args.timer) c.deref.ensures.value in
    let at = rw (c.deref-2.ensures.value, place) at c.in_ok-slot.ensures in
    rw (← c.self.view_is) (ap value_in at ∙ value_there c.args.timer c.self.inside.slots.items)
