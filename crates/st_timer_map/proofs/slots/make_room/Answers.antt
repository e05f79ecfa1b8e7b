use Rattle.std.proofs.Common.{◌∙◌, ap, arith, length}
use Rattle.st_timer_map.specs.Slots.{rows_of}
use Rattle.st_timer_map.proofs.SlotLemmas.{rows_closed, length_closed}
use Rattle.st_timer_map.proofs.slots.make_room.Goals as goal

pub returns-clause-rows : goal.returns-clause-rows
returns-clause-rows g c = ap rows_of c.close_holes.ensures.items ∙ rows_closed c.args.slots.now.items

pub returns-clause-fits : goal.returns-clause-fits
returns-clause-fits g c =
    omega (arith, c.close_holes.new.slots.ok, ap length c.close_holes.ensures.items, length_closed c.args.slots.now.items, c.requires.fits, c.close_holes.ensures.capacity)
