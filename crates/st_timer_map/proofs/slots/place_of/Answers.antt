use Rattle.std.proofs.Common.{◌∙◌}
use Rattle.st_timer_map.proofs.SlotLemmas.{walked}
use Rattle.st_timer_map.proofs.slots.place_of.Goals as goal

pub returns-else-knows : goal.returns-else-knows
returns-else-knows g c = c.walk.ensures ∙ walked c.args.timer c.args.slots.now
