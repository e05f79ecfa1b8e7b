use Rattle.st_events.proofs.Given.{given}
use Rattle.std.proofs.Common.{refl}
use Rattle.st_actions.proofs.once.timer_at.Goals as goal

-- the list is the caller's, and so is its layout
pub get-requires : goal.get-requires
get-requires g c = search given

pub returns-in_default-2 : goal.returns-in_default-2
returns-in_default-2 g c = rw (← c.get.ensures.element, c.in_default.is) refl
