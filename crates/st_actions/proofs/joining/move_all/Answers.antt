use Rattle.std.proofs.Common.{length, ap, arith}
use Rattle.st_actions.proofs.joining.move_all.Goals as goal

-- the layout of the list is a hypothesis
pub into_places-left-requires : goal.into_places-left-requires
into_places-left-requires g c = (c.requires.fits, c.requires.fits)

pub take_each-element-items-requires : goal.take_each-element-items-requires
take_each-element-items-requires g c = (c.requires.fits, c.into_places-left.ensures.full)

pub push-requires : goal.push-requires
push-requires g c =
    (c.requires.fits, omega (arith, c.loop-element.invariant.reserved, c.requires.reserved, ap length c.in-Some.ensures.steps))
