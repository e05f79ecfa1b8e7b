use Rattle.std.proofs.Common.{length, ap, arith}
use Rattle.st_actions.proofs.joining.move_remaining.Goals as goal

-- the layout of the list is a hypothesis
pub into_places-left-requires : goal.into_places-left-requires
into_places-left-requires g c = (c.requires.settings_fit, c.requires.settings_fit)

pub take_each-setting-items-requires : goal.take_each-setting-items-requires
take_each-setting-items-requires g c = (c.requires.settings_fit, c.into_places-left.ensures.full)

pub push-requires : goal.push-requires
push-requires g c = (c.requires.settings_fit, omega (arith, c.loop-setting.invariant.reserved, ap length c.in-Some.ensures.steps))

pub next-requires : goal.next-requires
next-requires g c = tt

pub has-requires : goal.has-requires
has-requires g c = tt

pub loop-setting-smaller-then-not-has : goal.loop-setting-smaller-then-not-has
loop-setting-smaller-then-not-has g c = omega (arith, ap length c.in-Some.ensures.steps)

pub loop-setting-smaller-else-not-has : goal.loop-setting-smaller-else-not-has
loop-setting-smaller-else-not-has g c = omega (arith, ap length c.in-Some.ensures.steps)

pub loop-setting-smaller : goal.loop-setting-smaller
loop-setting-smaller g c = omega (arith, ap length c.in-Some.ensures.steps)
