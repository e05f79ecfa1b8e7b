use Rattle.std.proofs.Common.{◌≡◌, true, false}
use Rattle.st_lock.proofs.machine.never.Goals as goal

-- it waits for good
pub loop-smaller : goal.loop-smaller
loop-smaller g c = (c.in-Some.ensures.goes.on tt).2

pub unreachable-requires : goal.unreachable-requires
unreachable-requires g c = let no : false ≡ true = c.in-None.ensures.steps in cc

pub unreachable-unreachable : goal.unreachable-unreachable
unreachable-unreachable g c = c.unreachable.result
