use Rattle.st_pool_core.proofs.BalanceLemmas.{opened-balanced}
use Rattle.st_pool_core.proofs.MessageLemmas.{opened-carries}
use Rattle.st_pool_core.proofs.pool_world.PoolWorld.new.Goals as goal

-- a pool begins balanced, and carries nothing
pub invariant_of-result : goal.invariant_of-result
invariant_of-result g c =
    let opens = rw c.in-Ok.is at c.new.ensures.opened in
    rw opens.is (opened-balanced c.args.workers c.args.cores.items opens.each, opened-carries c.args.workers c.args.cores.items opens.own)

-- it is as it begins
pub returns-in-Ok-clause-opened : goal.returns-in-Ok-clause-opened
returns-in-Ok-clause-opened g c = (rw c.in-Ok.is at c.new.ensures.opened).is

pub returns-in-Ok-clause-possible : goal.returns-in-Ok-clause-possible
returns-in-Ok-clause-possible g c = let opens = rw c.in-Ok.is at c.new.ensures.opened in (opens.possible, opens.each)

-- why it is not opened
pub returns-in-Err-clause-refusals : goal.returns-in-Err-clause-refusals
returns-in-Err-clause-refusals g c = (rw c.in-Err.is at c.new.ensures.refusals).why
