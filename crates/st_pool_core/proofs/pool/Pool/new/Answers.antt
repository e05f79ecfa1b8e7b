use Rattle.std.proofs.Common.{refl}
use Rattle.st_pool_core.proofs.pool.Pool.new.Goals as goal

-- it is as it begins, or there is no memory for the machines
pub returns-in-Ok-clause-opened : goal.returns-in-Ok-clause-opened
returns-in-Ok-clause-opened g c = c.filled.ensures.opened c.args.workers (rw c.deref.ensures.value at c.in-Ok.ensures.framed.1)

pub returns-in-Ok-clause-refusals : goal.returns-in-Ok-clause-refusals
returns-in-Ok-clause-refusals g c = c.filled.ensures.refusals c.args.workers

pub returns-in-Ok-clause-returned : goal.returns-in-Ok-clause-returned
returns-in-Ok-clause-returned g c = c.filled.ensures.returned

-- there is no such pool
pub returns-in-Err-clause-opened : goal.returns-in-Err-clause-opened
returns-in-Err-clause-opened g c = tt

pub returns-in-Err-clause-refusals : goal.returns-in-Err-clause-refusals
returns-in-Err-clause-refusals g c = rw c.new.ensures (rw c.deref.ensures.value at c.in-Err.ensures.refusals)

pub returns-in-Err-clause-returned : goal.returns-in-Err-clause-returned
returns-in-Err-clause-returned g c = rw c.new.ensures refl
