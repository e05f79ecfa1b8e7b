use Rattle.st_pool_core.proofs.pool.Pool.filled.Goals as goal

-- the machines are as they begin
pub returns-in-Ok-clause-opened : goal.returns-in-Ok-clause-opened
returns-in-Ok-clause-opened g c workers opens = rw c.in-Ok.ensures.machines opens

-- no memory for the machines
pub returns-in-Err-clause-refusals : goal.returns-in-Err-clause-refusals
returns-in-Err-clause-refusals g c workers = rw c.new-in-Err.ensures (record { why = tt })
