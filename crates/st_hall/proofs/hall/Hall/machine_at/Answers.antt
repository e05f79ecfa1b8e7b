use Rattle.std.proofs.Common.{rules}
use Rattle.st_hall.proofs.hall.Hall.machine_at.Goals as goal

-- the registry under the lock has none there
pub returns-in_default-clause-vacant : goal.returns-in_default-clause-vacant
returns-in_default-clause-vacant g c = (c.deref-2.result.now, search rules, search rules, c.in_default.ensures.vacant)
