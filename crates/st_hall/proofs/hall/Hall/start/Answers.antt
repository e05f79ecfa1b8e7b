use Rattle.std.proofs.Common.{rules}
use Rattle.st_hall.proofs.hall.Hall.start.Goals as goal

-- the registry under the lock is the one that the machine starts at
pub returns-clause-starts : goal.returns-clause-starts
returns-clause-starts g c = (c.deref_mut.result.now, c.start.new.self, search rules, search rules, c.start.ensures.starts)
