use Rattle.std.proofs.Common.{rules}
use Rattle.st_hall.proofs.hall.Hall.len.Goals as goal

-- the registry under the lock has so many
pub returns : goal.returns
returns g c = (c.deref-2.result.now, search rules, search rules, c.len.ensures)
