use Rattle.std.proofs.Common.{rules}
use Rattle.st_lock.proofs.machine.Machine.token.Goals as goal

-- it is found at the cell that lay under the lock
pub returns : goal.returns
returns g c = (c.deref-2.result.now.cell, record { own = search rules; journaled = search rules }, search rules)
