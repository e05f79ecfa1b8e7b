use Rattle.std.proofs.Common.{rules}
use Rattle.st_lock.proofs.machine.Machine.cut_beyond.Goals as goal

-- the cell that lay under the lock is so long, or not
pub returns-in-Ok-clause-long : goal.returns-in-Ok-clause-long
returns-in-Ok-clause-long g c = (c.deref-2.result.now.cell, record { own = search rules; journaled = search rules }, c.is_long-is_long.ensures)
