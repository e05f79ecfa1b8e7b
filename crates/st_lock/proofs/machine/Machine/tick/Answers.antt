use Rattle.std.proofs.Common.{rules}
use Rattle.st_lock.proofs.machine.Machine.tick.Goals as goal

-- the cell that lay under the lock answers so
pub returns : goal.returns
returns g c = (c.deref_mut.result.now.cell, c.tick-answer.ensures.does.0, record { own = search rules; journaled = search rules }, c.tick-answer.ensures.does.1)
