use Rattle.std.proofs.Common.{rules}
use Rattle.st_lock.proofs.machine.Machine.stop_and_count.Goals as goal

-- the cell that lay under the lock was stopped, and so many events waited there
pub returns-in-Ok : goal.returns-in-Ok
returns-in-Ok g c = (
  c.deref_mut.result.now.cell,
  c.in-Ok.ensures.does.0,
  c.in-Ok._word,
  record { own = search rules; journaled = search rules },
  c.in-Ok.ensures.does.1,
  search rules,
)

-- it refused so
pub returns-in-Err : goal.returns-in-Err
returns-in-Err g c = (c.deref_mut.result.now.cell, c.in-Err.ensures.does.0, record { own = search rules; journaled = search rules }, c.in-Err.ensures.does.1)
