use Rattle.std.proofs.Common.{rules}
use Rattle.st_lock.proofs.machine.Machine.reply.Goals as goal

-- the cell that lay under the lock answers so
pub returns-clause-does : goal.returns-clause-does
returns-clause-does g c = (c.deref_mut.result.now.cell, c.reply-answer.ensures.does.0, record { own = search rules; journaled = search rules }, c.reply-answer.ensures.does.1)
