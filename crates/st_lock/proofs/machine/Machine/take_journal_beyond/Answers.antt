use Rattle.std.proofs.Common.{rules}
use Rattle.st_lock.proofs.machine.Machine.take_journal_beyond.Goals as goal

-- the journal of the cell that lay under the lock is short
pub returns-then-not-is_long-clause-taken : goal.returns-then-not-is_long-clause-taken
returns-then-not-is_long-clause-taken g c = (c.deref-2.result.now.cell, record { own = search rules; journaled = search rules }, search rules)

-- or it is the one that is handed out
pub returns-in-Ok-clause-taken : goal.returns-in-Ok-clause-taken
returns-in-Ok-clause-taken g c = (c.deref_mut.result.now.cell, record { own = search rules; journaled = search rules }, search rules, c.in-Ok.ensures.journal)
