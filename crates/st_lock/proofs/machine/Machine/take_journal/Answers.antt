use Rattle.std.proofs.Common.{rules}
use Rattle.st_core.specs.Callbacks.{callbacks_of}
use Rattle.st_lock.specs.Machines.{id_of}
use Rattle.st_lock.proofs.PortLemmas.{journal_at}
use Rattle.st_lock.proofs.machine.Machine.take_journal.Goals as goal

-- the cell that lay under the lock is the one whose journal is handed out
pub returns-clause-journal : goal.returns-clause-journal
returns-clause-journal g c =
    journal_at (callbacks_of g.M.Module g.M.State.PartialEq.eq) c.deref_mut.result.now.cell (id_of c.args.self.now) c.args.label.now c.take_journal-answer.result
    c.take_journal-answer.ensures.journal (record { own = search rules; journaled = search rules })
