use Rattle.std.specs.Prelude.{IfOk}
use Rattle.st_cell.specs.Calls.{IsJournalOf}
use Rattle.st_any_cell.proofs.FormLemmas.{of_journaled, of_unjournaled}
use Rattle.st_any_cell.proofs.any_cell.AnyCell.journal.Goals as goal

-- it is the journal of the form at hand
pub returns-in-Journaled-clause-journal : goal.returns-in-Journaled-clause-journal
returns-in-Journaled-clause-journal g c =
    of_journaled (λ cell. IfOk c.journal.result (λ journal. IsJournalOf cell c.args.label.now journal)) c.self.inside.form c.in-Journaled.cell c.deref.result.now c.args.self.now
    c.in-Journaled.is c.deref.ensures c.self.view_is c.journal.ensures.journal

pub returns-in-Journaled-clause-refusals : goal.returns-in-Journaled-clause-refusals
returns-in-Journaled-clause-refusals g c = c.journal.ensures.refusals

pub returns-in-Unjournaled-clause-journal : goal.returns-in-Unjournaled-clause-journal
returns-in-Unjournaled-clause-journal g c =
    of_unjournaled (λ cell. IfOk c.journal-in-Unjournaled.result (λ journal. IsJournalOf cell c.args.label.now journal)) c.self.inside.form c.in-Unjournaled.bare c.args.self.now c.in-Unjournaled.is c.self.view_is
    c.journal-in-Unjournaled.ensures.journal

pub returns-in-Unjournaled-clause-refusals : goal.returns-in-Unjournaled-clause-refusals
returns-in-Unjournaled-clause-refusals g c = c.journal-in-Unjournaled.ensures.refusals
