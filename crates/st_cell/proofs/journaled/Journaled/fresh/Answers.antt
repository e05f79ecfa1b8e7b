use Rattle.std.proofs.Common.{ap, ◌∙◌}
use Rattle.std.proofs.lemmas.Result.{err_from_is_err_and}
use Rattle.st_cell.proofs.journaled.Journaled.fresh.Goals as goal

-- the base is the machine as it is, and the journal is empty
pub returns-clause-base : goal.returns-clause-base
returns-clause-base g c = c.in_ok-base.ensures.snapshot ∙ ap (λ held. held.cell.scheduled.core.machine) c.self.view_is

pub returns-clause-journal : goal.returns-clause-journal
returns-clause-journal g c = (c.in_ok-journal.ensures.items, c.in_ok-journal.ensures.capacity)

pub returns-clause-same : goal.returns-clause-same
returns-clause-same g c = rw c.snapshot.ensures.unchanged c.self.view_is

pub returns-clause-refusals : goal.returns-clause-refusals
returns-clause-refusals g c = tt

-- there was no memory for the journal
pub returns-in_err-journal-clause-base : goal.returns-in_err-journal-clause-base
returns-in_err-journal-clause-base g c = rw (err_from_is_err_and c.from_residual.result c.from_residual.ensures.1).1 tt

pub returns-in_err-journal-clause-journal : goal.returns-in_err-journal-clause-journal
returns-in_err-journal-clause-journal g c = rw (err_from_is_err_and c.from_residual.result c.from_residual.ensures.1).1 tt

-- or none for the base
pub returns-in_err-base-clause-base : goal.returns-in_err-base-clause-base
returns-in_err-base-clause-base g c = rw (err_from_is_err_and c.from_residual-in_err-base.result c.from_residual-in_err-base.ensures.1).1 tt

pub returns-in_err-base-clause-journal : goal.returns-in_err-base-clause-journal
returns-in_err-base-clause-journal g c = rw (err_from_is_err_and c.from_residual-in_err-base.result c.from_residual-in_err-base.ensures.1).1 tt

pub returns-in_err-base-clause-same : goal.returns-in_err-base-clause-same
returns-in_err-base-clause-same g c = rw c.snapshot.ensures.unchanged c.self.view_is
