use Rattle.std.proofs.Common.{◌∙◌, refl, ap, length, arith}
use Rattle.std.proofs.lemmas.Result.{err_from_is_err_and}
use Rattle.st_cell.proofs.journaled.Journaled.take_journal.Goals as goal

-- the journal is the one that was there
pub returns-clause-journal : goal.returns-clause-journal
returns-clause-journal g c = record {
  id = c.id-id.ensures ∙ (ap (λ core. core.machine.id) c.core.ensures ∙ ap (λ held. held.cell.scheduled.core.machine.id) c.self.view_is);
  labelled = c.in_ok-label.ensures.ok;
  from = ap (λ held. held.cell.base.latest) c.self.view_is;
  entries = c.from.ensures ∙ (c.begin-entries.ensures.entries ∙ ap (λ held. held.cell.journal) c.fresh.ensures.same);
}

-- the machine as it is is the base, and the journal is empty
pub returns-clause-cut : goal.returns-clause-cut
returns-clause-cut g c =
    c.begin-entries.ensures.cell
    ∙ rw (c.in_ok-snapshot.ensures.base, c.in_ok-snapshot.ensures.journal.0, c.fresh.ensures.same) refl

pub returns-clause-room : goal.returns-clause-room
returns-clause-room g c room runs =
    let journal = ap (λ cell. length cell.journal) c.begin-entries.ensures.cell in
    let items = ap length c.in_ok-snapshot.ensures.journal.0 in
    omega (arith, journal, items, c.in_ok-snapshot.ensures.journal.1, c.begin-entries.ensures.places)

pub returns-clause-refusals : goal.returns-clause-refusals
returns-clause-refusals g c = tt

pub returns-clause-unchanged : goal.returns-clause-unchanged
returns-clause-unchanged g c = tt

-- there was no memory for the label
pub returns-in_err-label-clause-journal : goal.returns-in_err-label-clause-journal
returns-in_err-label-clause-journal g c = rw (err_from_is_err_and c.from_residual.result c.from_residual.ensures.1).1 tt

pub returns-in_err-label-clause-cut : goal.returns-in_err-label-clause-cut
returns-in_err-label-clause-cut g c = rw (err_from_is_err_and c.from_residual.result c.from_residual.ensures.1).1 tt

-- or none for base and journal
pub returns-in_err-snapshot-clause-journal : goal.returns-in_err-snapshot-clause-journal
returns-in_err-snapshot-clause-journal g c = rw (err_from_is_err_and c.from_residual-in_err-snapshot.result c.from_residual-in_err-snapshot.ensures.1).1 tt

pub returns-in_err-snapshot-clause-cut : goal.returns-in_err-snapshot-clause-cut
returns-in_err-snapshot-clause-cut g c = rw (err_from_is_err_and c.from_residual-in_err-snapshot.result c.from_residual-in_err-snapshot.ensures.1).1 tt

pub returns-in_err-snapshot-clause-room : goal.returns-in_err-snapshot-clause-room
returns-in_err-snapshot-clause-room g c room = rw c.fresh.ensures.same room

pub returns-in_err-snapshot-clause-unchanged : goal.returns-in_err-snapshot-clause-unchanged
returns-in_err-snapshot-clause-unchanged g c =
    rw (err_from_is_err_and c.from_residual-in_err-snapshot.result c.from_residual-in_err-snapshot.ensures.1).1 (ap (λ held. held.cell) c.fresh.ensures.same)
