use Rattle.std.proofs.Common.{refl, ap, ◌∙◌}
use Rattle.std.proofs.lemmas.Result.{err_from_is_err_and}
use Rattle.st_cell.proofs.journaled.Journaled.journal.Goals as goal

-- it is the cell's, with this label
pub returns-clause-journal : goal.returns-clause-journal
returns-clause-journal g c = rw (← c.self.view_is) (record {
  id = c.id.ensures ∙ ap (λ core. core.machine.id) c.core-core.ensures;
  labelled = c.in_ok-label.ensures.ok;
  from = refl;
  entries = c.in_ok-entries.ensures ∙ c.deref.ensures.value;
})

pub returns-clause-refusals : goal.returns-clause-refusals
returns-clause-refusals g c = tt

-- there was no memory for the entries
pub returns-in_err-entries-clause-journal : goal.returns-in_err-entries-clause-journal
returns-in_err-entries-clause-journal g c = rw (err_from_is_err_and c.from_residual.result c.from_residual.ensures.1).1 tt

-- or none for the label
pub returns-in_err-label-clause-journal : goal.returns-in_err-label-clause-journal
returns-in_err-label-clause-journal g c = rw (err_from_is_err_and c.from_residual-in_err-label.result c.from_residual-in_err-label.ensures.1).1 tt
