use Rattle.std.proofs.Common.{ap, ◌∙◌}
use Rattle.std.proofs.lemmas.Result.{err_from_is_err_and}
use Rattle.st_any_cell.proofs.bare.Bare.journal.Goals as goal

-- it is the machine's, with this label, and has no entry
pub returns-clause-journal : goal.returns-clause-journal
returns-clause-journal g c = record {
  id = c.id.ensures ∙ ap (λ core. core.machine.id) c.core-core.ensures;
  labelled = c.in_ok-label.ensures.ok;
  from = c.latest.ensures.latest ∙ ap (λ core. core.machine.latest) c.core-core.ensures;
  entries = c.from.ensures ∙ c.new.ensures.items;
}

pub returns-clause-refusals : goal.returns-clause-refusals
returns-clause-refusals g c = tt

-- there was no memory for the label
pub returns-in_err-label-clause-journal : goal.returns-in_err-label-clause-journal
returns-in_err-label-clause-journal g c = rw (err_from_is_err_and c.from_residual.result c.from_residual.ensures.1).1 tt
