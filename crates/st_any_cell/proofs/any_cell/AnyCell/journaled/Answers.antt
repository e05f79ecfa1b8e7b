use Rattle.std.proofs.Common.{refl}
use Rattle.std.proofs.lemmas.Result.{err_from_is_err_and}
use Rattle.st_any_cell.proofs.any_cell.AnyCell.journaled.Goals as goal

-- it begins as a cell
pub invariant_of-result : goal.invariant_of-result
invariant_of-result g c = record { journaled = rw c.in-Ok.ensures.ok c.a_cell_is_journaled.ensures; kept = refl }

pub returns-in-Ok-clause-begun : goal.returns-in-Ok-clause-begun
returns-in-Ok-clause-begun g c = rw (c.in-Ok.ensures.ok, c.in_ok-cell.ensures.begun) refl

pub returns-in-Ok-clause-token : goal.returns-in-Ok-clause-token
returns-in-Ok-clause-token g c = c.in_ok-cell.ensures.token

pub returns-in-Ok-clause-refusals : goal.returns-in-Ok-clause-refusals
returns-in-Ok-clause-refusals g c = tt

pub returns-in-Ok-clause-returned : goal.returns-in-Ok-clause-returned
returns-in-Ok-clause-returned g c = tt

-- there was no memory for the cell
pub returns-in_err-cell-clause-begun : goal.returns-in_err-cell-clause-begun
returns-in_err-cell-clause-begun g c = rw (err_from_is_err_and c.from_residual.result c.from_residual.ensures.1).1 tt

pub returns-in_err-cell-clause-token : goal.returns-in_err-cell-clause-token
returns-in_err-cell-clause-token g c = rw (err_from_is_err_and c.from_residual.result c.from_residual.ensures.1).1 tt

-- or none for its box
pub returns-in-Err-clause-begun : goal.returns-in-Err-clause-begun
returns-in-Err-clause-begun g c = tt

pub returns-in-Err-clause-token : goal.returns-in-Err-clause-token
returns-in-Err-clause-token g c = tt
