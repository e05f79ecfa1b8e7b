use Rattle.std.proofs.Common.{◌∙◌, refl, ap, length, arith}
use Rattle.std.proofs.lemmas.Result.{err_from_is_err_and}
use Rattle.st_cell.proofs.journaled.Journaled.cut.Goals as goal

-- what stands is the base, and the journal is empty
pub returns-clause-cut : goal.returns-clause-cut
returns-clause-cut g c =
    c.begin.ensures.cell ∙ rw (c.in_ok-base.ensures.base, c.in_ok-base.ensures.journal.0, c.fresh.ensures.same) refl

pub returns-clause-room : goal.returns-clause-room
returns-clause-room g c room runs =
    let journal = ap (λ cell. length cell.journal) c.begin.ensures.cell in
    let items = ap length c.in_ok-base.ensures.journal.0 in
    omega (arith, journal, items, c.in_ok-base.ensures.journal.1, c.begin.ensures.places)

pub returns-clause-refusals : goal.returns-clause-refusals
returns-clause-refusals g c = tt

pub returns-clause-unchanged : goal.returns-clause-unchanged
returns-clause-unchanged g c = tt

-- there was no memory for them
pub returns-in_err-base-clause-cut : goal.returns-in_err-base-clause-cut
returns-in_err-base-clause-cut g c = rw (err_from_is_err_and c.from_residual.result c.from_residual.ensures.1).1 tt

pub returns-in_err-base-clause-room : goal.returns-in_err-base-clause-room
returns-in_err-base-clause-room g c room = rw c.fresh.ensures.same room

pub returns-in_err-base-clause-unchanged : goal.returns-in_err-base-clause-unchanged
returns-in_err-base-clause-unchanged g c =
    rw (err_from_is_err_and c.from_residual.result c.from_residual.ensures.1).1 (ap (λ held. held.cell) c.fresh.ensures.same)
