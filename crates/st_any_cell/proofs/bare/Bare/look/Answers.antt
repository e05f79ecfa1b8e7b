use Rattle.std.proofs.Common.{refl}
use Rattle.std.proofs.lemmas.Result.{err_from_is_err_and}
use Rattle.st_any_cell.proofs.bare.Bare.look.Goals as goal

-- each field is read off the machine, and there are no numbers
pub returns-clause-look : goal.returns-clause-look
returns-clause-look g c =
    rw (
      c.state.ensures,
      c.in_ok-held.ensures,
      c.waiting.ensures,
      c.count.ensures,
      c.count_for.ensures,
      c.ended.ensures,
      c.data.ensures,
      c.core-core.ensures,
      c.from.ensures,
      c.new.ensures.items,
    ) refl

pub returns-clause-refusals : goal.returns-clause-refusals
returns-clause-refusals g c = tt

-- there was no memory for the data
pub returns-in_err-held-clause-look : goal.returns-in_err-held-clause-look
returns-in_err-held-clause-look g c = rw (err_from_is_err_and c.from_residual.result c.from_residual.ensures.1).1 tt
