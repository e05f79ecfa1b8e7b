use Rattle.std.proofs.Common.{refl}
use Rattle.st_cell.proofs.copying.copied_report.Goals as goal

-- each part is a copy
pub returns : goal.returns
returns g c = rw (c.in_ok-calls.ensures, c.in_ok-replied.ensures, c.in_ok-inserted.ensures, c.in_ok-set.ensures, c.in_ok-sent.ensures) refl
