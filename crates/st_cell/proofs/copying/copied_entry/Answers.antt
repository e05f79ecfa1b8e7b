use Rattle.std.proofs.Common.{refl}
use Rattle.st_cell.proofs.copying.copied_entry.Goals as goal

-- command and answer are copies
pub returns : goal.returns
returns g c = rw (c.in_ok-command.ensures, c.in_ok-answer.ensures) refl
