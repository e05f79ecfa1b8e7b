use Rattle.std.proofs.Common.{◌≡◌, length, refl}
use Rattle.st_any_cell.proofs.FormLemmas.{of_unjournaled}
use Rattle.st_any_cell.proofs.any_cell.AnyCell.entries.Goals as goal

-- they are those of the cell
pub returns-in-Journaled : goal.returns-in-Journaled
returns-in-Journaled g c = rw (c.entries.ensures, c.deref.ensures, ← c.self.view_is, c.in-Journaled.is) refl

-- or there are none
pub returns-in-Unjournaled : goal.returns-in-Unjournaled
returns-in-Unjournaled g c =
    of_unjournaled (λ cell. 0 ≡ length cell.journal) c.self.inside.form c.in-Unjournaled.field-0 c.args.self.now c.in-Unjournaled.is c.self.view_is refl
