use Rattle.std.proofs.Common.{◌≡◌, ◌↔◌, true}
use Rattle.st_cell.specs.Cell.{IsOpen}
use Rattle.st_any_cell.proofs.FormLemmas.{of_journaled}
use Rattle.st_any_cell.proofs.any_cell.AnyCell.is_open.Goals as goal

-- it is what the cell says
pub returns-in-Journaled : goal.returns-in-Journaled
returns-in-Journaled g c =
    of_journaled (λ cell. c.is_open.result ≡ true ↔ IsOpen c.args.port cell) c.self.inside.form c.in-Journaled.cell c.deref.result.now c.args.self.now
    c.in-Journaled.is c.deref.ensures c.self.view_is c.is_open.ensures
