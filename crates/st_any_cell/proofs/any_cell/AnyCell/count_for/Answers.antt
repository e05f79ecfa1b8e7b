use Rattle.std.proofs.Common.{◌≡◌}
use Rattle.st_cell.specs.Cell.{IsOpen, count_for}
use Rattle.st_any_cell.proofs.FormLemmas.{in_journaled, in_unjournaled, of_journaled, of_unjournaled}
use Rattle.st_any_cell.proofs.any_cell.AnyCell.count_for.Goals as goal

-- the port is open in the form at hand
pub count_for-requires : goal.count_for-requires
count_for-requires g c =
    in_journaled (λ cell. IsOpen c.args.port cell) c.self.inside.form c.in-Journaled.cell c.deref.result.now c.args.self.now
    c.in-Journaled.is c.deref.ensures c.self.view_is c.requires

pub count_for-requires-in-Unjournaled : goal.count_for-requires-in-Unjournaled
count_for-requires-in-Unjournaled g c =
    in_unjournaled (λ cell. IsOpen c.args.port cell) c.self.inside.form c.in-Unjournaled.bare c.args.self.now c.in-Unjournaled.is c.self.view_is c.requires

-- it is its count there
pub returns-in-Journaled : goal.returns-in-Journaled
returns-in-Journaled g c =
    of_journaled (λ cell. c.count_for.result ≡ count_for c.args.port cell) c.self.inside.form c.in-Journaled.cell c.deref.result.now c.args.self.now
    c.in-Journaled.is c.deref.ensures c.self.view_is c.count_for.ensures

pub returns-in-Unjournaled : goal.returns-in-Unjournaled
returns-in-Unjournaled g c =
    of_unjournaled (λ cell. c.count_for-in-Unjournaled.result ≡ count_for c.args.port cell) c.self.inside.form c.in-Unjournaled.bare c.args.self.now
    c.in-Unjournaled.is c.self.view_is c.count_for-in-Unjournaled.ensures
