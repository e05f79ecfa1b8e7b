use Rattle.std.proofs.Common.{◌≡◌}
use Rattle.std.specs.Prelude.{IfOk}
use Rattle.st_cell.specs.Calls.{look_of}
use Rattle.st_cell.specs.Cell.{IsOpen}
use Rattle.st_any_cell.proofs.FormLemmas.{in_journaled, in_unjournaled, of_journaled, of_unjournaled}
use Rattle.st_any_cell.proofs.any_cell.AnyCell.look.Goals as goal

-- the port is open in the form at hand
pub look-requires : goal.look-requires
look-requires g c =
    in_journaled (λ cell. IsOpen c.args.port cell) c.self.inside.form c.in-Journaled.cell c.deref.result.now c.args.self.now
    c.in-Journaled.is c.deref.ensures c.self.view_is c.requires

pub look-requires-in-Unjournaled : goal.look-requires-in-Unjournaled
look-requires-in-Unjournaled g c =
    in_unjournaled (λ cell. IsOpen c.args.port cell) c.self.inside.form c.in-Unjournaled.bare c.args.self.now c.in-Unjournaled.is c.self.view_is c.requires

-- it is what is seen of it
pub returns-in-Journaled-clause-look : goal.returns-in-Journaled-clause-look
returns-in-Journaled-clause-look g c =
    of_journaled (λ cell. IfOk c.look.result (λ look. look ≡ look_of c.args.port cell)) c.self.inside.form c.in-Journaled.cell c.deref.result.now c.args.self.now
    c.in-Journaled.is c.deref.ensures c.self.view_is c.look.ensures.look

pub returns-in-Unjournaled-clause-look : goal.returns-in-Unjournaled-clause-look
returns-in-Unjournaled-clause-look g c =
    of_unjournaled (λ cell. IfOk c.look-in-Unjournaled.result (λ look. look ≡ look_of c.args.port cell)) c.self.inside.form c.in-Unjournaled.bare c.args.self.now
    c.in-Unjournaled.is c.self.view_is c.look-in-Unjournaled.ensures.look

pub returns-in-Journaled-clause-refusals : goal.returns-in-Journaled-clause-refusals
returns-in-Journaled-clause-refusals g c = c.look.ensures.refusals

pub returns-in-Unjournaled-clause-refusals : goal.returns-in-Unjournaled-clause-refusals
returns-in-Unjournaled-clause-refusals g c = c.look-in-Unjournaled.ensures.refusals
