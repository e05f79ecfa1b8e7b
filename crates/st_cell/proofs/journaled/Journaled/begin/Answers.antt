use Rattle.std.proofs.Common.{◌∙◌, ap}
use Rattle.std.specs.Vec.{vec_capacity}
use Rattle.st_cell.proofs.journaled.Journaled.begin.Goals as goal

-- base and journal are those that were handed in
pub returns-clause-cell : goal.returns-clause-cell
returns-clause-cell g c =
    rw c.replace.ensures.after (ap (λ held. record held.cell { base = c.args.base; journal = c.args.journal.items }) c.self.view_is)

pub returns-clause-places : goal.returns-clause-places
returns-clause-places g c = ap vec_capacity c.replace.ensures.after

-- the entries are those that were there
pub returns-clause-entries : goal.returns-clause-entries
returns-clause-entries g c = ap (λ vec. vec.items) c.replace.ensures.value ∙ ap (λ held. held.cell.journal) c.self.view_is
