use Rattle.std.proofs.Common.{subst}
use Rattle.st_core.specs.Callbacks.{callbacks_of}
use Rattle.st_cell.specs.Cell.{IsJournaled}
use Rattle.st_any_cell.specs.AnyCell.{AnyCellState}
use Rattle.st_any_cell.proofs.FormLemmas.{far_below}
use Rattle.st_any_cell.proofs.any_cell.any_cell_is_journaled.Goals as goal

-- it is its invariant
pub returns-clause-journaled : goal.returns-clause-journaled
returns-clause-journaled g c = subst (λ (state : AnyCellState _ _ _ _). IsJournaled (callbacks_of g.M.Module g.M.State.PartialEq.eq) state.cell) c.cell.view_is c.cell.invariant.journaled

pub returns-clause-limited : goal.returns-clause-limited
returns-clause-limited g c port within =
    far_below (callbacks_of g.M.Module g.M.State.PartialEq.eq) port c.args.cell.now.cell
    (subst (λ (state : AnyCellState _ _ _ _). IsJournaled (callbacks_of g.M.Module g.M.State.PartialEq.eq) state.cell) c.cell.view_is c.cell.invariant.journaled) within

pub returns-clause-others : goal.returns-clause-others
returns-clause-others g c port beyond =
    (subst (λ (state : AnyCellState _ _ _ _). IsJournaled (callbacks_of g.M.Module g.M.State.PartialEq.eq) state.cell) c.cell.view_is c.cell.invariant.journaled).counted.others port beyond
