use Rattle.st_cell.specs.Calls.{cut}
use Rattle.st_any_cell.specs.AnyCell.{AnyCellState}
use Rattle.st_cell.proofs.CellLemmas.{either_kept}
use Rattle.st_lock_inner.specs.Inner.{IsInner}
use Rattle.st_lock_inner.proofs.InnerLemmas.{inner_cut}
use Rattle.st_lock_inner.proofs.inner.Inner.cut.Goals as goal

-- the journal is empty, or as it was
pub invariant_of-self : goal.invariant_of-self
invariant_of-self g c =
    either_kept (λ (state : AnyCellState _ _ _ _). IsInner (record { cell = state.cell; ends = c.self.inside.ends.items })) c.cut.result c.cut.new.self (record c.self.inside.cell { cell = cut c.self.inside.cell.cell }) c.self.inside.cell
    c.cut.ensures.cut c.cut.ensures.unchanged (inner_cut c.self.inside.cell.cell c.self.inside.ends.items c.self.invariant) c.self.invariant
