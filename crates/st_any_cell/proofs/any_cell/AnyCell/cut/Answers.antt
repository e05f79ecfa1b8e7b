use Rattle.st_core.specs.Callbacks.{callbacks_of}
use Rattle.st_cell.specs.Calls.{cut}
use Rattle.st_cell.specs.Cell.{IsJournaled}
use Rattle.st_cell.proofs.CellLemmas.{cut_kept, either_kept}
use Rattle.st_any_cell.proofs.FormLemmas.{journaled_kept, was_journaled}
use Rattle.st_any_cell.proofs.any_cell.AnyCell.cut.Goals as goal
use Rattle.st_any_cell.proofs.any_cell.AnyCell.cut.Goals.{in-Journaled, in-Unjournaled}

-- it stays a cell
pub invariant_of-self : goal.invariant_of-self
invariant_of-self g c = elim c.match-self.branch [
  | in-Journaled w ↦ journaled_kept (callbacks_of g.M.Module g.M.State.PartialEq.eq) c.match-self.self-inside w.in-Journaled.cell w.cut.new.self w.self-inside-is
      (either_kept (IsJournaled (callbacks_of g.M.Module g.M.State.PartialEq.eq)) w.cut.result w.cut.new.self (cut w.deref_mut.result.now) w.deref_mut.result.now w.cut.ensures.cut w.cut.ensures.unchanged
      (cut_kept (callbacks_of g.M.Module g.M.State.PartialEq.eq) w.deref_mut.result.now (was_journaled (callbacks_of g.M.Module g.M.State.PartialEq.eq) c.self.inside.form w.in-Journaled.cell w.deref_mut.result.now w.in-Journaled.is w.deref_mut.ensures.value c.self.invariant))
      (was_journaled (callbacks_of g.M.Module g.M.State.PartialEq.eq) c.self.inside.form w.in-Journaled.cell w.deref_mut.result.now w.in-Journaled.is w.deref_mut.ensures.value c.self.invariant))
  | in-Unjournaled w ↦ rw w.self-inside-is c.self.invariant
]
