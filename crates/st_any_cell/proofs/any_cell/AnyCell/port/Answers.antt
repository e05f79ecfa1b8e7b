use Rattle.st_core.specs.Callbacks.{callbacks_of}
use Rattle.st_cell.specs.Calls.{opened}
use Rattle.st_cell.specs.Cell.{IsJournaled}
use Rattle.st_cell.proofs.CellLemmas.{either_kept, opened_kept}
use Rattle.st_any_cell.specs.AnyCell.{bare_cell}
use Rattle.st_any_cell.proofs.FormLemmas.{journaled_kept, unjournaled_kept, was_journaled, was_unjournaled}
use Rattle.st_any_cell.proofs.any_cell.AnyCell.port.Goals as goal
use Rattle.st_any_cell.proofs.any_cell.AnyCell.port.Goals.{in-Journaled, in-Unjournaled}

-- it stays a cell
pub invariant_of-self : goal.invariant_of-self
invariant_of-self g c = elim c.match-self.branch [
  | in-Journaled w ↦ journaled_kept (callbacks_of g.M.Module g.M.State.PartialEq.eq) c.match-self.self-inside w.in-Journaled.cell w.port.new.self w.self-inside-is
      (either_kept (IsJournaled (callbacks_of g.M.Module g.M.State.PartialEq.eq)) w.port.result w.port.new.self ((opened w.deref_mut.result.now).1) w.deref_mut.result.now w.port.ensures.opened w.port.ensures.unchanged
      (opened_kept (callbacks_of g.M.Module g.M.State.PartialEq.eq) w.deref_mut.result.now (was_journaled (callbacks_of g.M.Module g.M.State.PartialEq.eq) c.self.inside.form w.in-Journaled.cell w.deref_mut.result.now w.in-Journaled.is w.deref_mut.ensures.value c.self.invariant))
      (was_journaled (callbacks_of g.M.Module g.M.State.PartialEq.eq) c.self.inside.form w.in-Journaled.cell w.deref_mut.result.now w.in-Journaled.is w.deref_mut.ensures.value c.self.invariant))
  | in-Unjournaled w ↦ unjournaled_kept (callbacks_of g.M.Module g.M.State.PartialEq.eq) c.match-self.self-inside w.port-in-Unjournaled.new.self w.self-inside-is
      (either_kept (IsJournaled (callbacks_of g.M.Module g.M.State.PartialEq.eq)) w.port-in-Unjournaled.result (bare_cell w.port-in-Unjournaled.new.self) ((opened (bare_cell w.in-Unjournaled.bare)).1) (bare_cell w.in-Unjournaled.bare) w.port-in-Unjournaled.ensures.opened w.port-in-Unjournaled.ensures.unchanged
      (opened_kept (callbacks_of g.M.Module g.M.State.PartialEq.eq) (bare_cell w.in-Unjournaled.bare) (was_unjournaled (callbacks_of g.M.Module g.M.State.PartialEq.eq) c.self.inside.form w.in-Unjournaled.bare w.in-Unjournaled.is c.self.invariant))
      (was_unjournaled (callbacks_of g.M.Module g.M.State.PartialEq.eq) c.self.inside.form w.in-Unjournaled.bare w.in-Unjournaled.is c.self.invariant))
]
