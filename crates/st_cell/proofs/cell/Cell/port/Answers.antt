use Rattle.st_core.specs.Callbacks.{callbacks_of}
use Rattle.st_cell.specs.Calls.{opened}
use Rattle.st_cell.specs.Cell.{IsJournaled}
use Rattle.st_cell.proofs.CellLemmas.{either_kept, opened_kept}
use Rattle.st_cell.proofs.cell.Cell.port.Goals as goal

-- it stays a cell
pub invariant_of-self : goal.invariant_of-self
invariant_of-self g c = record {
  journaled = either_kept (IsJournaled (callbacks_of g.M.Module g.M.State.PartialEq.eq)) c.port.result c.port.new.self.cell ((opened c.self.inside.journaled.cell).1) c.self.inside.journaled.cell
      c.port.ensures.opened c.port.ensures.unchanged (opened_kept (callbacks_of g.M.Module g.M.State.PartialEq.eq) c.self.inside.journaled.cell c.self.invariant.journaled) c.self.invariant.journaled;
  room = c.port.ensures.room c.self.invariant.room;
}
