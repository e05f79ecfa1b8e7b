use Rattle.st_core.specs.Callbacks.{callbacks_of}
use Rattle.st_cell.specs.Calls.{cut}
use Rattle.st_cell.specs.Cell.{IsJournaled}
use Rattle.st_cell.proofs.CellLemmas.{either_kept, cut_kept}
use Rattle.st_cell.proofs.cell.Cell.take_journal.Goals as goal

-- it stays a cell
pub invariant_of-self : goal.invariant_of-self
invariant_of-self g c = record {
  journaled = either_kept (IsJournaled (callbacks_of g.M.Module g.M.State.PartialEq.eq)) c.take_journal.result c.take_journal.new.self.cell (cut c.self.inside.journaled.cell) c.self.inside.journaled.cell
      c.take_journal.ensures.cut c.take_journal.ensures.unchanged (cut_kept (callbacks_of g.M.Module g.M.State.PartialEq.eq) c.self.inside.journaled.cell c.self.invariant.journaled) c.self.invariant.journaled;
  room = c.take_journal.ensures.room c.self.invariant.room;
}
