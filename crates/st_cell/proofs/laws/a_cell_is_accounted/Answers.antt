use Rattle.st_core.specs.Callbacks.{callbacks_of}
use Rattle.st_cell.proofs.CellLemmas.{replay_accounted}
use Rattle.st_cell.proofs.laws.a_cell_is_accounted.Goals as goal

pub returns : goal.returns
returns g c = rw (← c.cell.view_is) (replay_accounted (callbacks_of g.M.Module g.M.State.PartialEq.eq) c.cell.inside.journaled.cell c.cell.invariant.journaled)
