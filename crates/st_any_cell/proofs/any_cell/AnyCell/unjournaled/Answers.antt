use Rattle.std.proofs.Common.{refl}
use Rattle.st_core.specs.Callbacks.{callbacks_of}
use Rattle.st_cell.proofs.CellLemmas.{first_kept}
use Rattle.st_any_cell.proofs.any_cell.AnyCell.unjournaled.Goals as goal

-- it begins as a cell
pub invariant_of-result : goal.invariant_of-result
invariant_of-result g c = record {
  journaled = rw c.new-bare.ensures.begun (first_kept (callbacks_of g.M.Module g.M.State.PartialEq.eq) c.args.core c.new-bare.ensures.lawful);
  kept = refl;
}
