use Rattle.std.proofs.Common.{◌≡◌, ℕ, ◌≤◌, false, slice_get, length, Some}
use Rattle.st_events.specs.declared.machine_id.MachineId.{MachineId}
use Rattle.st_directory.specs.DirectoryState.{same_id}
use Rattle.st_directory.proofs.names.place_of.Given as goal

-- from the place on all are others
abbrev pub invariant-loop-place : goal.invariant-loop-place
invariant-loop-place l =
    (l.place ≤ length l.fn.ids) × ((at : ℕ) (other : MachineId) → l.place ≤ at → slice_get l.fn.ids at ≡ Some other → same_id l.fn.id other ≡ false)

abbrev pub decreases-loop-place : goal.decreases-loop-place
decreases-loop-place l = l.place
