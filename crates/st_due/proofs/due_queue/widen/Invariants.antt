use Rattle.std.proofs.Common.{◌≡◌, ◌≤◌, length}
use Rattle.st_due.proofs.PlacesLemmas.{AreSoFar}
use Rattle.st_due.proofs.due_queue.widen.Given as goal

-- the machines so far are at their places
abbrev pub invariant-loop-place : goal.invariant-loop-place
invariant-loop-place l = record {
  long : length l.wider ≡ l.more;
  end : l.place-end ≡ length l.moments.entries;
  within : l.place ≤ l.place-end;
  so_far : AreSoFar l.moments.entries l.wider l.place;
}
