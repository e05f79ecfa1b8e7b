use Rattle.std.proofs.Common.{◌≡◌, length, All}
use Rattle.st_runq.specs.Seats.{IsReady}
use Rattle.st_runq.proofs.seats.without_thieves.Given as goal

-- those that are made are ready
abbrev pub invariant-loop-number : goal.invariant-loop-number
invariant-loop-number l = (length l.all.items ≡ l._number) × All (IsReady l.inlet) l.all.items
