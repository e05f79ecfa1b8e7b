use Rattle.std.proofs.Common.{◌≡◌, length, All}
use Rattle.st_runq.specs.Seats.{IsReady, EachRobsOthers}
use Rattle.st_runq.proofs.seats.Seats.for_workers.Given as goal

-- all are ready, and those to which the loop has come have their thieves
abbrev pub invariant-loop-own : goal.invariant-loop-own
invariant-loop-own l = (length l.all.items ≡ l.count) × All (IsReady l.inlet) l.all.items × EachRobsOthers l.own l.all.items
