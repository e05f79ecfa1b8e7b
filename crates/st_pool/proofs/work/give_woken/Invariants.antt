use Rattle.st_worker.specs.Round.{StaysSame}
use Rattle.st_pool.proofs.work.give_woken.Given as goal

-- as long as it was refused, nothing has changed
abbrev pub invariant-loop : goal.invariant-loop
invariant-loop g l = StaysSame l.initial.worker l.worker
