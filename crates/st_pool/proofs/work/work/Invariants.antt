use Rattle.std.proofs.Common.{◌≡◌, None}
use Rattle.st_worker.specs.Round.{HoldsWhatCarries, served_at}
use Rattle.st_pool.proofs.ThreadLemmas.{Counts}
use Rattle.st_pool.proofs.work.work.Given as goal

abbrev pub invariant-loop : goal.invariant-loop
invariant-loop g l = Counts (served_at g.G.Gate.moment g.M.Machines.served) l.fn.worker l.turns l.worker
    × (l.worker.transit.woken ≡ None) × HoldsWhatCarries l.worker
