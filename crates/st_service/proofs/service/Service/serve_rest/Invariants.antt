use Rattle.std.proofs.Common.{◌≡◌}
use Rattle.st_service.proofs.service.Service.serve_rest.Given as goal

-- the threads are as they were
abbrev pub invariant-loop : goal.invariant-loop
invariant-loop g l = (goal.iterator-loop g).can_next l.iterator' × (goal.iterator-loop g).is_finite l.iterator' × (l.self.pool ≡ l.initial.self.pool)
