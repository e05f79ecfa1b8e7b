use Rattle.std.proofs.Common.{◌≡◌}
use Rattle.st_service.proofs.service.Service.gather.Given as goal

-- the threads are as they were
abbrev pub invariant-loop-slot : goal.invariant-loop-slot
invariant-loop-slot g l = l.self.pool ≡ l.initial.self.pool
