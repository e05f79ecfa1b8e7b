use Rattle.std.proofs.Common.{◌≡◌, ◌+◌, vec_len}
use Rattle.st_pool.proofs.pool.Pool.stop.Given as goal

-- each thread that was joined gave its worker back
abbrev pub invariant-loop-thread : goal.invariant-loop-thread
invariant-loop-thread g l = vec_len l.self.ended + vec_len l.self.threads ≡ vec_len l.initial.self.ended + vec_len l.initial.self.threads

abbrev pub decreases-loop-thread : goal.decreases-loop-thread
decreases-loop-thread g l = vec_len l.self.threads
