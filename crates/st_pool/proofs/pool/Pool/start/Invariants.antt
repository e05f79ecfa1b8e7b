use Rattle.std.proofs.Common.{◌≡◌, ◌+◌, vec_len}
use Rattle.st_pool.proofs.pool.Pool.start.Given as goal

abbrev pub invariant-loop-started : goal.invariant-loop-started
invariant-loop-started g l = (vec_len l.pool.threads ≡ l.started) × (vec_len l.seats + l.started ≡ l.workers) × (vec_len l.parkers + l.started ≡ l.workers)
