-- How many threads a pool has.
use Rattle.std.specs.Prelude.{ℕ, vec_len}
use Rattle.st_pool.specs.declared.pool.Pool.{Pool}

-- the threads that have not been joined
abbrev pub threads_of : {R C : Type 0} → Pool R C → ℕ
threads_of pool = vec_len pool.threads
