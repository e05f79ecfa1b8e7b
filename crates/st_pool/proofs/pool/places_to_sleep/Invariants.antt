use Rattle.std.proofs.Common.{◌≡◌, vec_len}
use Rattle.st_pool.proofs.pool.places_to_sleep.Given as goal

abbrev pub invariant-loop-made : goal.invariant-loop-made
invariant-loop-made l = vec_len l.parkers ≡ l.made
