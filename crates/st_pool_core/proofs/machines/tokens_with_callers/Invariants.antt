use Rattle.std.proofs.Common.{◌≡◌, take}
use Rattle.st_pool_core.specs.PoolState.{with_callers_in}
use Rattle.st_pool_core.proofs.machines.tokens_with_callers.Given as goal

-- the tokens so far
abbrev pub invariant-loop-machine : goal.invariant-loop-machine
invariant-loop-machine g l = record { tokens : l.tokens.items ≡ with_callers_in (take l.machine-index l.machines) }
