-- When a pool with a ticker has ended.
use Rattle.std.specs.Prelude.{◌≡◌, None}
use Rattle.st_pool.specs.Pool.{threads_of}
use Rattle.st_ticker.specs.declared.ticked_pool.TickedPool.{TickedPool}

-- the ticker's thread and those of the workers were joined
abbrev pub HasEnded : {R C T : Type 0} → TickedPool R C T → Type 0
HasEnded ticked = (ticked.thread.thread ≡ None) × (threads_of ticked.pool ≡ 0)
