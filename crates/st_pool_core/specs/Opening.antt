-- A pool as it begins.
use Rattle.std.specs.Prelude.{◌≡◌, ◌⊎◌, ℕ, zero, suc, Bool, true, false, ◌&&◌, nat_lt, None, List, [], ◌∷◌, map, replicate, All}
use Rattle.st_events.specs.declared.refusal.Refusal.{Refusal}
use Rattle.st_events.specs.declared.refusal.Refusal.TheVariants.{NoMemory, NotPossible}
use Rattle.st_events.specs.declared.machine_id.MachineId.{MachineId}
use Rattle.st_outbox.specs.Outbox.{AreFrom}
use Rattle.st_core.specs.MachineState.{Machine}
use Rattle.st_pool_core.specs.PoolState.{PoolState, OneEach}
use Rattle.st_pool_core.specs.Queues.{WorkerState}
use Rattle.st_scheduled.specs.Serving.{scheduled_at_first}

-- so many workers, with empty run queues and empty hands
abbrev pub idle_workers : ℕ → List WorkerState
idle_workers zero = []
idle_workers (suc count) = record { queue = []; hand = None } ∷ idle_workers count

-- the id of a machine
abbrev pub core_id : {M S D C : Type 0} → Machine M S D C → MachineId
core_id core = core.machine.id

-- a machine's outbox has its own messages alone
abbrev pub HasItsOwn : {M S D C : Type 0} → Machine M S D C → Type 0
HasItsOwn core = AreFrom core.machine.id core.machine.outbox.messages

-- a pool may have 1 to 16 workers
abbrev pub may_have : ℕ → Bool
may_have workers = nat_lt 0 workers && nat_lt workers 17

-- why a pool is not opened: for want of memory; or there may not be so many workers, or two machines have one id
abbrev pub IsWhyNotOpened : {M S D C : Type 0} → ℕ → List (Machine M S D C) → Refusal → Type 0
IsWhyNotOpened workers cores NoMemory = Unit {0}
IsWhyNotOpened workers cores NotPossible = (may_have workers ≡ false) ⊎ (OneEach (map scheduled_at_first cores) → ⊥)
IsWhyNotOpened workers cores _ = ⊥

-- a pool of so many workers and these machines: each machine that has work has been issued a token, which callers have
abbrev pub opened : {M S D C : Type 0} → ℕ → List (Machine M S D C) → PoolState M S D C
opened workers cores = record {
  machines = map scheduled_at_first cores;
  queues = record { shared = []; workers = idle_workers workers };
  transit = replicate workers None;
}

-- why a pool of so many workers and these machines is not opened
pub record IsWhyNone {M S D C : Type 0} (workers : ℕ) (cores : List (Machine M S D C)) (refusal : Refusal) : Type 0 where
  pub why : IsWhyNotOpened workers cores refusal

-- a pool of so many workers and these machines was opened: each has one id of its own, and its own messages alone
pub record Opens {M S D C : Type 0} (workers : ℕ) (cores : List (Machine M S D C)) (pool : PoolState M S D C) : Type 0 where
  pub is : pool ≡ opened workers cores
  pub possible : may_have workers ≡ true
  pub each : OneEach (map scheduled_at_first cores)
  pub own : All HasItsOwn cores
