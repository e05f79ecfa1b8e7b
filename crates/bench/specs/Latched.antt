-- What the module of the latch does with each press.
use Rattle.std.specs.Prelude.{ℕ, true, List, [], ◌∷◌, nat_eq, ◌&&◌, if◌then◌else◌}
use Rattle.st_events.specs.declared.action.Action.{Action}
use Rattle.st_events.specs.declared.action.Action.TheVariants as action
use Rattle.st_events.specs.declared.outcome.Outcome.{Outcome}
use Rattle.st_events.specs.declared.outcome.Outcome.TheVariants as outcome
use Rattle.st_events.specs.declared.time.Time.TheVariants as time
use Rattle.st_events.specs.declared.timer.Timer.TheVariants as timer
use Rattle.bench.specs.declared.latch.Leaf.{Leaf}
use Rattle.bench.specs.declared.latch.Leaf.TheVariants as leaf
use Rattle.bench.specs.declared.latch.Press.{Press}
use Rattle.bench.specs.declared.latch.Press.TheVariants as press

-- the digits are forgotten after 30 seconds without a press
abbrev pub forgotten_later : List (Action Press)
forgotten_later = action.Set timer.Event (time.After 30000) press.Expired ∷ []

-- the open leaf locks itself after 10 seconds
abbrev pub locked_later : List (Action Press)
locked_later = action.Set timer.State (time.After 10000) press.Expired ∷ []

-- a button of a locked leaf, after so many right digits of the code 1 2
abbrev pub pressed : ℕ → ℕ → Outcome Leaf ℕ Press
pressed digit right =
    if nat_eq digit 1 && nat_eq right 0 then outcome.KeepState 1 forgotten_later
    else if nat_eq digit 2 && nat_eq right 1 then outcome.NextState leaf.Open 0 locked_later
    else outcome.KeepState 0 forgotten_later

-- the outcome of each press
abbrev pub latched : Press → Leaf → ℕ → Outcome Leaf ℕ Press
latched content state right = elim state as (λ s. Outcome Leaf ℕ Press) [
  | leaf.Locked ↦ elim content as (λ c. Outcome Leaf ℕ Press) [
    | press.Button digit ↦ pressed digit right
    | press.Lock ↦ outcome.KeepStateAndData []
    | press.Expired ↦ outcome.KeepState 0 []
  ]
  | leaf.Open ↦ elim content as (λ c. Outcome Leaf ℕ Press) [
    | press.Button digit ↦ outcome.KeepStateAndData (action.Postpone true ∷ [])
    | press.Lock ↦ outcome.NextState leaf.Locked 0 []
    | press.Expired ↦ outcome.NextState leaf.Locked 0 []
  ]
]
