-- Those of the running time-outs that wait: for a moment, or for the events that were received.
use Rattle.std.specs.Prelude.{ℕ, Bool, not, ◌&&◌, List, map, filter}
use Rattle.st_events.specs.declared.timer.Timer.{Timer}
use Rattle.st_timeouts.specs.declared.key.Key.{Key}
use Rattle.st_timeouts.specs.declared.running.Running.{Running}
use Rattle.st_timeouts.specs.Running.{is_zero}
use Rattle.st_timeouts.specs.Timeouts.{Listed, all_of, name_of}
use Rattle.st_timeouts.specs.Keys.{ordered, keys_of}

module _ {C : Type 0} where
  -- it waits for a moment, and its expiry was not handed out
  abbrev pub waits : Listed C → Bool
  waits one = not (is_zero one.running.due) && not one.expired

  -- those that wait for a moment
  abbrev pub waiting_of : List (Listed C) → List (Running C)
  waiting_of listed = all_of (filter waits listed)

  -- where these stand, the first that is due first
  abbrev pub due_keys : List (Listed C) → List Key
  due_keys listed = ordered (keys_of (waiting_of listed))

  -- those that are due at once, in the order in which they were set
  abbrev pub zeros_of : List (Listed C) → List (Timer × ℕ)
  zeros_of listed = map name_of (filter (λ (one : Running C). is_zero one.due) (all_of listed))
