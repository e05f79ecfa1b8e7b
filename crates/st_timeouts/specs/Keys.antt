-- The order in which time-outs are due, of which the contents are no part.
use Rattle.std.specs.Prelude.{◌≡◌, ℕ, Bool, true, false, ◌||◌, ◌&&◌, ◌==◌, nat_lt, if◌then◌else◌, List, [], ◌∷◌, map}
use Rattle.st_events.specs.declared.timer.Timer.{Timer}
use Rattle.st_timeouts.specs.declared.key.Key.{Key}
use Rattle.st_timeouts.specs.declared.running.Running.{Running}
use Rattle.st_timeouts.specs.Running.{moment_of}

-- one comes before another: it is due earlier, or at the same moment and has the lower number
abbrev pub before : Key → Key → Bool
before one other =
    nat_lt one.moment.milliseconds other.moment.milliseconds
    || ((one.moment.milliseconds == other.moment.milliseconds) && nat_lt one.number other.number)

-- put in before the first that it comes before
abbrev pub put_key : Key → List Key → List Key
put_key one [] = one ∷ []
put_key one (other ∷ others) =
    if before one other then one ∷ other ∷ others else other ∷ put_key one others

-- by the moment at which they are due, and then by number
abbrev pub ordered : List Key → List Key
ordered [] = []
ordered (one ∷ others) = put_key one (ordered others)

-- put in behind those that come before it
abbrev pub put_late : Key → List Key → List Key
put_late one [] = one ∷ []
put_late one (other ∷ others) =
    if before other one then other ∷ put_late one others else one ∷ other ∷ others

-- all of them come before one, and none of them does
abbrev pub AllBefore : Key → List Key → Type 0
AllBefore one [] = Unit {0}
AllBefore one (other ∷ others) = (before other one ≡ true) × AllBefore one others

abbrev pub NoneBefore : Key → List Key → Type 0
NoneBefore one [] = Unit {0}
NoneBefore one (other ∷ others) = (before other one ≡ false) × NoneBefore one others

-- each comes before none that stands in front of it
abbrev pub InOrder : List Key → Type 0
InOrder [] = Unit {0}
InOrder (one ∷ others) = NoneBefore one others × InOrder others

-- where a time-out stands that is due at a moment
abbrev pub key_at : Timer → ℕ → ℕ → Key
key_at timer number moment = record { moment = record { milliseconds = moment }; number = number; timer = timer }

module _ {C : Type 0} where
  -- where a time-out stands in the order
  abbrev pub key_of : Running C → Key
  key_of running = key_at running.timer running.number (moment_of running.due)

  abbrev pub keys_of : List (Running C) → List Key
  keys_of running = map key_of running
