-- The time-outs that wait for a moment, in the order in which they are due.
use Rattle.std.specs.Prelude.{◌≡◌, ℕ, ◌-◌, Bool, true, false, not, nat_le, Option, Some, None, List, [], ◌∷◌}
use Rattle.st_events.specs.declared.timer.Timer.{Timer}
use Rattle.st_events.specs.Timers.{same_timer}
use Rattle.st_timeouts.specs.declared.key.Key.{Key}
use Rattle.st_timeouts.specs.Keys.{before, put_late}

-- where they stand, the first that is due first, and for how many more there is a place
pub record Order : Type 0 where
  pub keys : List Key
  pub reserved : ℕ

-- it is due by a moment
abbrev pub has_come : ℕ → Key → Bool
has_come now key = nat_le key.moment.milliseconds now

-- it is that of another timer
abbrev pub is_other : Timer → Key → Bool
is_other timer key = not (same_timer timer key.timer)

-- of a timer there is none that comes before this one
abbrev pub NoneElse : Key → List Key → Type 0
NoneElse key [] = Unit {0}
NoneElse key (other ∷ others) =
    (same_timer key.timer other.timer ≡ true → before other key ≡ false) × NoneElse key others

-- they are other timers'
abbrev pub OtherThan : Timer → List Key → Type 0
OtherThan timer [] = Unit {0}
OtherThan timer (one ∷ others) = (same_timer timer one.timer ≡ false) × OtherThan timer others

-- no timer has two
abbrev pub OnceEach : List Key → Type 0
OnceEach [] = Unit {0}
OnceEach (key ∷ others) = OtherThan key.timer others × OnceEach others

-- one more, behind those that are due before it
abbrev pub with_key : Order → Key → Order
with_key old key = record { keys = put_late key old.keys; reserved = old.reserved - 1 }

-- the first of them
abbrev pub first_key : List Key → Option Key
first_key [] = None
first_key (key ∷ others) = Some key

-- without the first
abbrev pub other_keys : List Key → List Key
other_keys [] = []
other_keys (key ∷ others) = others
