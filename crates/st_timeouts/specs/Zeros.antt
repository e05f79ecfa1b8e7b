-- The time-outs that are due at once, by timer and number.
use Rattle.std.specs.Prelude.{◌≡◌, ℕ, ◌-◌, Bool, false, not, List, [], ◌∷◌, ◌++◌}
use Rattle.st_events.specs.declared.timer.Timer.{Timer}
use Rattle.st_events.specs.Timers.{same_timer}

-- each by its timer and its number, in the order in which they were set, and for how many more there is a place
pub record Zeros : Type 0 where
  pub items : List (Timer × ℕ)
  pub reserved : ℕ

-- it is another timer's
abbrev pub other_zero : Timer → Timer × ℕ → Bool
other_zero timer zero = not (same_timer timer zero.0)

-- they are other timers'
abbrev pub OtherZeros : Timer → List (Timer × ℕ) → Type 0
OtherZeros timer [] = Unit {0}
OtherZeros timer (one ∷ others) = (same_timer timer one.0 ≡ false) × OtherZeros timer others

-- no timer has two
abbrev pub OnceZeros : List (Timer × ℕ) → Type 0
OnceZeros [] = Unit {0}
OnceZeros (one ∷ others) = OtherZeros one.0 others × OnceZeros others

-- one more, behind the others
abbrev pub with_zero : Zeros → Timer → ℕ → Zeros
with_zero old timer number = record { items = old.items ++ (timer, number) ∷ []; reserved = old.reserved - 1 }
