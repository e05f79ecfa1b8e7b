-- Values by timer as their keeper sees them, and what each call makes of them.
use Rattle.std.specs.Prelude.{◌≡◌, ℕ, ◌-◌, not, if◌then◌else◌, Option, Some, None, is_some, List, [], ◌∷◌, ◌++◌, map, filter}
use Rattle.st_events.specs.declared.timer.Timer.{Timer}
use Rattle.st_events.specs.Timers.{same_timer}

-- the values by timer in the order in which they were last put, and how many more timers are reserved for
pub record Rows (V : Type 0) : Type 0 where
  pub rows : List (Timer × V)
  pub reserved : ℕ

module _ {V : Type 0} where
  -- the value of a timer, if it is there
  abbrev pub value_of : Timer → List (Timer × V) → Option V
  value_of timer [] = None
  value_of timer (row ∷ rows) = if same_timer timer row.0 then Some row.1 else value_of timer rows

  -- without a timer
  abbrev pub without_timer : Timer → List (Timer × V) → List (Timer × V)
  without_timer timer rows = filter (λ (row : Timer × V). not (same_timer timer row.0)) rows

  -- no timer is there twice
  abbrev pub OnceEach : List (Timer × V) → Type 0
  OnceEach [] = Unit {0}
  OnceEach (row ∷ rows) = (value_of row.0 rows ≡ None) × OnceEach rows

  -- a timer that is put goes last; where it is there already, it takes nothing of what is reserved
  abbrev pub with_put : Rows V → Timer → V → Rows V
  with_put old timer value = record {
    rows = without_timer timer old.rows ++ (timer, value) ∷ [];
    reserved = if is_some (value_of timer old.rows) then old.reserved else old.reserved - 1;
  }

  -- a timer that is removed is there no more
  abbrev pub with_removed : Rows V → Timer → Rows V
  with_removed old timer = record old { rows = without_timer timer old.rows }

  -- a timer's value is marked; all others stay, and so does the order
  abbrev pub with_marked : (V → V) → Rows V → Timer → Rows V
  with_marked marked old timer = record old {
    rows = map (λ (row : Timer × V). (row.0, if same_timer timer row.0 then marked row.1 else row.1)) old.rows;
  }
