-- The time-outs as they are kept, read as those that are listed.
use Rattle.std.specs.Prelude.{◌≡◌, ◌+◌, ◌≤◌, List, map, length}
use Rattle.st_events.specs.declared.timer.Timer.{Timer}
use Rattle.st_timer_map.specs.Rows.{Rows}
use Rattle.st_timeouts.specs.declared.entry.Entry.{Entry}
use Rattle.st_timeouts.specs.Order.{Order}
use Rattle.st_timeouts.specs.declared.running.Running.{Running}
use Rattle.st_timeouts.specs.Running.{OneEach}
use Rattle.st_timeouts.specs.Timeouts.{Listed, all_of}
use Rattle.st_timeouts.specs.Waiting.{due_keys, zeros_of}
use Rattle.st_timeouts.specs.Zeros.{Zeros}

module _ {C : Type 0} where
  -- the time-out of a timer that an entry tells of
  abbrev pub running : Timer → Entry C → Running C
  running timer entry = record { timer = timer; number = entry.number; due = entry.due; content = entry.content }

  -- a timer and its entry as they are listed
  abbrev pub listed_row : Timer × Entry C → Listed C
  listed_row row = record { running = running row.0 row.1; expired = row.1.expired }

  -- all of them as they are listed
  abbrev pub listed_of : List (Timer × Entry C) → List (Listed C)
  listed_of rows = map listed_row rows

  -- what is kept: each timer once; what waits is told by both lists, and each has places for all that run and all that
  -- are reserved for
  pub record IsSound (kept : Rows (Entry C)) (zeros : Zeros) (order : Order) : Type 0 where
    pub one_each : OneEach (all_of (listed_of kept.rows))
    pub zeros_are : zeros.items ≡ zeros_of (listed_of kept.rows)
    pub keys_are : order.keys ≡ due_keys (listed_of kept.rows)
    pub zeros_fit : length kept.rows + kept.reserved ≤ zeros.reserved + length zeros.items
    pub keys_fit : length kept.rows + kept.reserved ≤ order.reserved + length order.keys
