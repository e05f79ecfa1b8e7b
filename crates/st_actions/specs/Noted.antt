-- Timers that were noted.
use Rattle.std.specs.Prelude.{ℕ, Bool, ◌||◌, ◌==◌, ◌+◌, ◌-◌, length, nat_eq}
use Rattle.std.specs.List.{list_any}
use Rattle.std.specs.HashSet.{contains, spare}
use Rattle.st_events.specs.declared.timer.Timer.{Timer}
use Rattle.st_events.specs.declared.timer.Timer.TheVariants as timers
use Rattle.st_actions.specs.declared.noted_timers.NotedTimers.{NotedTimers}

-- whether a timer was noted
abbrev pub is_noted : Timer → NotedTimers → Bool
is_noted timers.Event noted = noted.event
is_noted timers.State noted = noted.state
is_noted (timers.Named name) noted =
    list_any (λ (other : ℕ). name == other) noted.first_names || contains nat_eq noted.other_names name

-- how many more can be noted
abbrev pub room : NotedTimers → ℕ
room noted = (4 - length noted.first_names) + spare noted.other_names
