use Rattle.std.proofs.Common.{◌≡◌, ◌+◌, ◌≤◌, length, take}
use Rattle.st_events.specs.declared.timer.Timer.{Timer}
use Rattle.st_actions.specs.Joined.{is_set_by}
use Rattle.st_actions.specs.Noted.{is_noted, room}
use Rattle.st_actions.proofs.joining.timers_of.Given as goal

-- the timers of the settings so far are noted
abbrev pub invariant-loop-index : goal.invariant-loop-index
invariant-loop-index g l = record {
  noted : (timer : Timer) → is_noted timer l.noted ≡ is_set_by timer (take l.index l.settings);
  room : length l.settings ≤ room l.noted + l.index;
}
