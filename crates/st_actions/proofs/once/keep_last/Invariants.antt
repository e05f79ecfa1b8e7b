use Rattle.std.proofs.Common.{◌≡◌, ◌≤◌, Bool, length, take, drop}
use Rattle.st_events.specs.declared.timer.Timer.{Timer}
use Rattle.st_actions.specs.Noted.{is_noted, room}
use Rattle.st_actions.specs.Plan.{replies_of, inserts_of, sends_of, postpone_or, settings_of, sets}
use Rattle.st_actions.specs.Taking.{all_settings_of}
use Rattle.st_actions.proofs.once.keep_last.Given as goal

-- from the index on the last that is asked of each timer is left, and the timers of which something is asked there are noted
abbrev pub invariant-loop-index : goal.invariant-loop-index
invariant-loop-index g l = record {
  front : take l.index l.actions ≡ take l.index l.fn.actions;
  as_many : length l.actions ≡ length l.fn.actions;
  within : l.index ≤ length l.fn.actions;
  settings : all_settings_of (drop l.index l.actions) ≡ settings_of (drop l.index l.fn.actions);
  replies : replies_of l.actions ≡ replies_of l.fn.actions;
  inserts : inserts_of l.actions ≡ inserts_of l.fn.actions;
  sends : sends_of l.actions ≡ sends_of l.fn.actions;
  postpone : (given : Bool) → postpone_or given l.actions ≡ postpone_or given l.fn.actions;
  noted : (timer : Timer) → is_noted timer l.noted ≡ sets timer (drop l.index l.fn.actions);
  room : l.index ≤ room l.noted;
}

abbrev pub decreases-loop-index : goal.decreases-loop-index
decreases-loop-index g l = l.index
