use Rattle.std.proofs.Common.{◌≡◌, ◌≤◌, List, ◌++◌, length, reverse}
use Rattle.st_events.specs.declared.enter_action.EnterAction.{EnterAction}
use Rattle.st_events.specs.declared.timer.Timer.{Timer}
use Rattle.st_actions.specs.Plan.{replies_of, sets, settings_of}
use Rattle.st_actions.specs.Joined.{as_actions}
use Rattle.st_actions.specs.Noted.{is_noted, room}
use Rattle.st_actions.proofs.enter_planning.plan_enter.Given as goal

-- what was taken from the end of the list, and what it asks for
abbrev pub invariant-loop-action : goal.invariant-loop-action
invariant-loop-action g l = (taken : List (EnterAction g.row.C.Denot)) × record {
  whole : l.actions ++ taken ≡ l.fn.actions;
  replies : reverse l.replies.items ≡ replies_of (as_actions taken);
  settings : reverse l.settings.items ≡ settings_of (as_actions taken);
  noted : (timer : Timer) → is_noted timer l.noted ≡ sets timer (as_actions taken);
  reserved_for_replies : length l.actions ≤ l.replies.reserved;
  reserved_for_settings : length l.actions ≤ l.settings.reserved;
  room : length l.actions ≤ room l.noted;
}

abbrev pub decreases-loop-action : goal.decreases-loop-action
decreases-loop-action g l = length l.actions
