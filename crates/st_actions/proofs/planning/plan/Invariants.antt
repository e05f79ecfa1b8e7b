use Rattle.std.proofs.Common.{◌≡◌, ◌≤◌, Bool, List, ◌++◌, length, reverse, unwrap_or}
use Rattle.st_events.specs.declared.action.Action.{Action}
use Rattle.st_events.specs.declared.timer.Timer.{Timer}
use Rattle.st_actions.specs.Plan.{replies_of, inserts_of, postpone_or, sets, settings_of, sends_of}
use Rattle.st_actions.specs.Noted.{is_noted, room}
use Rattle.st_actions.proofs.planning.plan.Given as goal

-- what was taken from the end of the list, and what it asks for
abbrev pub invariant-loop-action : goal.invariant-loop-action
invariant-loop-action g l = (taken : List (Action g.row.C.Denot)) × record {
  whole : l.actions ++ taken ≡ l.fn.actions;
  replies : reverse l.replies.items ≡ replies_of taken;
  postpone : (given : Bool) → postpone_or given taken ≡ unwrap_or l.postpone given;
  inserts : reverse l.inserts.items ≡ inserts_of taken;
  settings : reverse l.settings.items ≡ settings_of taken;
  sends : reverse l.sends.items ≡ sends_of taken;
  noted : (timer : Timer) → is_noted timer l.noted ≡ sets timer taken;
  reserved_for_replies : length l.actions ≤ l.replies.reserved;
  reserved_for_inserts : length l.actions ≤ l.inserts.reserved;
  reserved_for_settings : length l.actions ≤ l.settings.reserved;
  reserved_for_sends : length l.actions ≤ l.sends.reserved;
  room : length l.actions ≤ room l.noted;
}

abbrev pub decreases-loop-action : goal.decreases-loop-action
decreases-loop-action g l = length l.actions
