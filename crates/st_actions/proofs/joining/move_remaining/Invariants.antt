use Rattle.std.proofs.Common.{◌≡◌, ◌+◌, ◌≤◌, ◌++◌, length}
use Rattle.std.specs.Prelude.{filter, not}
use Rattle.st_events.specs.declared.setting.Setting.{Setting}
use Rattle.st_actions.specs.Noted.{is_noted}
use Rattle.st_actions.proofs.joining.move_remaining.Given as goal

-- what was moved, with what remains of the rest, is what remains of all
abbrev pub invariant-loop-setting : goal.invariant-loop-setting
invariant-loop-setting g l =
    let stays = λ (setting : Setting g.row.C.Denot). not (is_noted setting.timer l.fn.later) in
    record {
      settings : l.onto.items ++ filter stays l.setting-iterator ≡ l.fn.onto.items ++ filter stays l.fn.settings;
      places : length l.onto.items + l.onto.reserved ≡ length l.fn.onto.items + l.fn.onto.reserved;
      reserved : length l.setting-iterator ≤ l.onto.reserved;
    }

abbrev pub decreases-loop-setting : goal.decreases-loop-setting
decreases-loop-setting g l = length l.setting-iterator
