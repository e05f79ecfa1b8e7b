use Rattle.std.proofs.Common.{◌≡◌, [], take}
use Rattle.st_actions.specs.Taking.{all_settings_of}
use Rattle.st_parts_tests.proofs.tests.actions.counted.settings_leave.Given as goal

-- no setting is left before the index
abbrev pub invariant-loop-index : goal.invariant-loop-index
invariant-loop-index g l = all_settings_of (take l.index l.actions) ≡ []
