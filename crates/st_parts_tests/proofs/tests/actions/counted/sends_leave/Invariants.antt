use Rattle.std.proofs.Common.{◌≡◌, [], take}
use Rattle.st_actions.specs.Plan.{sends_of}
use Rattle.st_parts_tests.proofs.tests.actions.counted.sends_leave.Given as goal

-- nothing to be sent is left before the index
abbrev pub invariant-loop-index : goal.invariant-loop-index
invariant-loop-index g l = sends_of (take l.index l.actions) ≡ []
