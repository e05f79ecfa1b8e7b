use Rattle.std.proofs.Common.{◌≡◌, [], take}
use Rattle.st_actions.specs.Plan.{replies_of}
use Rattle.st_parts_tests.proofs.tests.actions.counted.replies_leave.Given as goal

-- no reply is left before the index
abbrev pub invariant-loop-index : goal.invariant-loop-index
invariant-loop-index g l = replies_of (take l.index l.actions) ≡ []
