use Rattle.std.proofs.Common.{◌≡◌, [], drop}
use Rattle.st_actions.specs.Plan.{inserts_of}
use Rattle.st_parts_tests.proofs.tests.actions.counted.inserts_leave.Given as goal

-- nothing to be inserted is left from the index on
abbrev pub invariant-loop-index : goal.invariant-loop-index
invariant-loop-index g l = inserts_of (drop l.index l.actions) ≡ []

abbrev pub decreases-loop-index : goal.decreases-loop-index
decreases-loop-index g l = l.index
