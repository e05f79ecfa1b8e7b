use Rattle.std.proofs.Common.{◌≡◌}
use Rattle.st_claim_lock.specs.Holders.{lock_id, lock_of, Claims}
use Rattle.st_parts_tests.proofs.tests.claim_lock.count_often.Given as goal

-- the holder claims what was reached
abbrev pub invariant-loop : goal.invariant-loop
invariant-loop g l = (lock_of l.holder ≡ lock_id l.lock) × Claims l.holder (record { reached = l.reached })
