use Rattle.std.proofs.Common.{◌≡◌}
use Rattle.st_claim_lock.specs.Holders.{lock_id, lock_of, HasNothingOut}
use Rattle.st_parts_tests.proofs.tests.claim_lock.count_and_tell.Given as goal

-- the holder has nothing out
abbrev pub invariant-loop : goal.invariant-loop
invariant-loop g l = (lock_of l.holder ≡ lock_id l.lock) × HasNothingOut l.holder
