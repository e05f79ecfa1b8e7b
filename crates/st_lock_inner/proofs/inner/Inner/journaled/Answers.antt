use Rattle.st_lock_inner.proofs.InnerLemmas.{inner_begun}
use Rattle.st_lock_inner.proofs.inner.Inner.journaled.Goals as goal

-- no port is open
pub invariant_of-result : goal.invariant_of-result
invariant_of-result g c = rw (c.in-Ok.ensures.begun, c.new-ends.ensures.items) (inner_begun c.args.core)
