use Rattle.st_claim_lock.specs.Holders.{value_taken}
use Rattle.st_lock.proofs.ClaimLemmas.{put_fits}
use Rattle.st_lock.proofs.machine.give_back.Goals as goal

-- what was claimed of the inner state is so of it as it is now
pub give_back-requires-clause-others : goal.give_back-requires-clause-others
give_back-requires-clause-others g c = λ claimed fits. put_fits (value_taken c.args.taken) c.args.inner.value c.requires.same claimed fits
