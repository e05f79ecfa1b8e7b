use Rattle.std.proofs.Common.{◌≡◌, true, false, sym, ◌∙◌, subst}
use Rattle.st_lock.specs.Claims.{Fits, inner_of}
use Rattle.st_lock.proofs.ClaimLemmas.{newcomer_out}
use Rattle.st_lock.proofs.machine.Machine.put.Goals as goal

-- a newcomer claims nothing
pub arrive-taken-requires : goal.arrive-taken-requires
arrive-taken-requires g c = λ value. tt

-- what lies there goes back as it was taken
pub give_back-requires-clause-lock : goal.give_back-requires-clause-lock
give_back-requires-clause-lock g c = c.arrive-taken.ensures.lock ∙ sym c.arrive-taken.ensures.taken.0

pub give_back-requires-clause-out : goal.give_back-requires-clause-out
give_back-requires-clause-out g c = newcomer_out c.arrive-taken.result.2 _ _ _ c.arrive-taken.ensures.out c.arrive-taken.ensures.taken.1

pub give_back-requires-clause-others : goal.give_back-requires-clause-others
give_back-requires-clause-others g c = λ claim fits. subst (λ under. Fits (inner_of under) claim) c.arrive-taken.ensures.taken.1 fits

-- where none lies there, the new one goes there
pub give_back-requires-2-clause-lock : goal.give_back-requires-2-clause-lock
give_back-requires-2-clause-lock g c = c.arrive-taken.ensures.lock ∙ sym c.arrive-taken.ensures.taken.0

pub give_back-requires-2-clause-out : goal.give_back-requires-2-clause-out
give_back-requires-2-clause-out g c = newcomer_out c.arrive-taken.result.2 _ _ _ c.arrive-taken.ensures.out c.arrive-taken.ensures.taken.1
