use Rattle.std.proofs.Common.{◌≡◌, true, false, refl, ap, sym, ◌∙◌, subst}
use Rattle.st_lock.specs.Claims.{Fits, inner_of}
use Rattle.st_lock_inner.specs.Inner.{InnerState}
use Rattle.st_lock_inner.proofs.InnerLemmas.{ids_not_other}
use Rattle.st_lock.proofs.ClaimLemmas.{newcomer_out, same_counters}
use Rattle.st_lock.proofs.machine.Machine.arrive.Goals as goal

-- a newcomer claims nothing
pub arrive-taken-requires : goal.arrive-taken-requires
arrive-taken-requires g c = λ value. tt

-- where nothing lies there, or the machine is another, that goes back as it was taken
pub give_back-requires-clause-lock : goal.give_back-requires-clause-lock
give_back-requires-clause-lock g c = c.arrive-taken.ensures.lock ∙ sym c.arrive-taken.ensures.taken.0

pub give_back-requires-clause-out : goal.give_back-requires-clause-out
give_back-requires-clause-out g c = newcomer_out c.arrive-taken.result.2 _ _ _ c.arrive-taken.ensures.out c.arrive-taken.ensures.taken.1

pub give_back-requires-clause-others : goal.give_back-requires-clause-others
give_back-requires-clause-others g c = λ claim fits. subst (λ under. Fits (inner_of under) claim) (c.arrive-taken.ensures.taken.1 ∙ c.in_default.is) fits

pub give_back-requires-then-ne-clause-lock : goal.give_back-requires-then-ne-clause-lock
give_back-requires-then-ne-clause-lock g c = c.arrive-taken.ensures.lock ∙ sym c.arrive-taken.ensures.taken.0

pub give_back-requires-then-ne-clause-out : goal.give_back-requires-then-ne-clause-out
give_back-requires-then-ne-clause-out g c = newcomer_out c.arrive-taken.result.2 _ _ _ c.arrive-taken.ensures.out c.arrive-taken.ensures.taken.1

pub give_back-requires-then-ne-clause-same : goal.give_back-requires-then-ne-clause-same
give_back-requires-then-ne-clause-same g c = same_counters _ c.in-Some.inner c.in-Some.inner.value (c.arrive-taken.ensures.taken.1 ∙ c.in-Some.is) refl

-- else it is what lay there
pub returns-clause-lock : goal.returns-clause-lock
returns-clause-lock g c = c.arrive-taken.ensures.lock ∙ sym c.arrive-taken.ensures.taken.0

pub returns-clause-from : goal.returns-clause-from
returns-clause-from g c = c.arrive-taken.ensures.taken.0

pub returns-clause-taken : goal.returns-clause-taken
returns-clause-taken g c = c.arrive-taken.ensures.taken.1 ∙ c.in-Some.is

pub returns-clause-out : goal.returns-clause-out
returns-clause-out g c = newcomer_out c.arrive-taken.result.2 _ _ _ c.arrive-taken.ensures.out c.arrive-taken.ensures.taken.1

pub returns-clause-own : goal.returns-clause-own
returns-clause-own g c =
    ap (λ (inner : InnerState _ _ _ _). inner.cell.scheduled.core.machine.id) (sym c.deref.ensures)
    ∙ (sym c.id.ensures ∙ ids_not_other c.id.result c.args.self.now.id c.if-ne.ensures)
