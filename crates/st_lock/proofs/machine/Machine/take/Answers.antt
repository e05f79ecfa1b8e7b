use Rattle.std.proofs.Common.{◌≡◌, true, false, refl, ap, sym, ◌∙◌, subst}
use Rattle.st_cell.specs.Cell.{IsOpen, count_for}
use Rattle.st_lock_inner.specs.Inner.{InnerState}
use Rattle.st_lock.proofs.ClaimLemmas.{end_under, own_claim, own_out, same_counters, some_under, taken_end, taken_out}
use Rattle.st_lock.proofs.machine.Machine.take.Goals as goal

-- the holder is one of this lock, and has nothing out
pub take-taken-requires-clause-lock : goal.take-taken-requires-clause-lock
take-taken-requires-clause-lock g c = c.requires.lock

pub take-taken-requires-clause-home : goal.take-taken-requires-clause-home
take-taken-requires-clause-home g c = own_claim c.args.holder.now _ c.requires.claims

-- its claim fits what lies there, so that an inner state does
pub unreachable-requires : goal.unreachable-requires
unreachable-requires g c =
    some_under c.take-taken.result.1 _
    (end_under c.take-taken.result.1 c.args.holder.now c.args.port c.args.counter.now c.requires.claims c.take-taken.ensures.fits) c.in_default.is

-- where it counts otherwise, it goes back as it was taken
pub give_back-requires-clause-lock : goal.give_back-requires-clause-lock
give_back-requires-clause-lock g c = c.take-taken.ensures.same ∙ (c.requires.lock ∙ sym c.take-taken.ensures.taken.0)

pub give_back-requires-clause-out : goal.give_back-requires-clause-out
give_back-requires-clause-out g c =
    own_out c.take-taken.new.holder _ _ (taken_out c.args.holder.now c.take-taken.new.holder _ _ _ c.requires.claims c.take-taken.ensures.out c.take-taken.ensures.taken.1)

pub give_back-requires-clause-same : goal.give_back-requires-clause-same
give_back-requires-clause-same g c = same_counters _ c.in-Some.inner c.in-Some.inner.value (c.take-taken.ensures.taken.1 ∙ c.in-Some.is) refl

-- what is taken is what lay there
pub returns-clause-lock : goal.returns-clause-lock
returns-clause-lock g c = c.take-taken.ensures.same ∙ (c.requires.lock ∙ sym c.take-taken.ensures.taken.0)

pub returns-clause-from : goal.returns-clause-from
returns-clause-from g c = c.take-taken.ensures.taken.0

pub returns-clause-taken : goal.returns-clause-taken
returns-clause-taken g c = c.take-taken.ensures.taken.1 ∙ c.in-Some.is

pub returns-clause-out : goal.returns-clause-out
returns-clause-out g c = taken_out c.args.holder.now c.take-taken.new.holder _ _ _ c.requires.claims c.take-taken.ensures.out c.take-taken.ensures.taken.1

pub returns-clause-end : goal.returns-clause-end
returns-clause-end g c =
    taken_end c.take-taken.result.1 c.in-Some.inner _
    (end_under c.take-taken.result.1 c.args.holder.now c.args.port c.args.counter.now c.requires.claims c.take-taken.ensures.fits) c.in-Some.is

-- and it counts as the port does
pub returns-clause-own : goal.returns-clause-own
returns-clause-own g c =
    ap (λ (inner : InnerState _ _ _ _). inner.cell.scheduled.core.machine.id) (sym c.deref.ensures) ∙ c.if-not-counts.ensures.own refl

pub returns-clause-open : goal.returns-clause-open
returns-clause-open g c = subst (λ (inner : InnerState _ _ _ _). IsOpen c.args.port inner.cell) c.deref.ensures (c.if-not-counts.ensures.open refl)

pub returns-clause-count : goal.returns-clause-count
returns-clause-count g c = c.if-not-counts.ensures.count refl ∙ ap (λ (inner : InnerState _ _ _ _). count_for c.args.port inner.cell) c.deref.ensures

pub returns-clause-limited : goal.returns-clause-limited
returns-clause-limited g c = c.if-not-counts.ensures.limited refl

-- the holder claims its own state
pub unreachable-unreachable : goal.unreachable-unreachable
unreachable-unreachable g c = c.unreachable.result
