use Rattle.std.proofs.Common.{append-nil, length, sym, ap, ◌∙◌, arith}
use Rattle.st_requests.proofs.LoopLemmas.{all_left, taken_next, passed_next}
use Rattle.st_requests.proofs.requests.Requests.answer_all.Goals as goal

pub into_places-left-requires : goal.into_places-left-requires
into_places-left-requires g c = (c.requires.replies_fit, c.requires.replies_fit)

pub take_each-tag-items-requires : goal.take_each-tag-items-requires
take_each-tag-items-requires g c = (c.requires.replies_fit, c.into_places-left.ensures.full)

pub loop-tag-init : goal.loop-tag-init
loop-tag-init g c =
    let left = c.into_iter-tag-iterator.ensures.into_iter_gives ∙ (c.take_each-tag-items.ensures.elements ∙ c.into_places-left.ensures.elements) in
    all_left c.args.self.now c.args.replies _ c.args.taken.now.items _ left c.requires.reserved

pub push_reserved-requires : goal.push_reserved-requires
push_reserved-requires g c = omega (arith, c.loop-tag.taken.ok, c.loop-tag.invariant.reserved, ap length c.in-Some.ensures.steps)

-- the request was open
pub loop-tag-preserved-then-answer : goal.loop-tag-preserved-then-answer
loop-tag-preserved-then-answer g c =
    let waits = sym c.answer.ensures.was_open ∙ c.if-answer.true in
    rw (c.answer.ensures.answered, c.push_reserved.ensures.items, c.push_reserved.ensures.capacity)
    (taken_next _ _ _ _ _ _ _ _ c.in-Some.tag c.in-Some.content c.loop-tag.invariant c.in-Some.ensures.steps waits)

-- it was not
pub loop-tag-preserved : goal.loop-tag-preserved
loop-tag-preserved g c =
    let shut = sym c.answer.ensures.was_open ∙ c.if-answer.false in
    rw c.answer.ensures.answered
    (passed_next _ _ _ _ _ _ _ _ c.in-Some.tag c.in-Some.content c.loop-tag.invariant c.in-Some.ensures.steps shut)

-- no reply is left
pub returns-clause-answered : goal.returns-clause-answered
returns-clause-answered g c = rw c.in-None.ensures.steps.0 at c.loop-tag.invariant.all

pub returns-clause-taken : goal.returns-clause-taken
returns-clause-taken g c =
    let all = rw c.in-None.ensures.steps.0 at c.loop-tag.invariant.taken in
    sym (append-nil c.loop-tag.taken.items) ∙ all
