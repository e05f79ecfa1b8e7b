use Rattle.std.proofs.Common.{refl, sym, ◌∙◌, arith}
use Rattle.st_requests.proofs.RequestLemmas.{not_found, found_at, place_within, answered_at, answered_nowhere, one_each_answer}
use Rattle.st_requests.proofs.requests.Requests.answer.Goals as goal

pub returns-in_default-clause-was_open : goal.returns-in_default-clause-was_open
returns-in_default-clause-was_open g c =
    let nowhere = rw c.deref.ensures.value at (sym c.place_of.ensures ∙ c.in_default.is) in
    rw (← c.self.view_is, not_found c.args.tag c.self.inside.requests.items nowhere) refl

pub returns-in_default-clause-answered : goal.returns-in_default-clause-answered
returns-in_default-clause-answered g c =
    let nowhere = rw c.deref.ensures.value at (sym c.place_of.ensures ∙ c.in_default.is) in
    rw (← c.self.view_is) (answered_nowhere c.args.tag c.args.content c.self.inside.requests.items nowhere)

-- the place is there
pub index_mut-request-requires : goal.index_mut-request-requires
index_mut-request-requires g c =
    let at = rw c.deref.ensures.value at (sym c.place_of.ensures ∙ c.in-Some.is) in
    omega (arith, place_within c.args.tag c.self.inside.requests.items c.in-Some.place at, c.self.inside.requests.ok.0)

pub invariant_of-self : goal.invariant_of-self
invariant_of-self g c =
    let requests = c.self.inside.requests.items in
    let at = rw c.deref.ensures.value at (sym c.place_of.ensures ∙ c.in-Some.is) in
    rw (c.answer.ensures.answered, answered_at c.args.tag c.args.content requests c.in-Some.place c.index_mut-request.result.now c.self.invariant at c.index_mut-request.ensures.value)
    (one_each_answer c.args.tag c.args.content requests c.self.invariant)

pub returns-clause-was_open : goal.returns-clause-was_open
returns-clause-was_open g c =
    let requests = c.self.inside.requests.items in
    let at = rw c.deref.ensures.value at (sym c.place_of.ensures ∙ c.in-Some.is) in
    rw (← c.self.view_is, found_at c.args.tag requests c.in-Some.place c.index_mut-request.result.now at c.index_mut-request.ensures.value)
    c.answer.ensures.was_open

pub returns-clause-answered : goal.returns-clause-answered
returns-clause-answered g c =
    let requests = c.self.inside.requests.items in
    let at = rw c.deref.ensures.value at (sym c.place_of.ensures ∙ c.in-Some.is) in
    rw (← c.self.view_is, c.answer.ensures.answered)
    (answered_at c.args.tag c.args.content requests c.in-Some.place c.index_mut-request.result.now c.self.invariant at c.index_mut-request.ensures.value)
