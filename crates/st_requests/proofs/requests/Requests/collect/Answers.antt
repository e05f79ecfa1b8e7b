use Rattle.std.proofs.Common.{◌≡◌, true, false, refl, sym, ◌∙◌, arith}
use Rattle.st_requests.specs.Requests.{is_open}
use Rattle.st_requests.proofs.RequestLemmas.{not_found, found_at, place_within, waiting_collected, waiting_stays, collected_nowhere, removed_at, one_each_kept}
use Rattle.st_requests.proofs.requests.Requests.collect.Goals as goal

pub returns-in_default-clause-collected : goal.returns-in_default-clause-collected
returns-in_default-clause-collected g c =
    let nowhere = rw c.deref.ensures.value at (sym c.place_of.ensures ∙ c.in_default.is) in
    rw (← c.self.view_is, not_found c.args.tag c.self.inside.requests.items nowhere) refl

pub returns-in_default-clause-left : goal.returns-in_default-clause-left
returns-in_default-clause-left g c =
    let nowhere = rw c.deref.ensures.value at (sym c.place_of.ensures ∙ c.in_default.is) in
    rw (← c.self.view_is) (collected_nowhere c.args.tag c.self.inside.requests.items nowhere)

-- the place is there
pub index-request-requires : goal.index-request-requires
index-request-requires g c =
    let at = rw c.deref.ensures.value at (sym c.place_of.ensures ∙ c.in-Some.is) in
    omega (arith, place_within c.args.tag c.self.inside.requests.items c.in-Some.place at, c.self.inside.requests.ok.0)

pub remove-requires : goal.remove-requires
remove-requires g c =
    let at = rw c.deref.ensures.value at (sym c.place_of.ensures ∙ c.in-Some.is) in
    omega (arith, place_within c.args.tag c.self.inside.requests.items c.in-Some.place at, c.self.inside.requests.ok.0)

pub returns-then-is_open-clause-collected : goal.returns-then-is_open-clause-collected
returns-then-is_open-clause-collected g c =
    let requests = c.self.inside.requests.items in
    let at = rw c.deref.ensures.value at (sym c.place_of.ensures ∙ c.in-Some.is) in
    let held = found_at c.args.tag requests c.in-Some.place c.index-request.result.now at c.index-request.ensures in
    rw (← c.self.view_is, held) (waiting_collected c.index-request.result.now.held (sym c.is_open.ensures ∙ c.if-is_open.true))

pub returns-then-is_open-clause-left : goal.returns-then-is_open-clause-left
returns-then-is_open-clause-left g c =
    let requests = c.self.inside.requests.items in
    let at = rw c.deref.ensures.value at (sym c.place_of.ensures ∙ c.in-Some.is) in
    let held = found_at c.args.tag requests c.in-Some.place c.index-request.result.now at c.index-request.ensures in
    let waits : is_open requests c.args.tag ≡ true = rw held (sym c.is_open.ensures ∙ c.if-is_open.true) in
    rw (← c.self.view_is) (sym (waiting_stays c.args.tag requests c.self.invariant waits))

pub invariant_of-self : goal.invariant_of-self
invariant_of-self g c =
    let requests = c.self.inside.requests.items in
    let at = rw c.deref.ensures.value at (sym c.place_of.ensures ∙ c.in-Some.is) in
    let held = found_at c.args.tag requests c.in-Some.place c.index-request.result.now at c.index-request.ensures in
    let kept : is_open requests c.args.tag ≡ false = rw held (sym c.is_open.ensures ∙ c.if-is_open.false) in
    rw (c.remove.ensures.items, removed_at c.args.tag requests c.in-Some.place c.self.invariant at kept)
    (one_each_kept c.args.tag requests c.self.invariant)

pub returns-clause-collected : goal.returns-clause-collected
returns-clause-collected g c =
    let requests = c.self.inside.requests.items in
    let at = rw c.deref.ensures.value at (sym c.place_of.ensures ∙ c.in-Some.is) in
    let held = found_at c.args.tag requests c.in-Some.place c.remove.result at c.remove.ensures.value in
    rw (← c.self.view_is, held) c.into_collected.ensures

pub returns-clause-left : goal.returns-clause-left
returns-clause-left g c =
    let requests = c.self.inside.requests.items in
    let at = rw c.deref.ensures.value at (sym c.place_of.ensures ∙ c.in-Some.is) in
    let held = found_at c.args.tag requests c.in-Some.place c.index-request.result.now at c.index-request.ensures in
    let kept : is_open requests c.args.tag ≡ false = rw held (sym c.is_open.ensures ∙ c.if-is_open.false) in
    rw (← c.self.view_is, c.remove.ensures.items) (removed_at c.args.tag requests c.in-Some.place c.self.invariant at kept)
