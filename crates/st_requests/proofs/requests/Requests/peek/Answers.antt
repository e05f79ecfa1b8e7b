use Rattle.std.proofs.Common.{refl, sym, ◌∙◌, arith}
use Rattle.st_requests.proofs.RequestLemmas.{not_found, found_at, place_within}
use Rattle.st_requests.proofs.requests.Requests.peek.Goals as goal

pub returns-in_err-place : goal.returns-in_err-place
returns-in_err-place g c =
    let nowhere = rw c.deref.ensures.value at (sym c.place_of.ensures ∙ c.in_err-place.was) in
    rw (c.from_residual.ensures, ← c.self.view_is, not_found c.args.tag c.self.inside.requests.items nowhere) refl

-- the place is there
pub index-request-requires : goal.index-request-requires
index-request-requires g c =
    let at = rw c.deref.ensures.value at (sym c.place_of.ensures ∙ c.in_ok-place.was) in
    omega (arith, place_within c.args.tag c.self.inside.requests.items c.in_ok-place.place at, c.self.inside.requests.ok.0)

pub returns : goal.returns
returns g c =
    let at = rw c.deref.ensures.value at (sym c.place_of.ensures ∙ c.in_ok-place.was) in
    let held = found_at c.args.tag c.self.inside.requests.items c.in_ok-place.place c.index-request.result.now at c.index-request.ensures in
    rw (← c.self.view_is, held) c.reply.ensures
