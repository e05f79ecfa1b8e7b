use Rattle.std.proofs.Common.{Some, refl, sym, ap, ◌∙◌, arith}
use Rattle.st_requests.proofs.RequestLemmas.{not_found, found_at, place_within}
use Rattle.st_requests.proofs.requests.Requests.held.Goals as goal

pub returns-in_err-found : goal.returns-in_err-found
returns-in_err-found g c =
    let nowhere = rw c.deref.ensures.value at (sym c.place_of.ensures ∙ c.in_err-found.was) in
    rw (c.from_residual.ensures, ← c.self.view_is, not_found c.args.tag c.self.inside.requests.items nowhere) refl

-- the place is there
pub index-requires : goal.index-requires
index-requires g c =
    let at = rw c.deref.ensures.value at (sym c.place_of.ensures ∙ c.in_ok-found.was) in
    omega (arith, place_within c.args.tag c.self.inside.requests.items c.in_ok-found.found at, c.self.inside.requests.ok.0)

pub returns : goal.returns
returns g c =
    let at = rw c.deref.ensures.value at (sym c.place_of.ensures ∙ c.in_ok-found.was) in
    let held = found_at c.args.tag c.self.inside.requests.items c.in_ok-found.found c.index.result.now at c.index.ensures in
    rw (← c.self.view_is, held) (ap Some c.shown.ensures)
