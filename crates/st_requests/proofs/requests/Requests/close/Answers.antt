use Rattle.std.proofs.Common.{refl, sym, subst, ◌∙◌}
use Rattle.std.proofs.lemmas.List.{with_items_is}
use Rattle.st_requests.specs.Requests.{OneEach}
use Rattle.st_requests.proofs.RequestLemmas.{one_each_closed}
use Rattle.st_requests.proofs.requests.Requests.close.Goals as goal

pub invariant_of-self : goal.invariant_of-self
invariant_of-self g c =
    let requests = c.self.inside.requests in
    let items = with_items_is requests c.close_all.new.requests (c.close_all.auto.requests ∙ c.deref_mut.ensures.len) in
    subst OneEach (sym items) (rw (c.close_all.ensures, c.deref_mut.ensures.value) (one_each_closed c.args.reason requests.items c.self.invariant))

pub returns : goal.returns
returns g c =
    let requests = c.self.inside.requests in
    let items = with_items_is requests c.close_all.new.requests (c.close_all.auto.requests ∙ c.deref_mut.ensures.len) in
    rw (← c.self.view_is, items, c.close_all.ensures, c.deref_mut.ensures.value) refl
