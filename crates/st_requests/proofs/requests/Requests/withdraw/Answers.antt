use Rattle.std.proofs.Common.{rules, not, subst, sym}
use Rattle.std.proofs.lemmas.Fn.{filter_same}
use Rattle.st_requests.specs.Requests.{OneEach, is_for}
use Rattle.st_requests.proofs.RequestLemmas.{one_each_withdrawn}
use Rattle.st_requests.proofs.requests.Requests.withdraw.Goals as goal

pub invariant_of-self : goal.invariant_of-self
invariant_of-self g c =
    let left = filter_same _ (λ request. not (is_for c.args.tag request)) _ (λ x b f' k. search rules) _ _ c.retain.ensures.filtered in
    subst OneEach (sym left) (one_each_withdrawn c.args.tag c.self.inside.requests.items c.self.invariant)

pub returns : goal.returns
returns g c =
    rw (← c.self.view_is) (filter_same _ (λ request. not (is_for c.args.tag request)) _ (λ x b f' k. search rules) _ _ c.retain.ensures.filtered)
