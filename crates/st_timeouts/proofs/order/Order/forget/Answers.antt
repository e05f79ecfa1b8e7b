use Rattle.std.proofs.Common.{ap, ◌∙◌, arith}
use Rattle.std.specs.Prelude.{is_some}
use Rattle.std.specs.List.{remove}
use Rattle.std.proofs.lemmas.List.{length-reverse}
use Rattle.st_timeouts.specs.Order.{is_other}
use Rattle.st_timeouts.proofs.FallingLemmas.{in_order_filtered, is_some_within, on_some, shorter}
use Rattle.st_timeouts.proofs.order.Order.forget.Goals as goal

pub returns-in-Some-clause-keys : goal.returns-in-Some-clause-keys
returns-in-Some-clause-keys c =
    let there = is_some_within c.self.inside.keys.items c.in-Some.place c.in-Some.ensures.within in
    let new = on_some c.remove.result _ (ap is_some c.remove.ensures.value ∙ there) c.remove.ensures.removed in
    rw (new, ← c.self.view_is) c.in-Some.ensures.found

pub returns-in-Some-clause-places : goal.returns-in-Some-clause-places
returns-in-Some-clause-places c =
    let keys = c.self.inside.keys.items in
    let there = is_some_within keys c.in-Some.place c.in-Some.ensures.within in
    let new = on_some c.remove.result _ (ap is_some c.remove.ensures.value ∙ there) c.remove.ensures.removed in
    rw (new, ← c.self.view_is, length-reverse (remove keys c.in-Some.place), length-reverse keys)
    (let fewer = shorter keys c.in-Some.place c.in-Some.ensures.within in omega (arith, fewer))

pub invariant_of-self : goal.invariant_of-self
invariant_of-self c =
    let there = is_some_within c.self.inside.keys.items c.in-Some.place c.in-Some.ensures.within in
    let new = on_some c.remove.result _ (ap is_some c.remove.ensures.value ∙ there) c.remove.ensures.removed in
    rw (new, c.in-Some.ensures.found) (in_order_filtered (is_other c.args.key.now.timer) _ c.self.invariant)
