use Rattle.std.proofs.Common.{refl}
use Rattle.st_timeouts.proofs.FallingLemmas.{inserted, late_in_order}
use Rattle.st_timeouts.proofs.order.Order.put.Goals as goal

pub invariant_of-self : goal.invariant_of-self
invariant_of-self c =
    let keys = c.self.inside.keys.items in
    let put = inserted keys c.place_for-place.result c.args.key c.place_for-place.ensures.before c.place_for-place.ensures.behind in
    rw (c.insert.ensures, put) (late_in_order c.args.key _ c.self.invariant)

pub returns : goal.returns
returns c =
    let keys = c.self.inside.keys.items in
    let put = inserted keys c.place_for-place.result c.args.key c.place_for-place.ensures.before c.place_for-place.ensures.behind in
    rw (← c.self.view_is, c.insert.ensures, put) refl
