use Rattle.std.proofs.Common.{◌-◌, sym, ◌∙◌}
use Rattle.st_pool_core.proofs.QueueLemmas.{set_changed, on_some}
use Rattle.st_pool_core.proofs.HandLemmas.{carrier_there}
use Rattle.st_pool_core.proofs.transit.Transit.take.Goals as goal

-- nothing is in that hand any more
pub returns-clause-left : goal.returns-clause-left
returns-clause-left g c =
    let there = rw (← c.self.view_is) at (carrier_there c.args.self.now c.args.worker (sym c.is_carrying.ensures ∙ c.if-not-is_carrying.false)) in
    on_some _ c.take.result (rw (← c.self.view_is) (set_changed (c.args.worker - 1) _ c.self.inside.hands.items c.index_mut-hand.result.now c.take.new.self
    there.1 c.index_mut-hand.ensures.value c.take.ensures.after))
