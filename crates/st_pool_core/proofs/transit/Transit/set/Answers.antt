use Rattle.std.proofs.Common.{◌-◌, refl, arith}
use Rattle.st_pool_core.proofs.QueueLemmas.{set_changed}
use Rattle.st_pool_core.proofs.transit.Transit.set.Goals as goal

pub returns : goal.returns
returns g c =
    let there = rw (← c.self.view_is) at c.requires.there in
    rw (← c.self.view_is) (set_changed (c.args.worker - 1) _ c.self.inside.hands.items c.index_mut-hand.result.now c.args.message
    (omega (arith, c.requires.from_one, there)) c.index_mut-hand.ensures.value refl)
