use Rattle.std.proofs.Common.{◌<◌, ◌^◌, arith}
use Rattle.st_core.proofs.LawfulLemmas.{lawful_moment, lawful_expired}
use Rattle.st_core.proofs.TransitionLemmas.{machine_of}
use Rattle.st_core.specs.Transition.{with_moment}
use Rattle.st_core.proofs.engine.Core.tick.Goals as goal

-- it can come about
pub invariant_of-self-2 : goal.invariant_of-self-2
invariant_of-self-2 g c =
    let old = c.self.inside in
    let machine = machine_of old.id old.state old.data old.agenda.schedule old.requests old.outgoing.outbox old.latest old.ended in
    let early : c.args.now < 2 ^ 63 = omega (arith, c.if-now-ge-MOMENT_LIMIT.false) in
    let lawful = lawful_expired (with_moment machine c.args.now) c.in_default.is (lawful_moment machine c.args.now early c.self.invariant) in
    rw (c.in_ok-count.ensures.expired, c.max-latest.ensures) lawful
