use Rattle.st_core.proofs.LawfulLemmas.{lawful_out}
use Rattle.st_core.proofs.TransitionLemmas.{machine_of}
use Rattle.st_core.proofs.engine.Core.take_out.Goals as goal

-- it can come about
pub invariant_of-self : goal.invariant_of-self
invariant_of-self g c =
    let old = c.self.inside in
    rw c.take.ensures.left
    (lawful_out (machine_of old.id old.state old.data old.agenda.schedule old.requests old.outgoing.outbox old.latest old.ended) c.self.invariant)
