use Rattle.st_core.proofs.LawfulLemmas.{lawful_ended}
use Rattle.st_core.proofs.TransitionLemmas.{machine_of}
use Rattle.st_core.proofs.engine.Core.end.Goals as goal

-- it can come about
pub invariant_of-self : goal.invariant_of-self
invariant_of-self g c =
    let old = c.self.inside in
    rw (c.close.ensures, c.new.ensures, c.next_number.ensures.next_number)
    (lawful_ended (machine_of old.id old.state old.data old.agenda.schedule old.requests old.outgoing.outbox old.latest old.ended) c.args.reason c.args.word c.self.invariant)
