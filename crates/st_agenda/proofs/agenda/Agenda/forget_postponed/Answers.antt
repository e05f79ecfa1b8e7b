use Rattle.st_agenda.proofs.SweepLemmas.{kept_retried}
use Rattle.st_agenda.proofs.agenda.Agenda.forget_postponed.Goals as goal

pub invariant_of-self : goal.invariant_of-self
invariant_of-self g c =
    let inside = c.self.inside in
    kept_retried inside.pending c.retry.new.self inside.timeouts.listed inside.expiries c.self.invariant c.in_order.ensures c.retry.ensures
