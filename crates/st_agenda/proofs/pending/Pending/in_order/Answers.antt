use Rattle.st_agenda.proofs.PendingLemmas.{in_order_of}
use Rattle.st_agenda.proofs.pending.Pending.in_order.Goals as goal

pub returns : goal.returns
returns g c =
    let inside = c.self.inside in
    rw (← c.self.view_is) (in_order_of inside.queue inside.received inside.next_number c.self.invariant)
