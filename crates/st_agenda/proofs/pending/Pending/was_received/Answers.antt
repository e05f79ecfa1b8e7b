use Rattle.st_agenda.proofs.PendingLemmas.{was_received_is}
use Rattle.st_agenda.proofs.pending.Pending.was_received.Goals as goal

pub returns : goal.returns
returns g c =
    let inside = c.self.inside in
    rw (← c.self.view_is, c.before-2.ensures.cursor) (was_received_is inside.queue inside.received inside.next_number c.self.invariant)
