use Rattle.std.proofs.Common.{arith}
use Rattle.st_agenda.proofs.PendingLemmas.{sound_later}
use Rattle.st_agenda.proofs.pending.Pending.take_number.Goals as goal

pub invariant_of-self : goal.invariant_of-self
invariant_of-self g c =
    let inside = c.self.inside in
    let below = rw (← c.self.view_is) at c.requires in
    sound_later inside.queue inside.received inside.next_number c.self.invariant (omega (arith, below))
