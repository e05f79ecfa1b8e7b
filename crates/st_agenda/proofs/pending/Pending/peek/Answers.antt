use Rattle.std.proofs.Common.{sym, ◌∙◌}
use Rattle.st_agenda.proofs.PendingLemmas.{next_is}
use Rattle.st_agenda.proofs.pending.Pending.peek.Goals as goal

-- the event at the cursor is the next one
pub returns : goal.returns
returns g c =
    let inside = c.self.inside in
    rw (← c.self.view_is) (c.peek.ensures.event ∙ sym (next_is inside.queue.cursor inside.received inside.queue.items c.self.invariant.within c.self.invariant.distinct))
