use Rattle.std.proofs.Common.{sym, ◌∙◌}
use Rattle.st_due.proofs.PlacesLemmas.{length_ordered, in_order, once_each}
use Rattle.st_due.proofs.due_queue.DueQueue.len.Goals as goal

pub returns-clause-count : goal.returns-clause-count
returns-clause-count c = rw (← c.self.view_is) (c.len.ensures.len ∙ sym (length_ordered c.self.inside.moments.entries))

pub returns-clause-in_order : goal.returns-clause-in_order
returns-clause-in_order c = rw (← c.self.view_is) (in_order c.self.inside.moments.entries c.self.invariant.once_each)

pub returns-clause-once_each : goal.returns-clause-once_each
returns-clause-once_each c = rw (← c.self.view_is) (once_each c.self.inside.moments.entries c.self.invariant.once_each)
