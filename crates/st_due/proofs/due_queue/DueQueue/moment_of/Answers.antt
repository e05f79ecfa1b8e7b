use Rattle.std.proofs.Common.{sym, ◌∙◌}
use Rattle.st_due.proofs.PlacesLemmas.{moment_ordered}
use Rattle.st_due.proofs.due_queue.DueQueue.moment_of.Goals as goal

pub returns : goal.returns
returns c =
    rw (← c.self.view_is) (c.copied.ensures ∙ (c.get.ensures.value ∙ sym (moment_ordered c.args.machine c.self.inside.moments.entries c.self.invariant.once_each)))
