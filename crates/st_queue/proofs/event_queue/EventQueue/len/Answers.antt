use Rattle.std.proofs.Common.{rules}
use Rattle.st_queue.proofs.QueueLemmas.{length_of_items}
use Rattle.st_queue.proofs.event_queue.EventQueue.len.Goals as goal

pub returns : goal.returns
returns g c = let items = length_of_items c.self.inside.passed.items c.self.inside.rest.items c.self.invariant.0 c.self.invariant.1 in rw (← c.self.view_is) (search rules)
