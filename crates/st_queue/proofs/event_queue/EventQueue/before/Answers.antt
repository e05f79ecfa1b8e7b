use Rattle.std.proofs.Common.{arith}
use Rattle.st_queue.proofs.QueueLemmas.{length_of_items}
use Rattle.st_queue.proofs.event_queue.EventQueue.before.Goals as goal

pub returns-clause-within : goal.returns-clause-within
returns-clause-within g c = let items = length_of_items c.self.inside.passed.items c.self.inside.rest.items c.self.invariant.0 c.self.invariant.1 in rw (← c.self.view_is) (omega arith)
