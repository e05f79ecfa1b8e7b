use Rattle.st_queue.proofs.QueueLemmas.{is_inserted}
use Rattle.st_queue.proofs.event_queue.EventQueue.insert_staged.Goals as goal

pub returns-clause-inserted : goal.returns-clause-inserted
returns-clause-inserted g c =
    rw (← c.self.view_is, c.attach_front.ensures.0)
    (is_inserted c.self.inside.passed.items c.self.inside.rest.items c.self.inside.spare.items c.detach_first-nothing.new.self.items c.detach_first-nothing.result.0 c.args.event c.self.invariant.0 c.detach_first-nothing.ensures.0)
