use Rattle.std.proofs.Common.{arith}
use Rattle.std.proofs.lemmas.List.{length-append}
use Rattle.st_queue.proofs.QueueLemmas.{filled_append, is_rewound}
use Rattle.st_queue.proofs.event_queue.EventQueue.rewind.Goals as goal

pub invariant_of-self : goal.invariant_of-self
invariant_of-self g c =
    let both = length-append c.self.inside.passed.items c.self.inside.rest.items in
    let bound = c.self.invariant.2 in
    rw (c.swap.ensures.x_after, c.swap.ensures.y_after, c.join.ensures.0, c.join.ensures.1)
    (tt, filled_append c.self.inside.passed.items c.self.inside.rest.items c.self.invariant.0 c.self.invariant.1, omega arith, c.self.invariant.3)

pub returns-clause-rewound : goal.returns-clause-rewound
returns-clause-rewound g c = rw (← c.self.view_is, c.swap.ensures.x_after, c.swap.ensures.y_after, c.join.ensures.0, c.join.ensures.1) (is_rewound c.self.inside.passed.items c.self.inside.rest.items c.self.inside.spare.items)
