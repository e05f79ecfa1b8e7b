use Rattle.std.proofs.Common.{length, Some, [], ◌∷◌, ap, arith}
use Rattle.std.proofs.lemmas.List.{length-append}
use Rattle.st_queue.proofs.QueueLemmas.{filled_append, is_pushed_staged}
use Rattle.st_queue.proofs.event_queue.EventQueue.push_staged.Goals as goal

pub invariant_of-self : goal.invariant_of-self
invariant_of-self g c =
    let fewer = ap length c.detach_first-nothing.ensures.0 in
    let longer = length-append c.self.inside.rest.items (Some c.args.event ∷ []) in
    let bound = c.self.invariant.2 in
    rw c.attach_behind.ensures.0 (c.self.invariant.0, filled_append c.self.inside.rest.items (Some c.args.event ∷ []) c.self.invariant.1 tt, omega arith, c.self.invariant.3)

pub returns-clause-pushed : goal.returns-clause-pushed
returns-clause-pushed g c =
    rw (← c.self.view_is, c.attach_behind.ensures.0)
    (is_pushed_staged c.self.inside.passed.items c.self.inside.rest.items c.self.inside.spare.items c.detach_first-nothing.new.self.items c.detach_first-nothing.result.0 c.args.event c.detach_first-nothing.ensures.0)
