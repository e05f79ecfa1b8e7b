use Rattle.std.proofs.Common.{rules, length, [], ◌∷◌, ap, subst, arith}
use Rattle.std.proofs.lemmas.List.{length-append}
use Rattle.st_queue.specs.Filled.{AreFilled}
use Rattle.st_queue.proofs.QueueLemmas.{filled_append, filled_rest, filled_first, is_skipped, length_of_items}
use Rattle.st_queue.proofs.event_queue.EventQueue.skip.Goals as goal

pub returns-then-len-eq0-clause-end : goal.returns-then-len-eq0-clause-end
returns-then-len-eq0-clause-end g c = let items = length_of_items c.self.inside.passed.items c.self.inside.rest.items c.self.invariant.0 c.self.invariant.1 in rw (← c.self.view_is) (search rules)

pub invariant_of-self : goal.invariant_of-self
invariant_of-self g c =
    let fewer = ap length c.detach_first-event.ensures.0 in
    let longer = length-append c.self.inside.passed.items (c.detach_first-event.result.0 ∷ []) in
    let filled = subst AreFilled c.detach_first-event.ensures.0 c.self.invariant.1 in
    let bound = c.self.invariant.2 in
    let first = filled_first c.detach_first-event.result.0 c.detach_first-event.new.self.items filled in
    let left = filled_rest c.detach_first-event.result.0 c.detach_first-event.new.self.items filled in
    rw c.attach_behind.ensures.0 (filled_append c.self.inside.passed.items (c.detach_first-event.result.0 ∷ []) c.self.invariant.0 first, left, omega arith, c.self.invariant.3)

pub returns-clause-end : goal.returns-clause-end
returns-clause-end g c =
    let items = length_of_items c.self.inside.passed.items c.self.inside.rest.items c.self.invariant.0 c.self.invariant.1 in
    let fewer = ap length c.detach_first-event.ensures.0 in
    rw (← c.self.view_is) (search rules)

pub returns-clause-skipped : goal.returns-clause-skipped
returns-clause-skipped g c =
    rw (← c.self.view_is, c.attach_behind.ensures.0)
    (is_skipped c.self.inside.passed.items c.self.inside.rest.items c.detach_first-event.new.self.items c.self.inside.spare.items c.detach_first-event.result.0 c.self.invariant.1 c.detach_first-event.ensures.0)
