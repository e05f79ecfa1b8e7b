use Rattle.std.proofs.Common.{◌+◌, ◌^◌, ◌<◌, length, is_some, Some, [], ◌∷◌, sym, ap, subst, arith}
use Rattle.std.proofs.lemmas.List.{length-append}
use Rattle.st_queue.proofs.QueueLemmas.{filled_append, is_pushed, length_of_items}
use Rattle.st_queue.proofs.event_queue.EventQueue.push_back.Goals as goal

-- on a node that was kept
pub invariant_of-self : goal.invariant_of-self
invariant_of-self g c =
    let fewer = c.take_kept-node.ensures.taken in
    let bound = c.self.invariant.2 in
    let longer = length-append c.self.inside.rest.items (Some c.args.event ∷ []) in
    rw c.attach_behind.ensures.0 (c.self.invariant.0, filled_append c.self.inside.rest.items (Some c.args.event ∷ []) c.self.invariant.1 tt, omega arith, c.take_kept-node.ensures.kept)

pub returns-then-len-gt0-clause-pushed : goal.returns-then-len-gt0-clause-pushed
returns-then-len-gt0-clause-pushed g c = rw (← c.self.view_is, c.attach_behind.ensures.0) (is_pushed c.self.inside.passed.items c.self.inside.rest.items c.self.inside.spare.items c.args.event)

-- on a new one
pub attach_behind-requires-in-Some : goal.attach_behind-requires-in-Some
attach_behind-requires-in-Some g c =
    let fits = c.node_beside.ensures (ap is_some c.in-Some.is) in
    let items = length_of_items c.self.inside.passed.items c.self.inside.rest.items c.self.invariant.0 c.self.invariant.1 in
    let bound = subst (λ queue. length queue.items + queue.staged + 0 + 1 < 2 ^ 63) (sym c.self.view_is) fits in
    omega arith

pub invariant_of-self-in-Some : goal.invariant_of-self-in-Some
invariant_of-self-in-Some g c =
    let fits = c.node_beside.ensures (ap is_some c.in-Some.is) in
    let items = length_of_items c.self.inside.passed.items c.self.inside.rest.items c.self.invariant.0 c.self.invariant.1 in
    let bound = subst (λ queue. length queue.items + queue.staged + 0 + 1 < 2 ^ 63) (sym c.self.view_is) fits in
    let longer = length-append c.self.inside.rest.items (Some c.args.event ∷ []) in
    rw c.attach_behind-in-Some.ensures.0 (c.self.invariant.0, filled_append c.self.inside.rest.items (Some c.args.event ∷ []) c.self.invariant.1 tt, omega arith, c.self.invariant.3)

pub returns-in-Some-clause-pushed : goal.returns-in-Some-clause-pushed
returns-in-Some-clause-pushed g c = rw (← c.self.view_is, c.attach_behind-in-Some.ensures.0) (is_pushed c.self.inside.passed.items c.self.inside.rest.items c.self.inside.spare.items c.args.event)
