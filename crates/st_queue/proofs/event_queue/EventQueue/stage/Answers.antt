use Rattle.std.proofs.Common.{length, ◌∙◌, ap, arith}
use Rattle.std.proofs.lemmas.List.{length-append}
use Rattle.st_queue.proofs.QueueLemmas.{length_of_items}
use Rattle.st_queue.proofs.event_queue.EventQueue.stage.Goals as goal

pub fill-requires-clause-small : goal.fill-requires-clause-small
fill-requires-clause-small g c =
    let items = length_of_items c.self.inside.passed.items c.self.inside.rest.items c.self.invariant.0 c.self.invariant.1 in
    let bound = c.self.invariant.2 in
    let moved = ap (λ chain. length chain.items) c.swap.ensures.x_after in
    omega arith

pub invariant_of-self-3 : goal.invariant_of-self-3
invariant_of-self-3 g c =
    let items = length_of_items c.self.inside.passed.items c.self.inside.rest.items c.self.invariant.0 c.self.invariant.1 in
    let bound = c.in_ok-fill.ensures.small in
    let longer = length-append c.self.inside.spare.items c.fill.new.made.items in
    let filled = c.in_ok-fill.ensures.count in
    let none = ap (λ chain. chain.items) c.swap.ensures.y_after ∙ c.new-made.ensures in
    rw (c.join.ensures.0, none) (c.self.invariant.0, c.self.invariant.1, omega arith, (tt, omega arith))
