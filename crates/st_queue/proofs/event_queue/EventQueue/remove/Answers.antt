use Rattle.std.proofs.Common.{rules, sym, ◌∙◌}
use Rattle.st_queue.proofs.QueueLemmas.{is_without_current, is_current, none_at_end, not_at_end, length_of_items, on_some}
use Rattle.st_queue.proofs.event_queue.EventQueue.remove.Goals as goal

pub returns-then-len-eq0-clause-event : goal.returns-then-len-eq0-clause-event
returns-then-len-eq0-clause-event g c = rw (← c.self.view_is) (sym (none_at_end c.self.inside.passed.items c.self.inside.rest.items c.self.invariant.0 c.self.invariant.1 (sym c.len.ensures.0 ∙ c.if-len-eq0.true)))

pub returns-then-len-eq0-clause-end : goal.returns-then-len-eq0-clause-end
returns-then-len-eq0-clause-end g c = let items = length_of_items c.self.inside.passed.items c.self.inside.rest.items c.self.invariant.0 c.self.invariant.1 in rw (← c.self.view_is) (search rules)

pub returns-clause-event : goal.returns-clause-event
returns-clause-event g c =
    rw (← c.self.view_is) (is_current c.self.inside.passed.items c.self.inside.rest.items c.detach_first-event.new.self.items c.detach_first-event.result.0 c.self.invariant.0 c.self.invariant.1 c.detach_first-event.ensures.0)

pub returns-clause-removed : goal.returns-clause-removed
returns-clause-removed g c =
    rw (← c.self.view_is)
    (on_some c.detach_first-event.result.0 _ (is_without_current c.self.inside.passed.items c.self.inside.rest.items c.detach_first-event.new.self.items c.self.inside.spare.items c.detach_first-event.result.0 c.self.invariant.0 c.self.invariant.1 c.detach_first-event.ensures.0))

pub returns-clause-end : goal.returns-clause-end
returns-clause-end g c =
    rw (← c.self.view_is) (not_at_end c.self.inside.passed.items c.self.inside.rest.items c.detach_first-event.new.self.items c.detach_first-event.result.0 c.self.invariant.0 c.self.invariant.1 c.detach_first-event.ensures.0)
