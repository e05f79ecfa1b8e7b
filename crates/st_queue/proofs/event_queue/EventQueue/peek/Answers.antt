use Rattle.std.proofs.Common.{rules, is_some, sym, ◌∙◌}
use Rattle.st_queue.proofs.QueueLemmas.{length_of_items, lent_is_current, lent_not_at_end, none_at_end}
use Rattle.st_queue.proofs.event_queue.EventQueue.peek.Goals as goal

pub returns-then-len-eq0-clause-event : goal.returns-then-len-eq0-clause-event
returns-then-len-eq0-clause-event g c = rw (← c.self.view_is) (sym (none_at_end c.self.inside.passed.items c.self.inside.rest.items c.self.invariant.0 c.self.invariant.1 (sym c.len.ensures.0 ∙ c.if-len-eq0.true)))

pub returns-then-len-eq0-clause-end : goal.returns-then-len-eq0-clause-end
returns-then-len-eq0-clause-end g c = let items = length_of_items c.self.inside.passed.items c.self.inside.rest.items c.self.invariant.0 c.self.invariant.1 in rw (← c.self.view_is) (search rules)

pub returns-clause-event : goal.returns-clause-event
returns-clause-event g c =
    rw (← c.self.view_is) (c.as_ref.ensures.value ∙ lent_is_current c.self.inside.passed.items c.self.inside.rest.items c.lend_first.result.now c.self.invariant.0 c.self.invariant.1 (λ none. c.if-len-eq0.false (c.len.ensures.0 ∙ none)) c.lend_first.ensures)

pub returns-clause-end : goal.returns-clause-end
returns-clause-end g c =
    rw (← c.self.view_is) (lent_not_at_end c.self.inside.passed.items c.self.inside.rest.items c.lend_first.result.now (is_some c.as_ref.result) c.self.invariant.0 c.self.invariant.1 (λ none. c.if-len-eq0.false (c.len.ensures.0 ∙ none)) c.lend_first.ensures c.as_ref.ensures.variant)
