use Rattle.std.proofs.Common.{◌∙◌}
use Rattle.st_agenda.proofs.ExpireLemmas.{due_is, some_first, handed_none, handed_is, handed_out_is, expiry_free, expiry_below, expiring_kept, expiring_schedule, expiring_rest, taken_name, taken_out, pushed_named, slots_more, first_expiry_is, rest_is}
use Rattle.st_agenda.proofs.agenda.Agenda.expire_next.Goals as goal

pub unreachable-requires : goal.unreachable-requires
unreachable-requires g c =
    let inside = c.self.inside in
    let now = c.requires.due.0 in
    let due = due_is inside.pending inside.timeouts.listed inside.expiries now c.self.invariant in
    let there = rw due at (rw (← c.self.view_is) at c.requires.due.1) in
    let some = some_first _ there in
    handed_none _ some.0 some.1 some.2 (taken_name now inside.timeouts.listed _ there c.in_default.ensures.expiry)

pub push_expiry-requires-clause-free : goal.push_expiry-requires-clause-free
push_expiry-requires-clause-free g c =
    let inside = c.self.inside in
    let now = c.requires.due.0 in
    let due = due_is inside.pending inside.timeouts.listed inside.expiries now c.self.invariant in
    let there = rw due at (rw (← c.self.view_is) at c.requires.due.1) in
    let some = some_first _ there in
    let named = handed_is _ some.0 some.1 c.in-Some.timer c.in-Some.number some.2 (taken_name now inside.timeouts.listed _ there c.in-Some.ensures.expiry) in
    rw named.1 (expiry_free inside.pending inside.timeouts.listed inside.expiries now c.self.invariant some.0 some.1 some.2)

pub push_expiry-requires-clause-below : goal.push_expiry-requires-clause-below
push_expiry-requires-clause-below g c =
    let inside = c.self.inside in
    let now = c.requires.due.0 in
    let due = due_is inside.pending inside.timeouts.listed inside.expiries now c.self.invariant in
    let there = rw due at (rw (← c.self.view_is) at c.requires.due.1) in
    let some = some_first _ there in
    let named = handed_is _ some.0 some.1 c.in-Some.timer c.in-Some.number some.2 (taken_name now inside.timeouts.listed _ there c.in-Some.ensures.expiry) in
    rw named.1 (expiry_below inside.pending inside.timeouts.listed inside.expiries now c.self.invariant some.0 some.1 some.2)

pub prove-unreachable-requires : goal.prove-unreachable-requires
prove-unreachable-requires g c =
    let inside = c.self.inside in
    let now = c.requires.due.0 in
    let due = due_is inside.pending inside.timeouts.listed inside.expiries now c.self.invariant in
    let there = rw due at (rw (← c.self.view_is) at c.requires.due.1) in
    let some = some_first _ there in
    let named = handed_is _ some.0 some.1 c.in-Some.timer c.in-Some.number some.2 (taken_name now inside.timeouts.listed _ there c.in-Some.ensures.expiry) in
    let pushed = pushed_named inside.pending c.push_expiry.new.self some.0 c.in-Some.timer c.in-Some.number named.0 named.1 c.push_expiry.ensures in
    slots_more inside.pending c.push_expiry.new.self inside.timeouts.listed inside.expiries c.self.invariant.agrees some.0 pushed (rw c.len.ensures at c.if-prove.true)

pub invariant_of-self : goal.invariant_of-self
invariant_of-self g c =
    let inside = c.self.inside in
    let now = c.requires.due.0 in
    let due = due_is inside.pending inside.timeouts.listed inside.expiries now c.self.invariant in
    let there = rw due at (rw (← c.self.view_is) at c.requires.due.1) in
    let some = some_first _ there in
    let named = handed_is _ some.0 some.1 c.in-Some.timer c.in-Some.number some.2 (taken_name now inside.timeouts.listed _ there c.in-Some.ensures.expiry) in
    let pushed = pushed_named inside.pending c.push_expiry.new.self some.0 c.in-Some.timer c.in-Some.number named.0 named.1 c.push_expiry.ensures in
    let listed = handed_out_is inside.timeouts c.take_due.new.self _ some.0 some.1 some.2 (taken_out now inside.timeouts c.take_due.new.self there c.take_due.ensures.handed_out) in
    rw listed (expiring_kept inside.pending inside.timeouts.listed inside.expiries now c.self.invariant some.0 some.1 some.2 c.push_expiry.new.self c.in_order.ensures pushed)

pub returns-clause-schedule : goal.returns-clause-schedule
returns-clause-schedule g c = λ now is_due.
    let inside = c.self.inside in
    let due = due_is inside.pending inside.timeouts.listed inside.expiries now c.self.invariant in
    let there = rw due at (rw (← c.self.view_is) at is_due) in
    let some = some_first _ there in
    let named = handed_is _ some.0 some.1 c.in-Some.timer c.in-Some.number some.2 (taken_name now inside.timeouts.listed _ there c.in-Some.ensures.expiry) in
    let pushed = pushed_named inside.pending c.push_expiry.new.self some.0 c.in-Some.timer c.in-Some.number named.0 named.1 c.push_expiry.ensures in
    let listed = handed_out_is inside.timeouts c.take_due.new.self _ some.0 some.1 some.2 (taken_out now inside.timeouts c.take_due.new.self there c.take_due.ensures.handed_out) in
    rw (← c.self.view_is, listed) (expiring_schedule inside.pending inside.timeouts.listed inside.expiries now c.self.invariant some.0 some.1 some.2 c.push_expiry.new.self c.in_order.ensures pushed ∙ first_expiry_is _ some.0 some.1 _ (due ∙ some.2))

pub returns-clause-rest : goal.returns-clause-rest
returns-clause-rest g c = λ now is_due.
    let inside = c.self.inside in
    let due = due_is inside.pending inside.timeouts.listed inside.expiries now c.self.invariant in
    let there = rw due at (rw (← c.self.view_is) at is_due) in
    let some = some_first _ there in
    let named = handed_is _ some.0 some.1 c.in-Some.timer c.in-Some.number some.2 (taken_name now inside.timeouts.listed _ there c.in-Some.ensures.expiry) in
    let pushed = pushed_named inside.pending c.push_expiry.new.self some.0 c.in-Some.timer c.in-Some.number named.0 named.1 c.push_expiry.ensures in
    let listed = handed_out_is inside.timeouts c.take_due.new.self _ some.0 some.1 some.2 (taken_out now inside.timeouts c.take_due.new.self there c.take_due.ensures.handed_out) in
    rw (← c.self.view_is, listed) (expiring_rest inside.pending inside.timeouts.listed inside.expiries now c.self.invariant some.0 some.1 some.2 c.push_expiry.new.self c.in_order.ensures pushed ∙ rest_is _ some.0 some.1 (due ∙ some.2))
