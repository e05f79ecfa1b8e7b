use Rattle.std.proofs.Common.{refl, sym, ap, ◌∙◌, Some, arith}
use Rattle.std.specs.Option.{option_map}
use Rattle.st_timeouts.specs.Timeouts.{Timeouts}
use Rattle.st_agenda.specs.Slots.{number_of}
use Rattle.st_agenda.proofs.AgendaLemmas.{unseen_expiry}
use Rattle.st_agenda.proofs.ChoiceLemmas.{no_name}
use Rattle.st_agenda.proofs.ReceiveLemmas.{not_some, handed, taken_is, event_is, unseen_event, unseen_nothing, resumed_is, resumed_first, lapsed_running, lapsed_live, lapsed_free, lapsed_below, lapsed_kept, lapsed_is, lapsed_first, arrived_kept, arrived_is, arrived_first, nothing_is, nothing_first, expired_running, expired_counted, expired_below, expired_gone, expired_kept, expired_is, expired_first}
use Rattle.st_agenda.proofs.agenda.Agenda.receive.Goals as goal

-- an event that was received
pub returns-then-was_received-clause-schedule : goal.returns-then-was_received-clause-schedule
returns-then-was_received-clause-schedule g c =
    let inside = c.self.inside in
    rw (← c.self.view_is) (resumed_is inside.pending inside.timeouts.listed inside.expiries c.self.invariant (sym c.was_received.ensures ∙ c.if-was_received.true))

pub returns-then-was_received-clause-first : goal.returns-then-was_received-clause-first
returns-then-was_received-clause-first g c =
    let inside = c.self.inside in
    rw (← c.self.view_is) (resumed_first inside.pending inside.timeouts.listed inside.expiries c.self.invariant (sym c.was_received.ensures ∙ c.if-was_received.true))

-- a time-out that is due at once
pub unreachable-requires : goal.unreachable-requires
unreachable-requires g c =
    let inside = c.self.inside in
    let unseen = not_some _ (sym c.was_received.ensures ∙ c.if-was_received.false) in
    let zero = c.in-Some.ensures in
    handed c.in-Some.timer c.in-Some.number inside.timeouts.listed _ (lapsed_live inside.pending inside.timeouts.listed inside.expiries c.self.invariant unseen c.in-Some.timer c.in-Some.number zero) c.in_default-take.is c.take.ensures.content

pub put_in-requires-clause-free : goal.put_in-requires-clause-free
put_in-requires-clause-free g c =
    let inside = c.self.inside in
    let unseen = not_some _ (sym c.was_received.ensures ∙ c.if-was_received.false) in
    let zero = c.in-Some.ensures in
    rw c.timeout_event.ensures (lapsed_free inside.pending inside.timeouts.listed inside.expiries c.self.invariant unseen c.in-Some.timer c.in-Some.number zero)

pub put_in-requires-clause-below : goal.put_in-requires-clause-below
put_in-requires-clause-below g c =
    let inside = c.self.inside in
    let unseen = not_some _ (sym c.was_received.ensures ∙ c.if-was_received.false) in
    let zero = c.in-Some.ensures in
    rw c.timeout_event.ensures (lapsed_below inside.pending inside.timeouts.listed inside.expiries c.self.invariant unseen c.in-Some.timer c.in-Some.number zero)

pub invariant_of-self : goal.invariant_of-self
invariant_of-self g c =
    let inside = c.self.inside in
    let unseen = not_some _ (sym c.was_received.ensures ∙ c.if-was_received.false) in
    let zero = c.in-Some.ensures in
    let runs = lapsed_running inside.pending inside.timeouts.listed inside.expiries c.self.invariant unseen c.in-Some.timer c.in-Some.number zero in
    let alive = lapsed_live inside.pending inside.timeouts.listed inside.expiries c.self.invariant unseen c.in-Some.timer c.in-Some.number zero in
    let taken = taken_is inside.timeouts c.take.new.self c.in-Some.timer c.in-Some.number runs.0 alive c.take.ensures.taken in
    let event = event_is c.timeout_event.result c.in-Some.timer c.in-Some.number c.in-Some-take.content inside.timeouts.listed runs.0 alive c.in-Some-take.ensures.content c.timeout_event.ensures in
    let left = ap (λ (t : Timeouts _). t.listed) taken in
    rw left (lapsed_kept inside.pending inside.timeouts.listed inside.expiries c.self.invariant unseen c.in-Some.timer c.in-Some.number zero c.put_in.new.self c.timeout_event.result c.in_order.ensures event c.put_in.ensures)

pub returns-in-Some-clause-schedule : goal.returns-in-Some-clause-schedule
returns-in-Some-clause-schedule g c =
    let inside = c.self.inside in
    let unseen = not_some _ (sym c.was_received.ensures ∙ c.if-was_received.false) in
    let zero = c.in-Some.ensures in
    let runs = lapsed_running inside.pending inside.timeouts.listed inside.expiries c.self.invariant unseen c.in-Some.timer c.in-Some.number zero in
    let alive = lapsed_live inside.pending inside.timeouts.listed inside.expiries c.self.invariant unseen c.in-Some.timer c.in-Some.number zero in
    let taken = taken_is inside.timeouts c.take.new.self c.in-Some.timer c.in-Some.number runs.0 alive c.take.ensures.taken in
    let event = event_is c.timeout_event.result c.in-Some.timer c.in-Some.number c.in-Some-take.content inside.timeouts.listed runs.0 alive c.in-Some-take.ensures.content c.timeout_event.ensures in
    let left = ap (λ (t : Timeouts _). t.listed) taken in
    rw (← c.self.view_is, left) (lapsed_is inside.pending inside.timeouts.listed inside.expiries c.self.invariant unseen c.in-Some.timer c.in-Some.number zero c.put_in.new.self c.timeout_event.result c.in_order.ensures event c.put_in.ensures)

pub returns-in-Some-clause-first : goal.returns-in-Some-clause-first
returns-in-Some-clause-first g c =
    let inside = c.self.inside in
    let unseen = not_some _ (sym c.was_received.ensures ∙ c.if-was_received.false) in
    let zero = c.in-Some.ensures in
    let runs = lapsed_running inside.pending inside.timeouts.listed inside.expiries c.self.invariant unseen c.in-Some.timer c.in-Some.number zero in
    let alive = lapsed_live inside.pending inside.timeouts.listed inside.expiries c.self.invariant unseen c.in-Some.timer c.in-Some.number zero in
    let taken = taken_is inside.timeouts c.take.new.self c.in-Some.timer c.in-Some.number runs.0 alive c.take.ensures.taken in
    let event = event_is c.timeout_event.result c.in-Some.timer c.in-Some.number c.in-Some-take.content inside.timeouts.listed runs.0 alive c.in-Some-take.ensures.content c.timeout_event.ensures in
    let left = ap (λ (t : Timeouts _). t.listed) taken in
    rw (← c.self.view_is, left) (lapsed_first inside.pending inside.timeouts.listed inside.expiries c.self.invariant unseen c.in-Some.timer c.in-Some.number zero c.put_in.new.self c.timeout_event.result c.in_order.ensures event c.put_in.ensures)

-- a posted event
pub invariant_of-self-in-Some-Event : goal.invariant_of-self-in-Some-Event
invariant_of-self-in-Some-Event g c =
    let inside = c.self.inside in
    let unseen = not_some _ (sym c.was_received.ensures ∙ c.if-was_received.false) in
    let no_zero = no_name _ (sym c.in_default.ensures) in
    let front = unseen_event inside.pending.postponed inside.pending.items unseen (sym c.in-Some-Event.ensures ∙ ap Some c.in-Some-Event.field-0-is) in
    arrived_kept inside.pending inside.timeouts.listed inside.expiries c.self.invariant unseen no_zero c.in-Some-Event.event front c.receive.new.self c.in_order-in-Some-Event.ensures c.receive.ensures

pub returns-in-Some-Event-clause-schedule : goal.returns-in-Some-Event-clause-schedule
returns-in-Some-Event-clause-schedule g c =
    let inside = c.self.inside in
    let unseen = not_some _ (sym c.was_received.ensures ∙ c.if-was_received.false) in
    let no_zero = no_name _ (sym c.in_default.ensures) in
    let front = unseen_event inside.pending.postponed inside.pending.items unseen (sym c.in-Some-Event.ensures ∙ ap Some c.in-Some-Event.field-0-is) in
    rw (← c.self.view_is) (arrived_is inside.pending inside.timeouts.listed inside.expiries c.self.invariant unseen no_zero c.in-Some-Event.event front c.receive.new.self c.in_order-in-Some-Event.ensures c.receive.ensures)

pub returns-in-Some-Event-clause-first : goal.returns-in-Some-Event-clause-first
returns-in-Some-Event-clause-first g c =
    let inside = c.self.inside in
    let unseen = not_some _ (sym c.was_received.ensures ∙ c.if-was_received.false) in
    let no_zero = no_name _ (sym c.in_default.ensures) in
    let front = unseen_event inside.pending.postponed inside.pending.items unseen (sym c.in-Some-Event.ensures ∙ ap Some c.in-Some-Event.field-0-is) in
    rw (← c.self.view_is) (arrived_first inside.pending inside.timeouts.listed inside.expiries c.self.invariant unseen no_zero c.in-Some-Event.event front c.receive.new.self c.in_order-in-Some-Event.ensures c.receive.ensures)

-- nothing
pub returns-in-None-clause-schedule : goal.returns-in-None-clause-schedule
returns-in-None-clause-schedule g c =
    let inside = c.self.inside in
    let unseen = not_some _ (sym c.was_received.ensures ∙ c.if-was_received.false) in
    let no_zero = no_name _ (sym c.in_default.ensures) in
    let front = unseen_nothing inside.pending.postponed inside.pending.items unseen (sym c.in-None.ensures) in
    rw (← c.self.view_is) (nothing_is inside.pending inside.timeouts.listed inside.expiries c.self.invariant unseen no_zero front)

pub returns-in-None-clause-first : goal.returns-in-None-clause-first
returns-in-None-clause-first g c =
    let inside = c.self.inside in
    let unseen = not_some _ (sym c.was_received.ensures ∙ c.if-was_received.false) in
    let no_zero = no_name _ (sym c.in_default.ensures) in
    let front = unseen_nothing inside.pending.postponed inside.pending.items unseen (sym c.in-None.ensures) in
    rw (← c.self.view_is) (nothing_first inside.pending inside.timeouts.listed inside.expiries c.self.invariant unseen no_zero front)

-- an expiry
pub overflow_sub-self : goal.overflow_sub-self
overflow_sub-self g c =
    let inside = c.self.inside in
    let unseen = not_some _ (sym c.was_received.ensures ∙ c.if-was_received.false) in
    let no_zero = no_name _ (sym c.in_default.ensures) in
    let front = unseen_expiry inside.pending.postponed inside.pending.items c.in-Some-Expiry.timer c.in-Some-Expiry.number c.self.invariant.agrees.events (sym c.in-Some-Expiry.ensures ∙ ap Some c.in-Some-Expiry.field-0-is) in
    expired_counted inside.pending inside.timeouts.listed inside.expiries c.self.invariant unseen no_zero c.in-Some-Expiry.timer c.in-Some-Expiry.number front.1

pub put_in-requires-in-Some-Expiry-clause-free : goal.put_in-requires-in-Some-Expiry-clause-free
put_in-requires-in-Some-Expiry-clause-free g c =
    let inside = c.self.inside in
    let unseen = not_some _ (sym c.was_received.ensures ∙ c.if-was_received.false) in
    let no_zero = no_name _ (sym c.in_default.ensures) in
    let front = unseen_expiry inside.pending.postponed inside.pending.items c.in-Some-Expiry.timer c.in-Some-Expiry.number c.self.invariant.agrees.events (sym c.in-Some-Expiry.ensures ∙ ap Some c.in-Some-Expiry.field-0-is) in
    rw (c.timeout_event-in-Some-Expiry.ensures, c.finish.ensures) (expired_gone inside.pending inside.timeouts.listed inside.expiries c.self.invariant unseen no_zero c.in-Some-Expiry.timer c.in-Some-Expiry.number front.1)

pub put_in-requires-in-Some-Expiry-clause-below : goal.put_in-requires-in-Some-Expiry-clause-below
put_in-requires-in-Some-Expiry-clause-below g c =
    let inside = c.self.inside in
    let unseen = not_some _ (sym c.was_received.ensures ∙ c.if-was_received.false) in
    let no_zero = no_name _ (sym c.in_default.ensures) in
    let front = unseen_expiry inside.pending.postponed inside.pending.items c.in-Some-Expiry.timer c.in-Some-Expiry.number c.self.invariant.agrees.events (sym c.in-Some-Expiry.ensures ∙ ap Some c.in-Some-Expiry.field-0-is) in
    rw (c.timeout_event-in-Some-Expiry.ensures, c.finish.ensures) (expired_below inside.pending inside.timeouts.listed inside.expiries c.self.invariant unseen no_zero c.in-Some-Expiry.timer c.in-Some-Expiry.number front.1)

pub invariant_of-self-in-Some-Expiry : goal.invariant_of-self-in-Some-Expiry
invariant_of-self-in-Some-Expiry g c =
    let inside = c.self.inside in
    let unseen = not_some _ (sym c.was_received.ensures ∙ c.if-was_received.false) in
    let no_zero = no_name _ (sym c.in_default.ensures) in
    let front = unseen_expiry inside.pending.postponed inside.pending.items c.in-Some-Expiry.timer c.in-Some-Expiry.number c.self.invariant.agrees.events (sym c.in-Some-Expiry.ensures ∙ ap Some c.in-Some-Expiry.field-0-is) in
    let runs = expired_running inside.pending inside.timeouts.listed inside.expiries c.self.invariant unseen no_zero c.in-Some-Expiry.timer c.in-Some-Expiry.number front.1 in
    let taken = taken_is inside.timeouts c.take-in-Some-Expiry.new.self c.in-Some-Expiry.timer c.in-Some-Expiry.number runs.0 runs.1 c.take-in-Some-Expiry.ensures.taken in
    let event = event_is c.timeout_event-in-Some-Expiry.result c.in-Some-Expiry.timer c.in-Some-Expiry.number c.in-Some-take-2.content inside.timeouts.listed runs.0 runs.1 c.in-Some-take-2.ensures.content c.timeout_event-in-Some-Expiry.ensures in
    let left = ap (λ (t : Timeouts _). t.listed) taken in
    rw left (expired_kept inside.pending inside.timeouts.listed inside.expiries c.self.invariant unseen no_zero c.in-Some-Expiry.timer c.in-Some-Expiry.number front.1 c.finish.new.self c.put_in-in-Some-Expiry.new.self c.timeout_event-in-Some-Expiry.result c.in_order-in-Some-Expiry.ensures c.in_order-in-Some-Expiry-2.ensures event c.finish.ensures c.put_in-in-Some-Expiry.ensures)

pub returns-in-Some-take-2-clause-schedule : goal.returns-in-Some-take-2-clause-schedule
returns-in-Some-take-2-clause-schedule g c =
    let inside = c.self.inside in
    let unseen = not_some _ (sym c.was_received.ensures ∙ c.if-was_received.false) in
    let no_zero = no_name _ (sym c.in_default.ensures) in
    let front = unseen_expiry inside.pending.postponed inside.pending.items c.in-Some-Expiry.timer c.in-Some-Expiry.number c.self.invariant.agrees.events (sym c.in-Some-Expiry.ensures ∙ ap Some c.in-Some-Expiry.field-0-is) in
    let runs = expired_running inside.pending inside.timeouts.listed inside.expiries c.self.invariant unseen no_zero c.in-Some-Expiry.timer c.in-Some-Expiry.number front.1 in
    let taken = taken_is inside.timeouts c.take-in-Some-Expiry.new.self c.in-Some-Expiry.timer c.in-Some-Expiry.number runs.0 runs.1 c.take-in-Some-Expiry.ensures.taken in
    let event = event_is c.timeout_event-in-Some-Expiry.result c.in-Some-Expiry.timer c.in-Some-Expiry.number c.in-Some-take-2.content inside.timeouts.listed runs.0 runs.1 c.in-Some-take-2.ensures.content c.timeout_event-in-Some-Expiry.ensures in
    let left = ap (λ (t : Timeouts _). t.listed) taken in
    rw (← c.self.view_is, left) (expired_is inside.pending inside.timeouts.listed inside.expiries c.self.invariant unseen no_zero c.in-Some-Expiry.timer c.in-Some-Expiry.number front.1 c.finish.new.self c.put_in-in-Some-Expiry.new.self c.timeout_event-in-Some-Expiry.result c.in_order-in-Some-Expiry.ensures c.in_order-in-Some-Expiry-2.ensures event c.finish.ensures c.put_in-in-Some-Expiry.ensures)

pub returns-in-Some-take-2-clause-first : goal.returns-in-Some-take-2-clause-first
returns-in-Some-take-2-clause-first g c =
    let inside = c.self.inside in
    let unseen = not_some _ (sym c.was_received.ensures ∙ c.if-was_received.false) in
    let no_zero = no_name _ (sym c.in_default.ensures) in
    let front = unseen_expiry inside.pending.postponed inside.pending.items c.in-Some-Expiry.timer c.in-Some-Expiry.number c.self.invariant.agrees.events (sym c.in-Some-Expiry.ensures ∙ ap Some c.in-Some-Expiry.field-0-is) in
    let runs = expired_running inside.pending inside.timeouts.listed inside.expiries c.self.invariant unseen no_zero c.in-Some-Expiry.timer c.in-Some-Expiry.number front.1 in
    let taken = taken_is inside.timeouts c.take-in-Some-Expiry.new.self c.in-Some-Expiry.timer c.in-Some-Expiry.number runs.0 runs.1 c.take-in-Some-Expiry.ensures.taken in
    let event = event_is c.timeout_event-in-Some-Expiry.result c.in-Some-Expiry.timer c.in-Some-Expiry.number c.in-Some-take-2.content inside.timeouts.listed runs.0 runs.1 c.in-Some-take-2.ensures.content c.timeout_event-in-Some-Expiry.ensures in
    let left = ap (λ (t : Timeouts _). t.listed) taken in
    rw (← c.self.view_is, left) (expired_first inside.pending inside.timeouts.listed inside.expiries c.self.invariant unseen no_zero c.in-Some-Expiry.timer c.in-Some-Expiry.number front.1 c.finish.new.self c.put_in-in-Some-Expiry.new.self c.timeout_event-in-Some-Expiry.result c.in_order-in-Some-Expiry.ensures c.in_order-in-Some-Expiry-2.ensures event c.finish.ensures c.put_in-in-Some-Expiry.ensures)

pub returns-then-was_received-clause-staged : goal.returns-then-was_received-clause-staged
returns-then-was_received-clause-staged g c = omega arith

pub returns-then-was_received-clause-reserved : goal.returns-then-was_received-clause-reserved
returns-then-was_received-clause-reserved g c = refl

pub put_in-requires-clause-reserved : goal.put_in-requires-clause-reserved
put_in-requires-clause-reserved g c = rw (← c.self.view_is) at c.requires

pub returns-in-Some-clause-staged : goal.returns-in-Some-clause-staged
returns-in-Some-clause-staged g c = rw (← c.self.view_is, c.put_in.ensures) (omega arith)

pub put_in-requires-in-Some-Expiry-clause-reserved : goal.put_in-requires-in-Some-Expiry-clause-reserved
put_in-requires-in-Some-Expiry-clause-reserved g c = rw c.finish.ensures (rw (← c.self.view_is) at c.requires)

pub returns-in-None-clause-staged : goal.returns-in-None-clause-staged
returns-in-None-clause-staged g c = omega arith

pub returns-in-None-clause-reserved : goal.returns-in-None-clause-reserved
returns-in-None-clause-reserved g c = refl

pub returns-in-Some-Event-clause-staged : goal.returns-in-Some-Event-clause-staged
returns-in-Some-Event-clause-staged g c = rw (← c.self.view_is, c.receive.ensures) (omega arith)

pub returns-in-Some-Event-clause-reserved : goal.returns-in-Some-Event-clause-reserved
returns-in-Some-Event-clause-reserved g c = rw (← c.self.view_is) refl

pub returns-in-Some-take-2-clause-staged : goal.returns-in-Some-take-2-clause-staged
returns-in-Some-take-2-clause-staged g c = rw (← c.self.view_is, c.put_in-in-Some-Expiry.ensures, c.finish.ensures) (omega arith)

pub unreachable-requires-in_default-take-2 : goal.unreachable-requires-in_default-take-2
unreachable-requires-in_default-take-2 g c =
    let inside = c.self.inside in
    let unseen = not_some _ (sym c.was_received.ensures ∙ c.if-was_received.false) in
    let no_zero = no_name _ (sym c.in_default.ensures) in
    let front = unseen_expiry inside.pending.postponed inside.pending.items c.in-Some-Expiry.timer c.in-Some-Expiry.number c.self.invariant.agrees.events (sym c.in-Some-Expiry.ensures ∙ ap Some c.in-Some-Expiry.field-0-is) in
    let runs = expired_running inside.pending inside.timeouts.listed inside.expiries c.self.invariant unseen no_zero c.in-Some-Expiry.timer c.in-Some-Expiry.number front.1 in
    handed c.in-Some-Expiry.timer c.in-Some-Expiry.number inside.timeouts.listed _ runs.1 c.in_default-take-2.is c.take-in-Some-Expiry.ensures.content

pub finish-requires : goal.finish-requires
finish-requires g c = ap (λ next. option_map number_of next) (sym c.in-Some-Expiry.ensures ∙ ap Some c.in-Some-Expiry.field-0-is)

pub receive-requires : goal.receive-requires
receive-requires g c = ap (λ next. option_map number_of next) (sym c.in-Some-Event.ensures ∙ ap Some c.in-Some-Event.field-0-is)

pub returns-in-Some-take-2-clause-reserved : goal.returns-in-Some-take-2-clause-reserved
returns-in-Some-take-2-clause-reserved g c =
    let inside = c.self.inside in
    let unseen = not_some _ (sym c.was_received.ensures ∙ c.if-was_received.false) in
    let no_zero = no_name _ (sym c.in_default.ensures) in
    let front = unseen_expiry inside.pending.postponed inside.pending.items c.in-Some-Expiry.timer c.in-Some-Expiry.number c.self.invariant.agrees.events (sym c.in-Some-Expiry.ensures ∙ ap Some c.in-Some-Expiry.field-0-is) in
    let runs = expired_running inside.pending inside.timeouts.listed inside.expiries c.self.invariant unseen no_zero c.in-Some-Expiry.timer c.in-Some-Expiry.number front.1 in
    let taken = taken_is inside.timeouts c.take-in-Some-Expiry.new.self c.in-Some-Expiry.timer c.in-Some-Expiry.number runs.0 runs.1 c.take-in-Some-Expiry.ensures.taken in
    rw (← c.self.view_is) (ap (λ (t : Timeouts _). t.reserved) taken)

pub returns-in-Some-clause-reserved : goal.returns-in-Some-clause-reserved
returns-in-Some-clause-reserved g c =
    let inside = c.self.inside in
    let unseen = not_some _ (sym c.was_received.ensures ∙ c.if-was_received.false) in
    let zero = c.in-Some.ensures in
    let runs = lapsed_running inside.pending inside.timeouts.listed inside.expiries c.self.invariant unseen c.in-Some.timer c.in-Some.number zero in
    let alive = lapsed_live inside.pending inside.timeouts.listed inside.expiries c.self.invariant unseen c.in-Some.timer c.in-Some.number zero in
    let taken = taken_is inside.timeouts c.take.new.self c.in-Some.timer c.in-Some.number runs.0 alive c.take.ensures.taken in
    rw (← c.self.view_is) (ap (λ (t : Timeouts _). t.reserved) taken)
