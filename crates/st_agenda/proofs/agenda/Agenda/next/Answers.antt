use Rattle.std.proofs.Common.{refl, sym, ap, ◌∙◌, Some}
use Rattle.st_agenda.proofs.ChoiceLemmas.{no_name, next_is_event, next_is_expiry, next_is_none, event_zero}
use Rattle.st_agenda.proofs.agenda.Agenda.next.Goals as goal

pub returns-in-Some : goal.returns-in-Some
returns-in-Some g c =
    let inside = c.self.inside in
    let zero = rw (← c.self.view_is) at c.in-Some.ensures in
    rw (← c.self.view_is) (c.seen_timeout.ensures ∙ event_zero inside.pending inside.timeouts.listed c.self.invariant.agrees.events c.self.invariant.agrees.one_each c.in-Some.timer c.in-Some.number zero)

pub returns-in-None : goal.returns-in-None
returns-in-None g c =
    let inside = c.self.inside in
    let zero = no_name _ (sym (rw (← c.self.view_is) at c.in_default.ensures)) in
    rw (← c.self.view_is, next_is_none inside.pending inside.timeouts.listed c.self.invariant.agrees.events zero (sym c.in-None.ensures)) refl

pub returns-in-Some-Event : goal.returns-in-Some-Event
returns-in-Some-Event g c =
    let inside = c.self.inside in
    let zero = no_name _ (sym (rw (← c.self.view_is) at c.in_default.ensures)) in
    rw (← c.self.view_is, next_is_event inside.pending inside.timeouts.listed c.self.invariant.agrees.events zero c.in-Some-Event.event (sym c.in-Some-Event.ensures ∙ ap Some c.in-Some-Event.field-0-is)) refl

pub returns-in-Some-Expiry : goal.returns-in-Some-Expiry
returns-in-Some-Expiry g c =
    let inside = c.self.inside in
    let zero = no_name _ (sym (rw (← c.self.view_is) at c.in_default.ensures)) in
    let slot_is = sym c.in-Some-Expiry.ensures ∙ ap Some c.in-Some-Expiry.field-0-is in
    rw (← c.self.view_is)
    (c.seen_timeout-in-Some-Expiry.ensures
    ∙ sym (next_is_expiry inside.pending inside.timeouts.listed c.self.invariant.agrees.events zero c.in-Some-Expiry.timer c.in-Some-Expiry.number slot_is c.self.invariant.alive))
