use Rattle.std.proofs.Common.{sym, ap, ◌∙◌, Some}
use Rattle.st_agenda.proofs.ChoiceLemmas.{no_name, timer_lapsed, timer_of_event, timer_of_expiry, timer_of_none}
use Rattle.st_agenda.proofs.agenda.Agenda.taken_up.Goals as goal

pub returns-in-Some : goal.returns-in-Some
returns-in-Some g c = timer_lapsed c.args.self.now.schedule c.in-Some.timer _ c.in-Some.ensures

pub returns-in-None : goal.returns-in-None
returns-in-None g c =
    let inside = c.self.inside in
    let zero = no_name _ (sym (rw (← c.self.view_is) at c.in_default.ensures)) in
    rw (← c.self.view_is) (sym (timer_of_none inside.pending inside.timeouts.listed c.self.invariant.agrees.events zero (sym c.in-None.ensures)))

pub returns-in-Some-Event : goal.returns-in-Some-Event
returns-in-Some-Event g c =
    let inside = c.self.inside in
    let zero = no_name _ (sym (rw (← c.self.view_is) at c.in_default.ensures)) in
    rw (← c.self.view_is) (sym (timer_of_event inside.pending inside.timeouts.listed c.self.invariant.agrees.events zero _ (sym c.in-Some-Event.ensures ∙ ap Some c.in-Some-Event.field-0-is)))

pub returns-in-Some-Expiry : goal.returns-in-Some-Expiry
returns-in-Some-Expiry g c =
    let inside = c.self.inside in
    let zero = no_name _ (sym (rw (← c.self.view_is) at c.in_default.ensures)) in
    let slot_is = sym c.in-Some-Expiry.ensures ∙ ap Some c.in-Some-Expiry.field-0-is in
    rw (← c.self.view_is) (sym (timer_of_expiry inside.pending inside.timeouts.listed c.self.invariant.agrees.events zero c.in-Some-Expiry.timer _ slot_is c.self.invariant.alive))
