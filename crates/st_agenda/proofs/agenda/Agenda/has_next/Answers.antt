use Rattle.std.proofs.Common.{◌≡◌, true, Option, Some, None, refl, sym, ap, ◌∙◌}
use Rattle.std.specs.Prelude.{is_some}
use Rattle.std.specs.Option.{option_map}
use Rattle.st_agenda.proofs.ChoiceLemmas.{no_name, next_is_event, next_is_expiry, next_is_none}
use Rattle.st_agenda.proofs.agenda.Agenda.has_next.Goals as goal

-- what is mapped is there as what it is made of
mapped : {X Y : Type 0} (f : X → Y) (one : Option X) → is_some one ≡ true → true ≡ is_some (option_map f one)
mapped f None there = cc
mapped f (Some x) there = refl

pub returns-in-None : goal.returns-in-None
returns-in-None g c =
    let inside = c.self.inside in
    let zero = no_name _ (sym (rw (← c.self.view_is) at c.in_default.ensures)) in
    rw (← c.self.view_is, next_is_none inside.pending inside.timeouts.listed c.self.invariant.agrees.events zero (sym c.in-None.ensures)) refl

pub returns-in-Some-Event : goal.returns-in-Some-Event
returns-in-Some-Event g c =
    let inside = c.self.inside in
    let zero = no_name _ (sym (rw (← c.self.view_is) at c.in_default.ensures)) in
    rw (← c.self.view_is, next_is_event inside.pending inside.timeouts.listed c.self.invariant.agrees.events zero _ (sym c.in-Some-Event.ensures ∙ ap Some c.in-Some-Event.field-0-is)) refl

pub returns-in-Some-Expiry : goal.returns-in-Some-Expiry
returns-in-Some-Expiry g c =
    let inside = c.self.inside in
    let zero = no_name _ (sym (rw (← c.self.view_is) at c.in_default.ensures)) in
    let slot_is = sym c.in-Some-Expiry.ensures ∙ ap Some c.in-Some-Expiry.field-0-is in
    rw (← c.self.view_is, next_is_expiry inside.pending inside.timeouts.listed c.self.invariant.agrees.events zero _ _ slot_is c.self.invariant.alive)
    (mapped _ _ (rw slot_is at c.self.invariant.alive))
