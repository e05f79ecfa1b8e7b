use Rattle.std.proofs.Common.{◌∙◌, sym}
use Rattle.st_agenda.proofs.ChoiceLemmas.{zero_after_received, zero_first}
use Rattle.st_agenda.proofs.agenda.Agenda.next_zero.Goals as goal

pub returns-then-was_received : goal.returns-then-was_received
returns-then-was_received g c =
    let inside = c.self.inside in
    rw (← c.self.view_is) (zero_after_received inside.pending inside.timeouts.listed c.self.invariant.agrees.events (sym c.was_received.ensures ∙ c.if-was_received.true))

pub returns-else-was_received : goal.returns-else-was_received
returns-else-was_received g c =
    let inside = c.self.inside in
    rw (← c.self.view_is) (c.first_zero.ensures ∙ zero_first inside.pending inside.timeouts.listed c.self.invariant.agrees.events (sym c.was_received.ensures ∙ c.if-was_received.false))
