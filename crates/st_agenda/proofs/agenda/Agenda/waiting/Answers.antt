use Rattle.std.proofs.Common.{arith}
use Rattle.st_agenda.proofs.ItemsLemmas.{slots_counted}
use Rattle.st_agenda.proofs.agenda.Agenda.waiting.Goals as goal

pub overflow_sub-result : goal.overflow_sub-result
overflow_sub-result g c =
    let inside = c.self.inside in
    let counted = slots_counted inside.timeouts.listed inside.pending.items c.self.invariant.agrees.events in
    omega (arith, counted, c.len.ensures, c.self.invariant.agrees.counted)

pub returns : goal.returns
returns g c =
    let inside = c.self.inside in
    let counted = slots_counted inside.timeouts.listed inside.pending.items c.self.invariant.agrees.events in
    rw (← c.self.view_is) (omega (arith, counted, c.len.ensures, c.self.invariant.agrees.counted))
