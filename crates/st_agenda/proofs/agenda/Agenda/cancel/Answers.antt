use Rattle.st_agenda.proofs.AgendaLemmas.{agrees_cancelled}
use Rattle.st_agenda.proofs.SweepLemmas.{cancelled_is}
use Rattle.st_agenda.proofs.agenda.Agenda.cancel.Goals as goal

pub pass_dead-self-inside-requires : goal.pass_dead-self-inside-requires
pass_dead-self-inside-requires g c =
    let inside = c.self.inside in
    rw c.cancel-content.ensures.cancelled (agrees_cancelled inside.pending inside.timeouts.listed inside.expiries c.self.invariant.agrees c.args.timer)

pub returns : goal.returns
returns g c =
    let inside = c.self.inside in
    let passed = c.pass_dead-self-inside in
    rw (← c.self.view_is)
    (cancelled_is inside.pending passed.new.pending inside.timeouts c.cancel-content.new.self c.args.timer c.cancel-content.ensures.cancelled passed.ensures.same_items passed.ensures.rest)
