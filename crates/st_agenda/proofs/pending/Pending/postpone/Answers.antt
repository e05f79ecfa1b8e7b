use Rattle.st_agenda.proofs.PendingLemmas.{on_some_before, before_end, sound_postponed, postpone_is}
use Rattle.st_agenda.proofs.pending.Pending.postpone.Goals as goal

pub invariant_of-self : goal.invariant_of-self
invariant_of-self g c =
    let inside = c.self.inside in
    let number_is = rw (← c.self.view_is) at c.requires in
    let less = before_end inside.queue inside.received inside.next_number c.args.number c.self.invariant number_is in
    let skipped = on_some_before _ c.skip-passed.ensures.skipped c.skip-passed.ensures.end less in
    rw (c.max-self-inside.ensures, c.before-2.ensures.cursor, skipped) (sound_postponed inside.queue inside.received inside.next_number c.args.number c.self.invariant number_is)

pub returns : goal.returns
returns g c =
    let inside = c.self.inside in
    let number_is = rw (← c.self.view_is) at c.requires in
    let less = before_end inside.queue inside.received inside.next_number c.args.number c.self.invariant number_is in
    let skipped = on_some_before _ c.skip-passed.ensures.skipped c.skip-passed.ensures.end less in
    rw (← c.self.view_is, c.max-self-inside.ensures, c.before-2.ensures.cursor, skipped) (postpone_is inside.queue inside.received inside.next_number c.args.number c.self.invariant number_is)
