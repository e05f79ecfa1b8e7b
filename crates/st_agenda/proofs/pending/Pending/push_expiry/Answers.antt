use Rattle.st_agenda.proofs.PendingLemmas.{sound_behind_staged, free_slot, expiry_behind}
use Rattle.st_agenda.specs.declared.queued.Queued.TheVariants as queued
use Rattle.st_agenda.proofs.pending.Pending.push_expiry.Goals as goal

pub invariant_of-self : goal.invariant_of-self
invariant_of-self g c =
    let inside = c.self.inside in
    let free = rw (← c.self.view_is) at c.requires.free in
    let below = rw (← c.self.view_is) at c.requires.below in
    rw c.push_staged.ensures.pushed
    (sound_behind_staged inside.queue inside.received inside.next_number (queued.Expiry c.args.timer c.args.number) c.self.invariant
    (free_slot inside.queue inside.received inside.next_number (queued.Expiry c.args.timer c.args.number) c.self.invariant free below) below)

pub returns : goal.returns
returns g c =
    let inside = c.self.inside in
    let free = rw (← c.self.view_is) at c.requires.free in
    let below = rw (← c.self.view_is) at c.requires.below in
    rw (← c.self.view_is, c.push_staged.ensures.pushed)
    (expiry_behind inside.queue inside.received inside.next_number (queued.Expiry c.args.timer c.args.number) c.self.invariant free below)
