use Rattle.st_agenda.proofs.PendingLemmas.{sound_put_in, put_in_is}
use Rattle.st_agenda.specs.declared.queued.Queued.TheVariants as queued
use Rattle.st_agenda.proofs.pending.Pending.put_in.Goals as goal

pub invariant_of-self : goal.invariant_of-self
invariant_of-self g c =
    let inside = c.self.inside in
    let free = rw (← c.self.view_is) at c.requires.free in
    let below = rw (← c.self.view_is) at c.requires.below in
    rw c.insert_staged.ensures.inserted (sound_put_in inside.queue inside.received inside.next_number (queued.Event c.args.event) c.self.invariant free below)

pub returns : goal.returns
returns g c =
    let inside = c.self.inside in
    let free = rw (← c.self.view_is) at c.requires.free in
    let below = rw (← c.self.view_is) at c.requires.below in
    rw (← c.self.view_is, c.insert_staged.ensures.inserted) (put_in_is inside.queue inside.received inside.next_number (queued.Event c.args.event) c.self.invariant free below)
