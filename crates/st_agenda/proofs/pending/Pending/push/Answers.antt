use Rattle.std.proofs.Common.{◌≤◌, ◌<◌, ◌+◌, ◌^◌, arith}
use Rattle.st_agenda.proofs.PendingLemmas.{sound_behind, next_free}
use Rattle.st_agenda.specs.declared.queued.Queued.TheVariants as queued
use Rattle.st_agenda.proofs.pending.Pending.push.Goals as goal

pub invariant_of-self : goal.invariant_of-self
invariant_of-self g c =
    let inside = c.self.inside in
    let below = rw (← c.self.view_is) at c.requires in
    let more : inside.next_number ≤ inside.next_number + 1 = omega arith in
    let bounded : inside.next_number + 1 ≤ 2 ^ 63 = omega (arith, below) in
    let less : inside.next_number < inside.next_number + 1 = omega arith in
    rw c.in-Ok.ensures.pushed (sound_behind inside.queue inside.received inside.next_number (inside.next_number + 1)
    (queued.Event (record { number = inside.next_number; kind = c.args.kind; content = c.args.content })) c.self.invariant more bounded
    (next_free inside.queue inside.received inside.next_number c.self.invariant) less)
