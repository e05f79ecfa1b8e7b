use Rattle.std.proofs.Common.{arith}
use Rattle.st_agenda.proofs.PendingLemmas.{before_end, sound_received, received_is}
use Rattle.st_agenda.proofs.pending.Pending.receive.Goals as goal

pub prove-unreachable-requires : goal.prove-unreachable-requires
prove-unreachable-requires g c =
    let inside = c.self.inside in
    let number_is = rw (← c.self.view_is) at c.requires in
    let less = before_end inside.queue inside.received inside.next_number c.args.number c.self.invariant number_is in
    omega (arith, less, c.before-2.ensures.cursor, c.len.ensures, c.if-prove.true)

pub invariant_of-self : goal.invariant_of-self
invariant_of-self g c =
    let inside = c.self.inside in
    let number_is = rw (← c.self.view_is) at c.requires in
    rw (c.max-self-inside.ensures, c.before-3.ensures.cursor) (sound_received inside.queue inside.received inside.next_number c.args.number c.self.invariant number_is)

pub returns : goal.returns
returns g c =
    let inside = c.self.inside in
    let number_is = rw (← c.self.view_is) at c.requires in
    rw (← c.self.view_is, c.max-self-inside.ensures, c.before-3.ensures.cursor) (received_is inside.queue inside.received inside.next_number c.args.number c.self.invariant number_is)
