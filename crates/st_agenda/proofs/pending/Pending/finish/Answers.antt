use Rattle.std.proofs.Common.{◌≤◌, ◌<◌, ◌-◌, arith}
use Rattle.st_agenda.proofs.PendingLemmas.{on_some_before, before_end, sound_finished, finished_is}
use Rattle.st_agenda.proofs.pending.Pending.finish.Goals as goal

pub invariant_of-self : goal.invariant_of-self
invariant_of-self g c =
    let inside = c.self.inside in
    let number_is = rw (← c.self.view_is) at c.requires in
    let less = before_end inside.queue inside.received inside.next_number c.args.number c.self.invariant number_is in
    let removed = on_some_before _ c.remove-finished.ensures.removed c.remove-finished.ensures.end less in
    let before : inside.queue.cursor < inside.received = rw (c.before-2.ensures.cursor, removed) at c.if-before-self.true in
    rw removed (sound_finished inside.queue inside.received inside.next_number c.args.number c.self.invariant number_is (inside.received - 1) (omega arith) (omega arith))

pub returns-then-before-self : goal.returns-then-before-self
returns-then-before-self g c =
    let inside = c.self.inside in
    let number_is = rw (← c.self.view_is) at c.requires in
    let less = before_end inside.queue inside.received inside.next_number c.args.number c.self.invariant number_is in
    let removed = on_some_before _ c.remove-finished.ensures.removed c.remove-finished.ensures.end less in
    let before : inside.queue.cursor < inside.received = rw (c.before-2.ensures.cursor, removed) at c.if-before-self.true in
    rw (← c.self.view_is, removed) (finished_is inside.queue inside.received inside.next_number c.args.number c.self.invariant number_is (inside.received - 1) (omega arith) (omega arith))

pub invariant_of-self-else-before-self : goal.invariant_of-self-else-before-self
invariant_of-self-else-before-self g c =
    let inside = c.self.inside in
    let number_is = rw (← c.self.view_is) at c.requires in
    let less = before_end inside.queue inside.received inside.next_number c.args.number c.self.invariant number_is in
    let removed = on_some_before _ c.remove-finished.ensures.removed c.remove-finished.ensures.end less in
    let behind : inside.received ≤ inside.queue.cursor = rw (c.before-2.ensures.cursor, removed) at c.if-before-self.false in
    let within = c.self.invariant.within in
    rw removed (sound_finished inside.queue inside.received inside.next_number c.args.number c.self.invariant number_is inside.received within (omega arith))

pub returns : goal.returns
returns g c =
    let inside = c.self.inside in
    let number_is = rw (← c.self.view_is) at c.requires in
    let less = before_end inside.queue inside.received inside.next_number c.args.number c.self.invariant number_is in
    let removed = on_some_before _ c.remove-finished.ensures.removed c.remove-finished.ensures.end less in
    let behind : inside.received ≤ inside.queue.cursor = rw (c.before-2.ensures.cursor, removed) at c.if-before-self.false in
    let within = c.self.invariant.within in
    rw (← c.self.view_is, removed) (finished_is inside.queue inside.received inside.next_number c.args.number c.self.invariant number_is inside.received within (omega arith))
