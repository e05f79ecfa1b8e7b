use Rattle.std.proofs.Common.{◌≡◌, ◌+◌, length, arith}
use Rattle.st_actions.specs.Plan.{inserts_of}
use Rattle.st_events.proofs.Given.{given}
use Rattle.st_agenda.proofs.PendingLemmas.{length-with_inserts, sound_inserted, inserted_is}
use Rattle.st_agenda.proofs.pending.Pending.insert.Goals as goal

-- the queue is so long that the received events can be counted
pub prove-unreachable-requires-2 : goal.prove-unreachable-requires-2
prove-unreachable-requires-2 g c =
    let inside = c.self.inside in
    let inserts = inserts_of c.args.actions.now in
    let longer : c.len-2.result ≡ length inserts + length inside.queue.items =
    rw (c.len-2.ensures.length, c.insert_at_cursor.ensures.inserted) (length-with_inserts inside.queue inside.received inside.next_number inserts c.self.invariant) in
    omega (arith, longer, c.requires.count, c.self.invariant.fits, c.if-prove-2.true)

pub invariant_of-self : goal.invariant_of-self
invariant_of-self g c =
    let inside = c.self.inside in
    let numbers = rw (← c.self.view_is, c.requires.count) at c.requires.numbers in
    rw (c.insert_at_cursor.ensures.inserted, c.requires.count) (sound_inserted inside.queue inside.received inside.next_number (inserts_of c.args.actions.now) c.self.invariant numbers)

pub returns-clause-inserted : goal.returns-clause-inserted
returns-clause-inserted g c =
    let inside = c.self.inside in
    rw (← c.self.view_is, c.insert_at_cursor.ensures.inserted, c.requires.count) (inserted_is inside.queue inside.received inside.next_number (inserts_of c.args.actions.now) c.self.invariant)

-- the cursor is within the queue
pub prove-unreachable-requires : goal.prove-unreachable-requires
prove-unreachable-requires g c = omega (arith, c.before-2.ensures.cursor, c.before-2.ensures.within, c.len.ensures.length, c.if-prove.true)

pub insert_at_cursor-requires : goal.insert_at_cursor-requires
insert_at_cursor-requires g c =
    (search given, (c.before-2.ensures.within, (c.requires.count, (rw (← c.self.view_is) at c.requires.reserved, rw (← c.self.view_is) at c.requires.numbers))))

-- the other actions are those that the call left
pub returns-clause-same_settings : goal.returns-clause-same_settings
returns-clause-same_settings g c = c.insert_at_cursor.ensures.same_settings

pub returns-clause-same_sends : goal.returns-clause-same_sends
returns-clause-same_sends g c = c.insert_at_cursor.ensures.same_sends

-- and all can be counted
pub overflow_sub-len : goal.overflow_sub-len
overflow_sub-len g c =
    let inside = c.self.inside in
    let inserts = inserts_of c.args.actions.now in
    let longer : c.len-2.result ≡ length inserts + length inside.queue.items =
    rw (c.len-2.ensures.length, c.insert_at_cursor.ensures.inserted) (length-with_inserts inside.queue inside.received inside.next_number inserts c.self.invariant) in
    omega (arith, longer, c.self.invariant.fits)

pub overflow_add-self : goal.overflow_add-self
overflow_add-self g c = omega (arith, c.if-prove-2.false, c.len-2.type_inv)

pub overflow_add-self-2 : goal.overflow_add-self-2
overflow_add-self-2 g c = let numbers = rw (← c.self.view_is) at c.requires.numbers in omega (arith, numbers)
