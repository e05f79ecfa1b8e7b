use Rattle.std.proofs.Common.{arith}
use Rattle.st_core.specs.Callbacks.{callbacks_of}
use Rattle.st_pool_core.proofs.WorkerSteps.{held_there, carry-not_free, carry-done, carry-refused}
use Rattle.st_pool_core.proofs.pool.Pool.carry.Goals as goal

-- the message is in the worker's second hand
pub returns-in-Ok : goal.returns-in-Ok
returns-in-Ok g c =
    rw (← c.self.view_is, c.set.ensures) (carry-done (callbacks_of g.M.Module g.M.State.PartialEq.eq)
    (record { machines = c.self.inside.machines; queues = c.self.inside.queues; transit = c.self.inside.transit }) c.args.worker c.in-Some.token
    c.in-Ok.message c.take_out.new.self (rw (← c.self.view_is, c.in-Some.is) at c.free_hand.ensures) (rw c.in-Ok.is at c.take_out.ensures))

-- its machine gave none
pub returns-in-Err : goal.returns-in-Err
returns-in-Err g c =
    rw (← c.self.view_is, c.refused.ensures) (carry-refused (callbacks_of g.M.Module g.M.State.PartialEq.eq)
    (record { machines = c.self.inside.machines; queues = c.self.inside.queues; transit = c.self.inside.transit }) c.args.worker c.in-Some.token
    c.in-Err.refusal c.take_out.new.self (rw (← c.self.view_is, c.in-Some.is) at c.free_hand.ensures) (rw c.in-Err.is at c.take_out.ensures))

-- its worker carries a message, or has an empty hand
pub returns-in_default : goal.returns-in_default
returns-in_default g c =
    rw c.not_possible.ensures (carry-not_free (callbacks_of g.M.Module g.M.State.PartialEq.eq) c.args.self.now c.args.worker (rw c.in_default.is at c.free_hand.ensures))

-- the worker is there, for its hand is full
pub set-requires-clause-from_one : goal.set-requires-clause-from_one
set-requires-clause-from_one g c = (held_there c.args.self.now c.args.worker c.in-Some.token (rw c.in-Some.is at c.free_hand.ensures)).0

pub set-requires-clause-there : goal.set-requires-clause-there
set-requires-clause-there g c =
    let hands = rw (← c.self.view_is) at c.requires.hands in
    let there = held_there (record { machines = c.self.inside.machines; queues = c.self.inside.queues; transit = c.self.inside.transit })
    c.args.worker c.in-Some.token (rw (← c.self.view_is, c.in-Some.is) at c.free_hand.ensures) in
    omega (arith, hands, there.1)

-- the rest is what the calls say
pub take_out-requires : goal.take_out-requires
take_out-requires g c κs = λ within. within

pub free_hand-requires : goal.free_hand-requires
free_hand-requires g c κs = λ within. within

pub not_possible-requires : goal.not_possible-requires
not_possible-requires g c κs = λ within. within

pub refused-requires : goal.refused-requires
refused-requires g c κs = λ within. within
