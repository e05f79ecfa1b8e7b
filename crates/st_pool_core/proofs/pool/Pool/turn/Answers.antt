use Rattle.std.proofs.Common.{true, false}
use Rattle.st_core.specs.Callbacks.{callbacks_of}
use Rattle.st_pool_core.proofs.WorkerSteps.{held_there, held_has_lane, turn-not_free, turn-done}
use Rattle.st_pool_core.proofs.pool.Pool.turn.Goals as goal

-- the worker is there, for its hand is full
pub set_hand-requires-clause-from_one : goal.set_hand-requires-clause-from_one
set_hand-requires-clause-from_one g c = (held_there c.args.self.now c.args.worker c.in-Some.token (rw c.in-Some.is at c.free_hand.ensures)).0

pub set_hand-requires-clause-there : goal.set_hand-requires-clause-there
set_hand-requires-clause-there g c = held_has_lane (record { machines = c.self.inside.machines; queues = c.self.inside.queues; transit = c.self.inside.transit }) c.args.worker c.in-Some.token
    (rw (← c.self.view_is, c.in-Some.is) at c.free_hand.ensures)

-- its worker carries a message, or has an empty hand
pub returns-in_default : goal.returns-in_default
returns-in_default g c =
    rw c.not_possible.ensures (turn-not_free (callbacks_of g.M.Module g.M.State.PartialEq.eq) c.args.self.now c.args.worker c.args.now (rw c.in_default.is at c.free_hand.ensures))

-- the machine was served, and its token is retired
pub returns-then-not-keeps : goal.returns-then-not-keeps
returns-then-not-keeps g c =
    let served = rw c.if-not-keeps.true at c.serve-answer.ensures in
    rw (← c.self.view_is, c.set_hand.ensures) (turn-done (callbacks_of g.M.Module g.M.State.PartialEq.eq) (record { machines = c.self.inside.machines; queues = c.self.inside.queues; transit = c.self.inside.transit })
    c.args.worker c.in-Some.token c.args.now c.serve-answer.result.0 false c.serve-answer.new.self (rw (← c.self.view_is) at c.requires) (rw (← c.self.view_is, c.in-Some.is) at c.free_hand.ensures) served)

-- it was served, and keeps its token
pub returns-else-not-keeps : goal.returns-else-not-keeps
returns-else-not-keeps g c =
    let served = rw c.if-not-keeps.false at c.serve-answer.ensures in
    rw (← c.self.view_is) (turn-done (callbacks_of g.M.Module g.M.State.PartialEq.eq) (record { machines = c.self.inside.machines; queues = c.self.inside.queues; transit = c.self.inside.transit })
    c.args.worker c.in-Some.token c.args.now c.serve-answer.result.0 true c.serve-answer.new.self (rw (← c.self.view_is) at c.requires) (rw (← c.self.view_is, c.in-Some.is) at c.free_hand.ensures) served)
