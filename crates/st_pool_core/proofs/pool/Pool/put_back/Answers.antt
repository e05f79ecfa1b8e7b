use Rattle.std.proofs.Common.{sym, ◌∙◌}
use Rattle.st_core.specs.Callbacks.{callbacks_of}
use Rattle.st_pool_core.proofs.QueueLemmas.{pushed_has_lane, no_failure}
use Rattle.st_pool_core.proofs.WorkerSteps.{held_there, held_has_lane, put_back-not_free, put_back-done}
use Rattle.st_pool_core.proofs.pool.Pool.put_back.Goals as goal

-- the worker is there, for its hand is full
pub push-requires : goal.push-requires
push-requires g c = held_has_lane (record { machines = c.self.inside.machines; queues = c.self.inside.queues; transit = c.self.inside.transit }) c.args.worker c.in-Some.token
    (rw (← c.self.view_is, c.in-Some.is) at c.free_hand.ensures)

pub set_hand-requires-clause-there : goal.set_hand-requires-clause-there
set_hand-requires-clause-there g c =
    pushed_has_lane c.self.inside.queues c.push.new.self c.args.worker c.args.worker c.in-Some.token
    (held_has_lane (record { machines = c.self.inside.machines; queues = c.self.inside.queues; transit = c.self.inside.transit }) c.args.worker c.in-Some.token (rw (← c.self.view_is, c.in-Some.is) at c.free_hand.ensures))
    (no_failure _ c.push.result (sym c.is_err.ensures.value ∙ c.if-is_err.false) c.push.ensures.pushed)

pub set_hand-requires-clause-from_one : goal.set_hand-requires-clause-from_one
set_hand-requires-clause-from_one g c = (held_there c.args.self.now c.args.worker c.in-Some.token (rw c.in-Some.is at c.free_hand.ensures)).0

-- its worker carries a message, or has an empty hand
pub returns-in_default : goal.returns-in_default
returns-in_default g c =
    rw c.not_possible.ensures (put_back-not_free (callbacks_of g.M.Module g.M.State.PartialEq.eq) c.args.self.now c.args.worker (rw c.in_default.is at c.free_hand.ensures))

-- the token is put back
pub returns : goal.returns
returns g c =
    rw (← c.self.view_is, c.set_hand.ensures, no_failure _ c.push.result (sym c.is_err.ensures.value ∙ c.if-is_err.false) c.push.ensures.pushed)
    (put_back-done (callbacks_of g.M.Module g.M.State.PartialEq.eq)
    (record { machines = c.self.inside.machines; queues = c.self.inside.queues; transit = c.self.inside.transit }) c.args.worker c.in-Some.token
    (rw (← c.self.view_is, c.in-Some.is) at c.free_hand.ensures))
