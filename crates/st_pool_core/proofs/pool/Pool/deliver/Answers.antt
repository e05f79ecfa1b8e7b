use Rattle.std.proofs.Common.{sym, ◌∙◌}
use Rattle.st_core.specs.Callbacks.{callbacks_of}
use Rattle.st_pool_core.proofs.HandLemmas.{laid_place}
use Rattle.st_pool_core.proofs.PoolLemmas.{delivers-posted, delivers-refused, delivers-again}
use Rattle.st_pool_core.proofs.pool.Pool.deliver.Goals as goal

-- the worker is there, for it carried a message
pub set-requires-clause-there : goal.set-requires-clause-there
set-requires-clause-there g c =
    laid_place c.self.inside.transit c.take.new.self c.args.worker c.in-Some.message (sym c.take.ensures.message ∙ c.in-Some.is) c.in-Some.ensures.left

-- the message was posted to its target
pub returns-in-Ok : goal.returns-in-Ok
returns-in-Ok g c =
    rw (← c.self.view_is, c.posted.ensures, c.in-Some.ensures.left) (delivers-posted (callbacks_of g.M.Module g.M.State.PartialEq.eq)
    (record { machines = c.self.inside.machines; queues = c.self.inside.queues; transit = c.self.inside.transit }) c.args.worker c.in-Some.message
    c.in-Ok.posted c.post.new.self (sym c.take.ensures.message ∙ c.in-Some.is) (rw c.in-Ok.is at c.post.ensures))

-- there was no memory, and the worker carries it still
pub returns-in-Err-undelivered : goal.returns-in-Err-undelivered
returns-in-Err-undelivered g c =
    let again = c.in-Err-undelivered.ensures.again in
    rw (← c.self.view_is, c.no_memory.ensures, c.set.ensures, again.1, c.in-Some.ensures.left) (delivers-again (callbacks_of g.M.Module g.M.State.PartialEq.eq)
    (record { machines = c.self.inside.machines; queues = c.self.inside.queues; transit = c.self.inside.transit }) c.args.worker c.in-Some.message
    c.in-Err.refused c.post.new.self (sym c.take.ensures.message ∙ c.in-Some.is) again.0 (rw c.in-Err.is at c.post.ensures))

-- its target is not there, or refused it
pub returns-in-Ok-undelivered : goal.returns-in-Ok-undelivered
returns-in-Ok-undelivered g c =
    let lost = c.in-Ok-undelivered.ensures.lost in
    rw (← c.self.view_is, lost.0, c.in-Some.ensures.left) (delivers-refused (callbacks_of g.M.Module g.M.State.PartialEq.eq)
    (record { machines = c.self.inside.machines; queues = c.self.inside.queues; transit = c.self.inside.transit }) c.args.worker c.in-Some.message
    c.in-Err.refused c.post.new.self (sym c.take.ensures.message ∙ c.in-Some.is) lost.1 (rw c.in-Err.is at c.post.ensures))
