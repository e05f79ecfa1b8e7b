use Rattle.st_core.specs.Callbacks.{callbacks_of}
use Rattle.st_pool_core.proofs.PoolLemmas.{tells-in, tells-missing}
use Rattle.st_pool_core.proofs.pool.Pool.tell.Goals as goal
use Rattle.st_pool_core.proofs.pool.Pool.tell.Goals.{in-Ok, in-Err}

pub returns : goal.returns
returns g c = elim c.match-tell.branch [
  | in-Ok w ↦ rw (w.result-is, ← c.self.view_is)
      (tells-in (callbacks_of g.M.Module g.M.State.PartialEq.eq)
      (record { machines = c.self.inside.machines; queues = c.self.inside.queues; transit = c.self.inside.transit }) c.args.id c.args.command
      w.in-Ok.answer c.tell.new.self (rw w.in-Ok.is at c.tell.ensures.told))
  | in-Err w ↦
      let missing = rw w.in-Err.is at c.tell.ensures.missing in
      rw (w.result-is, ← c.self.view_is, w.refused.ensures, w.content_of.ensures, missing.0, missing.2)
      (tells-missing (callbacks_of g.M.Module g.M.State.PartialEq.eq)
      (record { machines = c.self.inside.machines; queues = c.self.inside.queues; transit = c.self.inside.transit }) c.args.id c.args.command missing.1)
]
