use Rattle.st_core.specs.Callbacks.{callbacks_of}
use Rattle.st_pool_core.proofs.BalanceLemmas.{step-balanced}
use Rattle.st_pool_core.proofs.CarriedLemmas.{step-carries}
use Rattle.st_pool_core.proofs.CommandLemmas.{refused-unchanged}
use Rattle.st_pool_core.proofs.pool_world.PoolWorld.step.Goals as goal

-- the pool stays balanced, and who carries a message has its sender's token
pub invariant_of-self : goal.invariant_of-self
invariant_of-self g c =
    let callbacks = callbacks_of g.M.Module g.M.State.PartialEq.eq in (
      step-balanced callbacks c.self.inside.pool c.step.new.self c.args.step c.step.result c.self.invariant.0 c.step.ensures,
      step-carries callbacks c.self.inside.pool c.step.new.self c.args.step c.step.result c.self.invariant.0 c.self.invariant.1 c.step.ensures,
    )

pub returns-clause-unchanged : goal.returns-clause-unchanged
returns-clause-unchanged g c refused = rw (← c.self.view_is) (refused-unchanged (callbacks_of g.M.Module g.M.State.PartialEq.eq) c.self.inside.pool c.step.new.self c.args.step c.step.result
    c.self.invariant.0 c.step.ensures refused)
