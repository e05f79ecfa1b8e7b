use Rattle.std.proofs.Common.{◌≡◌, ◌+◌, length, length-append, ap, sym, ◌∙◌, arith}
use Rattle.std.proofs.lemmas.Grind.{common_steps}
use Rattle.std.specs.Vec.Iter.{into_iter_items}
use Rattle.st_core.specs.Callbacks.{callbacks_of}
use Rattle.st_core.proofs.RunLemmas.{all_taken}
use Rattle.st_pool_core.proofs.BalanceLemmas.{step-balanced}
use Rattle.st_pool_core.proofs.CommandLemmas.{plays-went}
use Rattle.st_pool_core.proofs.MessageLemmas.{plays-keep}
use Rattle.st_pool_core.proofs.PlayLemmas.{play_more}
use Rattle.st_pool_core.proofs.pool_world.PoolWorld.play.Goals as goal

-- there is a place for the answer of each step that is left
pub push_reserved-requires : goal.push_reserved-requires
push_reserved-requires g c =
    let left = into_iter_items c.loop-step.step-iterator in
    let next = ap length c.in-Some.ensures.steps.0 in
    let whole : length c.loop-step.yielded + length left ≡ length c.args.steps.items =
    sym (length-append c.loop-step.yielded left) ∙ ap length c.loop-step.invariant.split in
    omega (arith, next, whole, c.loop-step.invariant.reserved, c.loop-step.invariant.count)

-- one more step was done, and its answer stands behind the others
pub loop-step-preserved : goal.loop-step-preserved
loop-step-preserved g c = record {
  can_next = tt;
  is_finite = tt;
  split = grind (arith, common_steps);
  reserved = grind (arith, common_steps);
  count = grind (arith, common_steps);
  played = rw c.push_reserved.ensures.items (play_more
      (callbacks_of g.M.Module g.M.State.PartialEq.eq) c.args.self.now
      c.loop-step.yielded c.loop-step.answers.items c.loop-step.self
      c.in-Some.step c.step-answer.result c.step-answer.new.self
      c.loop-step.invariant.played c.step-answer.ensures.does);
}

-- no step is left
pub returns-clause-played : goal.returns-clause-played
returns-clause-played g c =
    let none : length (into_iter_items c.loop-step.step-iterator) ≡ 0 = omega (arith, c.loop-step.step-iterator.rest.ok, c.in-None.ensures.steps.0) in
    let all : c.loop-step.yielded ≡ c.args.steps.items = all_taken _ _ _ c.loop-step.invariant.split none in
    rw (← all) c.loop-step.invariant.played

-- each machine went through its own commands
pub returns-clause-own : goal.returns-clause-own
returns-clause-own g c =
    let none : length (into_iter_items c.loop-step.step-iterator) ≡ 0 = omega (arith, c.loop-step.step-iterator.rest.ok, c.in-None.ensures.steps.0) in
    let all : c.loop-step.yielded ≡ c.args.steps.items = all_taken _ _ _ c.loop-step.invariant.split none in
    plays-went (callbacks_of g.M.Module g.M.State.PartialEq.eq) (step-balanced (callbacks_of g.M.Module g.M.State.PartialEq.eq)) c.args.self.now c.loop-step.self
    c.args.steps.items c.loop-step.answers.items (rw (← c.self.view_is) c.self.invariant.0) (rw (← all) c.loop-step.invariant.played)

-- messages went their way
pub returns-clause-messages : goal.returns-clause-messages
returns-clause-messages g c =
    let none : length (into_iter_items c.loop-step.step-iterator) ≡ 0 = omega (arith, c.loop-step.step-iterator.rest.ok, c.in-None.ensures.steps.0) in
    let all : c.loop-step.yielded ≡ c.args.steps.items = all_taken _ _ _ c.loop-step.invariant.split none in
    plays-keep (callbacks_of g.M.Module g.M.State.PartialEq.eq) c.args.self.now c.loop-step.self c.args.steps.items c.loop-step.answers.items
    (rw (← c.self.view_is) c.self.invariant.0) (rw (← c.self.view_is) c.self.invariant.1) (rw (← all) c.loop-step.invariant.played)
