use Rattle.std.proofs.Common.{◌≡◌, length, arith}
use Rattle.std.proofs.lemmas.Grind.{common_steps}
use Rattle.std.specs.Vec.Iter.{into_iter_items}
use Rattle.st_core.specs.Callbacks.{callbacks_of}
use Rattle.st_core.proofs.AccountingLemmas.{accounted}
use Rattle.st_core.proofs.RunLemmas.{run_more, all_taken}
use Rattle.st_core.proofs.engine.Core.run.Goals as goal

-- one more command was done, and its answer stands behind the others
pub loop-command-preserved : goal.loop-command-preserved
loop-command-preserved g c = record {
  can_next = tt;
  is_finite = tt;
  split = grind (arith, common_steps);
  reserved = grind (arith, common_steps);
  count = grind (arith, common_steps);
  run = rw c.push_reserved.ensures.items (run_more
      (callbacks_of g.M.Module g.M.State.PartialEq.eq) c.args.self.now
      c.loop-command.yielded c.loop-command.answers.items c.loop-command.self
      c.in-Some.command c.step-answer.result c.step-answer.new.self
      c.loop-command.invariant.run c.step-answer.ensures.does);
}

-- no command is left
pub returns-clause-run : goal.returns-clause-run
returns-clause-run g c =
    let none : length (into_iter_items c.loop-command.command-iterator) ≡ 0 = omega (arith, c.loop-command.command-iterator.rest.ok, c.in-None.ensures.steps.0) in
    let all : c.loop-command.yielded ≡ c.args.commands.items = all_taken _ _ _ c.loop-command.invariant.split none in
    rw (← all) c.loop-command.invariant.run

-- each number is accounted for
pub returns-clause-accounted : goal.returns-clause-accounted
returns-clause-accounted g c running =
    let none : length (into_iter_items c.loop-command.command-iterator) ≡ 0 = omega (arith, c.loop-command.command-iterator.rest.ok, c.in-None.ensures.steps.0) in
    let all : c.loop-command.yielded ≡ c.args.commands.items = all_taken _ _ _ c.loop-command.invariant.split none in
    accounted (callbacks_of g.M.Module g.M.State.PartialEq.eq) c.args.self.now c.args.commands.items c.loop-command.answers.items
    c.loop-command.self (rw (← c.self.view_is) c.self.invariant) (rw (← all) c.loop-command.invariant.run) running
