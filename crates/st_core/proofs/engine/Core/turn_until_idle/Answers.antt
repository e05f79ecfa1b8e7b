use Rattle.std.proofs.Common.{sym, ◌∙◌, arith}
use Rattle.st_core.specs.Callbacks.{callbacks_of}
use Rattle.st_core.proofs.UntilIdleLemmas.{one_turn_more, refused_turn}
use Rattle.st_core.proofs.engine.Core.turn_until_idle.Goals as goal

-- one more turn reported
pub loop-reported-preserved : goal.loop-reported-preserved
loop-reported-preserved g c = record {
  within = omega (arith, c.loop-reported-test.true);
  so_far = one_turn_more (callbacks_of g.M.Module g.M.State.PartialEq.eq) c.args.now c.args.self.now c.loop-reported.self c.turn.new.self
      c.loop-reported.reported c.in_default.field-0 c.loop-reported.invariant.so_far
      (sym c.has_event.ensures ∙ c.if-has_event.true) (rw c.in_default.is at c.turn.ensures.does);
}

-- the last turn was refused
pub returns-in-Err-clause-turns : goal.returns-in-Err-clause-turns
returns-in-Err-clause-turns g c =
    refused_turn (callbacks_of g.M.Module g.M.State.PartialEq.eq) c.args.now c.args.self.now c.loop-reported.self c.turn.new.self
    c.loop-reported.reported c.in-Err.refusal c.loop-reported.invariant.so_far (rw c.in-Err.is at c.turn.ensures.does)
