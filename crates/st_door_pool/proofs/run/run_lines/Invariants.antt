use Rattle.std.proofs.Common.{◌≡◌}
use Rattle.st_door_pool.proofs.run.run_lines.Given as goal

abbrev pub invariant-loop-index : goal.invariant-loop-index
invariant-loop-index g l = g.W.Sink.failures l.writer ≡ g.W.Sink.failures l.fn.writer
