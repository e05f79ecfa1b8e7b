use Rattle.std.proofs.Common.{◌≡◌}
use Rattle.bench.specs.Loaded.{inserts_of}
use Rattle.bench.proofs.load.inserts.Given as goal

abbrev pub invariant-loop : goal.invariant-loop
invariant-loop l = l.actions ≡ inserts_of l.counter
