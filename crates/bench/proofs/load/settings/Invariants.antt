use Rattle.std.proofs.Common.{◌≡◌}
use Rattle.bench.specs.Loaded.{settings_below}
use Rattle.bench.proofs.load.settings.Given as goal

abbrev pub invariant-loop-number : goal.invariant-loop-number
invariant-loop-number l = l.actions ≡ settings_below l.number
