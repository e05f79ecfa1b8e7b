-- The values so far.
use Rattle.std.proofs.Common.{◌≡◌, map, take}
use Rattle.zumelivon.specs.Signals.{value_in}
use Rattle.zumelivon.proofs.signals.values_of.Given as goal

abbrev pub invariant-loop-it : goal.invariant-loop-it
invariant-loop-it l = l.values ≡ map (value_in l.bytes) (take l.it-index l.signals)
