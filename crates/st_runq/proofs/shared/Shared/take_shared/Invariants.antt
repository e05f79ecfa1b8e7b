use Rattle.std.proofs.Common.{◌≡◌}
use Rattle.st_runq.specs.Ends.{source_of, fetched_of}
use Rattle.st_runq.proofs.shared.Shared.take_shared.Given as goal

-- a try that found another quicker has changed nothing
abbrev pub invariant-loop : goal.invariant-loop
invariant-loop g l = (source_of l.self ≡ source_of l.initial.self) × (fetched_of l.self ≡ fetched_of l.initial.self)
