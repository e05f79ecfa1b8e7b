use Rattle.std.proofs.Common.{◌-◌, ◌≤◌}
use Rattle.st_core.specs.Callbacks.{callbacks_of}
use Rattle.st_core.proofs.UntilIdleLemmas.{TurnedSoFar}
use Rattle.st_core.proofs.engine.Core.turn_until_idle.Given as goal

-- so many turns are left
abbrev pub decreases-loop-reported : goal.decreases-loop-reported
decreases-loop-reported g l = l.at_most - l.reported

abbrev pub invariant-loop-reported : goal.invariant-loop-reported
invariant-loop-reported g l =
    record {
      within : l.reported ≤ l.fn.at_most;
      so_far : TurnedSoFar (callbacks_of g.M.Module g.M.State.PartialEq.eq) l.fn.now l.fn.self l.reported l.self;
    }
