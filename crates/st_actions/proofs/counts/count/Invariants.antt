use Rattle.std.proofs.Common.{◌≤◌, ◌+◌, length, drop}
use Rattle.st_actions.specs.Counted.{IsCountOf}
use Rattle.st_actions.proofs.counts.count.Given as goal

-- from the index on all is counted
abbrev pub invariant-loop-index : goal.invariant-loop-index
invariant-loop-index g l = record {
  counted : IsCountOf l.counts (drop l.index l.actions);
  within : l.index ≤ length l.actions;
  few : l.counts.replies + l.counts.inserts + l.counts.settings + l.counts.sends + l.index ≤ length l.actions;
  few_updates : l.counts.updates ≤ l.counts.settings;
  few_numbers : l.counts.numbers + l.index ≤ length l.actions;
}

abbrev pub decreases-loop-index : goal.decreases-loop-index
decreases-loop-index g l = l.index
