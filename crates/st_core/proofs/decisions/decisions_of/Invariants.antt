use Rattle.std.proofs.Common.{◌≡◌, ◌++◌, length, drop, vec_capacity}
use Rattle.st_actions.specs.Taking.{all_settings_of}
use Rattle.st_core.specs.Transition.{decisions_of}
use Rattle.st_core.proofs.decisions.decisions_of.Given as goal

-- the decisions so far, with those of the actions that are left, are all
abbrev pub invariant-loop-index : goal.invariant-loop-index
invariant-loop-index g l = record {
  decisions : l.decisions.items ++ decisions_of (all_settings_of (drop l.index l.actions)) ≡ decisions_of (all_settings_of l.actions);
  reserved : vec_capacity l.decisions ≡ length (decisions_of (all_settings_of l.actions));
}
