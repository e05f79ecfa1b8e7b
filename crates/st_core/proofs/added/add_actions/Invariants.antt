use Rattle.std.proofs.Common.{◌≡◌, ◌++◌, length}
use Rattle.st_actions.specs.Joined.{as_actions}
use Rattle.st_core.proofs.added.add_actions.Given as goal

-- what came in, with what is left, is all that there was
abbrev pub invariant-loop-action : goal.invariant-loop-action
invariant-loop-action g l = record { all : l.actions ++ as_actions l.action-iterator ≡ l.fn.actions ++ as_actions l.fn.more }

abbrev pub decreases-loop-action : goal.decreases-loop-action
decreases-loop-action g l = length l.action-iterator
