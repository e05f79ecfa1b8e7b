use Rattle.std.proofs.Common.{◌≡◌, ◌++◌, length}
use Rattle.st_core.specs.Callbacks.{reply_actions}
use Rattle.st_core.proofs.added.add_replies.Given as goal

-- what came in, with what is left, is all that there was
abbrev pub invariant-loop-tag : goal.invariant-loop-tag
invariant-loop-tag g l = record { all : l.actions ++ reply_actions l.tag-iterator ≡ l.fn.actions ++ reply_actions l.fn.replies }

abbrev pub decreases-loop-tag : goal.decreases-loop-tag
decreases-loop-tag g l = length l.tag-iterator
