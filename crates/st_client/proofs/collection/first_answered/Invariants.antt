use Rattle.st_core.specs.Callbacks.{callbacks_of}
use Rattle.st_client.specs.Checked.{WaitBefore}
use Rattle.st_client.proofs.collection.first_answered.Given as goal

-- each request so far waits
abbrev pub invariant-loop-place : goal.invariant-loop-place
invariant-loop-place g l = WaitBefore (callbacks_of g.M.Module g.M.State.PartialEq.eq) l.fn.collection l.place
