use Rattle.std.proofs.Common.{◌≡◌, [], length, take}
use Rattle.st_actions.specs.Plan.{sends_of}
use Rattle.st_core.proofs.SendingLemmas.{SentSoFar}
use Rattle.st_core.proofs.sending.send_all.Given as goal

-- what was taken out so far is sent, and what is left is in the list
abbrev pub invariant-loop-index : goal.invariant-loop-index
invariant-loop-index g l = record {
  sent : SentSoFar l.sender l.fn.outgoing.outbox (sends_of l.fn.actions) l.outgoing (sends_of l.actions);
  none_before : sends_of (take l.index l.actions) ≡ [];
  as_many : length l.actions ≡ length l.fn.actions;
}
