use Rattle.std.proofs.Common.{◌≡◌, [], length, take, vec_capacity}
use Rattle.st_actions.specs.Plan.{replies_of, inserts_of, sends_of}
use Rattle.st_actions.specs.Taking.{all_settings_of}
use Rattle.st_requests.proofs.LoopLemmas.{AnsweredSoFar}
use Rattle.st_core.proofs.answering.answer_all.Given as goal

-- the replies so far are answered, and those that are left are in the list
abbrev pub invariant-loop-index : goal.invariant-loop-index
invariant-loop-index g l = record {
  answered : AnsweredSoFar l.fn.requests (replies_of l.fn.actions) l.fn.taken.items l.requests l.taken.items (vec_capacity l.taken) (replies_of l.actions);
  none_before : replies_of (take l.index l.actions) ≡ [];
  inserts : inserts_of l.actions ≡ inserts_of l.fn.actions;
  settings : all_settings_of l.actions ≡ all_settings_of l.fn.actions;
  sends : sends_of l.actions ≡ sends_of l.fn.actions;
  as_many : length l.actions ≡ length l.fn.actions;
}
