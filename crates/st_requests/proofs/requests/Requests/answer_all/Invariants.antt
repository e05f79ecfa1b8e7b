use Rattle.std.proofs.Common.{length, vec_capacity}
use Rattle.st_requests.proofs.LoopLemmas.{AnsweredSoFar}
use Rattle.st_requests.proofs.requests.Requests.answer_all.Given as goal

abbrev pub invariant-loop-tag : goal.invariant-loop-tag
invariant-loop-tag g l = AnsweredSoFar l.fn.self l.fn.replies l.fn.taken.items l.self l.taken.items (vec_capacity l.taken) l.tag-iterator

abbrev pub decreases-loop-tag : goal.decreases-loop-tag
decreases-loop-tag g l = length l.tag-iterator
