use Rattle.std.proofs.Common.{ap, sym, ◌∙◌}
use Rattle.st_doors.specs.Doors.{post_refusal_by, refusal_in}
use Rattle.st_doors.proofs.IdleLemmas.{no_door}
use Rattle.st_door.proofs.script.Script.ask_length.Goals as goal

-- a post is answered as a post
pub unreachable-requires : goal.unreachable-requires
unreachable-requires c = c.in_default.not-Post _ (c.in_ok-posted.ensures.answer no_door)

pub returns-in-Ok-clause-asked : goal.returns-in-Ok-clause-asked
returns-in-Ok-clause-asked c = λ d. sym (rw c.in-Ok.is at c.in-Post.is) ∙ c.in_ok-posted.ensures.answer d

pub returns-in-Err-clause-refused : goal.returns-in-Err-clause-refused
returns-in-Err-clause-refused c = λ d.
    sym (ap post_refusal_by c.in-Err.is) ∙ (sym (ap refusal_in c.in-Post.is) ∙ ap refusal_in (c.in_ok-posted.ensures.answer d))
