use Rattle.std.proofs.Common.{ap, ◌∙◌}
use Rattle.st_doors.specs.Doors.{refusal_in}
use Rattle.st_door.proofs.script.Script.refusal_to.Goals as goal

pub returns-clause-refusal : goal.returns-clause-refusal
returns-clause-refusal c = λ d. c.let_go.ensures.refusal ∙ ap refusal_in (c.in_ok-answer.ensures.answer d)
