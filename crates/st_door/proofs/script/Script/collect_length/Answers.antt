use Rattle.std.proofs.Common.{ap, ◌∙◌}
use Rattle.st_doors.specs.Doors.{length_in}
use Rattle.st_door.proofs.script.Script.collect_length.Goals as goal

pub returns-clause-digits : goal.returns-clause-digits
returns-clause-digits c = λ d. c.let_go.ensures.digits ∙ ap length_in (c.in_ok-collected.ensures.answer d)
