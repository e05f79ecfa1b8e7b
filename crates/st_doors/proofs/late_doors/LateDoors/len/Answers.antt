use Rattle.std.proofs.Common.{◌∙◌, sym, ap, length}
use Rattle.st_doors.proofs.LateDoorsLemmas.{length-caught}
use Rattle.st_doors.proofs.late_doors.LateDoors.len.Goals as goal

pub returns : goal.returns
returns c = c.len.ensures ∙ (sym (length-caught c.self.inside.late c.self.inside.doors) ∙ ap length c.self.view_is)
