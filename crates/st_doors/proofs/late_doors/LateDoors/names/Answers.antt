use Rattle.std.proofs.Common.{◌∙◌, sym, ap}
use Rattle.st_doors.specs.Printing.{names_text}
use Rattle.st_doors.proofs.DoorLemmas.{if_ok}
use Rattle.st_doors.proofs.LateDoorsLemmas.{names-caught}
use Rattle.st_doors.proofs.late_doors.LateDoors.names.Goals as goal

pub returns : goal.returns
returns c = if_ok _ _ c.names.result (λ text says. says ∙ (sym (names-caught c.self.inside.late c.self.inside.doors) ∙ ap names_text c.self.view_is)) c.names.ensures
