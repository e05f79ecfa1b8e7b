use Rattle.std.proofs.Common.{◌∙◌}
use Rattle.st_doors.specs.Doors.{is_ready_door}
use Rattle.st_doors.proofs.DoorLemmas.{if_ok}
use Rattle.st_doors.proofs.LateDoorsLemmas.{first-caught, none_more, ready-caught, some_more}
use Rattle.st_doors.proofs.NotesLemmas.{any-caught}
use Rattle.st_doors.proofs.late_doors.LateDoors.first_ready.Goals as goal

-- a late tick makes no door ready
pub returns-clause-first : goal.returns-clause-first
returns-clause-first c = if_ok _ _ c.first_ready.result (λ found first. some_more _ _ found
    (λ place here. rw (← c.self.view_is) (first-caught c.self.inside.late is_ready_door c.self.inside.doors place (ready-caught c.self.inside.late) here)) first) c.first_ready.ensures.first

pub returns-clause-none : goal.returns-clause-none
returns-clause-none c = if_ok _ _ c.first_ready.result (λ found none. none_more _ _ found
    (λ rest. rw (← c.self.view_is) (any-caught c.self.inside.late c.self.inside.doors ∙ rest)) none) c.first_ready.ensures.none
