use Rattle.st_doors.specs.Settling.{has_id}
use Rattle.st_doors.proofs.LateDoorsLemmas.{some_more, none_more, first-caught, missing-caught, has_id-caught}
use Rattle.st_doors.proofs.late_doors.LateDoors.place_of_id.Goals as goal

-- a late tick leaves the ids
pub returns-clause-place : goal.returns-clause-place
returns-clause-place c = some_more _ _ c.place_of_id.result
    (λ place first. rw (← c.self.view_is) (first-caught c.self.inside.late (has_id c.args.id) c.self.inside.doors place (has_id-caught c.self.inside.late c.args.id) first)) c.place_of_id.ensures.place

pub returns-clause-missing : goal.returns-clause-missing
returns-clause-missing c = none_more _ _ c.place_of_id.result
    (λ none. rw (← c.self.view_is) (missing-caught c.self.inside.late (has_id c.args.id) c.self.inside.doors (has_id-caught c.self.inside.late c.args.id) none)) c.place_of_id.ensures.missing
