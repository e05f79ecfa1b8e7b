use Rattle.st_doors.specs.Doors.{NamedDoor, is_over}
use Rattle.st_doors.proofs.IdleLemmas.{no_door}
use Rattle.st_doors.proofs.LateDoorsLemmas.{within-caught, read-caught, over-caught}
use Rattle.st_doors.proofs.late_doors.LateDoors.is_over_at.Goals as goal

pub is_over_at-requires : goal.is_over_at-requires
is_over_at-requires c = within-caught c.self.inside.late c.args.place c.self.inside.doors c.args.self.now c.self.view_is c.requires

pub returns : goal.returns
returns c = λ d. read-caught (λ (door : NamedDoor). is_over door.machine) c.self.inside.late c.args.place c.self.inside.doors c.args.self.now d c.is_over_at.result
    (over-caught c.self.inside.late) c.self.view_is c.requires (c.is_over_at.ensures no_door)
