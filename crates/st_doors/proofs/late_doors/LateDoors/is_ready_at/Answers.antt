use Rattle.st_doors.specs.Doors.{NamedDoor, is_ready_door}
use Rattle.st_doors.proofs.IdleLemmas.{no_door}
use Rattle.st_doors.proofs.LateDoorsLemmas.{within-caught, read-caught, ready-caught}
use Rattle.st_doors.proofs.late_doors.LateDoors.is_ready_at.Goals as goal

pub is_ready_at-requires : goal.is_ready_at-requires
is_ready_at-requires c = within-caught c.self.inside.late c.args.place c.self.inside.doors c.args.self.now c.self.view_is c.requires

pub returns : goal.returns
returns c = λ d. read-caught (λ (door : NamedDoor). is_ready_door door) c.self.inside.late c.args.place c.self.inside.doors c.args.self.now d c.is_ready_at.result
    (ready-caught c.self.inside.late) c.self.view_is c.requires (c.is_ready_at.ensures no_door)
