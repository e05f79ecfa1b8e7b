use Rattle.st_doors.specs.Doors.{NamedDoor}
use Rattle.st_doors.proofs.IdleLemmas.{no_door}
use Rattle.st_doors.proofs.LateDoorsLemmas.{within-caught, read-caught, id-caught}
use Rattle.st_doors.proofs.late_doors.LateDoors.id_at.Goals as goal

pub id_at-requires : goal.id_at-requires
id_at-requires c = within-caught c.self.inside.late c.args.place c.self.inside.doors c.args.self.now c.self.view_is c.requires

pub returns : goal.returns
returns c = λ d. read-caught (λ (door : NamedDoor). door.machine.id) c.self.inside.late c.args.place c.self.inside.doors c.args.self.now d c.id_at.result
    (id-caught c.self.inside.late) c.self.view_is c.requires (c.id_at.ensures no_door)
