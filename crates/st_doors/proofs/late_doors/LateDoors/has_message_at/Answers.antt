use Rattle.st_core.specs.Choice.{has_message_of}
use Rattle.st_doors.specs.Doors.{NamedDoor}
use Rattle.st_doors.proofs.IdleLemmas.{no_door}
use Rattle.st_doors.proofs.LateDoorsLemmas.{within-caught, read-caught, message-caught}
use Rattle.st_doors.proofs.late_doors.LateDoors.has_message_at.Goals as goal

pub has_message_at-requires : goal.has_message_at-requires
has_message_at-requires c = within-caught c.self.inside.late c.args.place c.self.inside.doors c.args.self.now c.self.view_is c.requires

pub returns : goal.returns
returns c = λ d. read-caught (λ (door : NamedDoor). has_message_of door.machine) c.self.inside.late c.args.place c.self.inside.doors c.args.self.now d c.has_message_at.result
    (message-caught c.self.inside.late) c.self.view_is c.requires (c.has_message_at.ensures no_door)
