use Rattle.std.proofs.Common.{string_bytes}
use Rattle.st_doors.specs.Printing.{status_of}
use Rattle.st_doors.proofs.DoorLemmas.{if_ok}
use Rattle.st_doors.proofs.IdleLemmas.{no_door}
use Rattle.st_doors.proofs.LateDoorsLemmas.{within-caught, read-caught, status-caught}
use Rattle.st_doors.proofs.late_doors.LateDoors.status_at.Goals as goal

pub status_at-requires : goal.status_at-requires
status_at-requires c = within-caught c.self.inside.late c.args.place c.self.inside.doors c.args.self.now c.self.view_is c.requires

pub returns : goal.returns
returns c = if_ok _ _ c.status_at.result (λ text says d.
    read-caught status_of c.self.inside.late c.args.place c.self.inside.doors c.args.self.now d (string_bytes text) (status-caught c.self.inside.late) c.self.view_is c.requires (says no_door))
    c.status_at.ensures
