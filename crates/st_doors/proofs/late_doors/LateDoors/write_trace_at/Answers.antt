use Rattle.std.proofs.Common.{refl}
use Rattle.st_doors.specs.Traces.{trace_of_door}
use Rattle.st_doors.proofs.DoorLemmas.{on_ok, on_err}
use Rattle.st_doors.proofs.IdleLemmas.{no_door}
use Rattle.st_doors.proofs.LateDoorsLemmas.{within-caught, read-caught, trace-caught}
use Rattle.st_doors.proofs.StreamLemmas.{appends_same, front_same}
use Rattle.st_doors.proofs.late_doors.LateDoors.write_trace_at.Goals as goal

pub write_trace_at-requires : goal.write_trace_at-requires
write_trace_at-requires g c = within-caught c.self.inside.late c.args.place c.self.inside.doors c.args.self.now c.self.view_is c.requires

-- a late tick leaves the trace
pub returns-clause-written : goal.returns-clause-written
returns-clause-written g c = on_ok _ _ c.write_trace_at.result (λ written d.
    appends_same _ _ _ _ (read-caught trace_of_door c.self.inside.late c.args.place c.self.inside.doors c.args.self.now d _ (trace-caught c.self.inside.late) c.self.view_is c.requires refl)
    (written no_door)) c.write_trace_at.ensures.written

pub returns-clause-front : goal.returns-clause-front
returns-clause-front g c = on_err _ _ c.write_trace_at.result (λ front d.
    front_same _ _ _ _ (read-caught trace_of_door c.self.inside.late c.args.place c.self.inside.doors c.args.self.now d _ (trace-caught c.self.inside.late) c.self.view_is c.requires refl)
    (front no_door)) c.write_trace_at.ensures.front
