use Rattle.std.proofs.Common.{List, ℕ, ap, ◌∙◌}
use Rattle.st_doors.specs.Traces.{trace_by, trace_of_door}
use Rattle.st_doors.proofs.DoorLemmas.{on_ok, on_err}
use Rattle.st_doors.proofs.StreamLemmas.{appends_same, front_same}
use Rattle.st_doors.proofs.doors.Doors.write_trace_at.Goals as goal

-- the trace is that of the door at the place
pub returns-clause-written : goal.returns-clause-written
returns-clause-written g c = on_ok _ _ c.write_trace.result (λ written d.
    appends_same _ _ _ _ (ap (λ (name : List ℕ). trace_by name c.entry_at.result.1.now.machine c.entry_at.result.1.now.history) c.as_str.ensures.value
    ∙ ap trace_of_door (c.entry_at.ensures d)) written) c.write_trace.ensures.written

pub returns-clause-front : goal.returns-clause-front
returns-clause-front g c = on_err _ _ c.write_trace.result (λ front d.
    front_same _ _ _ _ (ap (λ (name : List ℕ). trace_by name c.entry_at.result.1.now.machine c.entry_at.result.1.now.history) c.as_str.ensures.value
    ∙ ap trace_of_door (c.entry_at.ensures d)) front) c.write_trace.ensures.front
