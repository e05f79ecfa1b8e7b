use Rattle.std.proofs.Common.{rules, ◌≡◌, ◌++◌}
use Rattle.st_trace.specs.Trace.{trace_of}
use Rattle.st_doors.specs.Doors.{History}
use Rattle.st_doors.specs.Printing.{state_name_of}
use Rattle.st_doors.specs.Traces.{trace_by}
use Rattle.st_doors.proofs.DoorLemmas.{on_err}
use Rattle.st_doors.proofs.StreamLemmas.{front_same}
use Rattle.st_doors.proofs.door_cell.DoorCell.write_trace.Goals as goal

-- the write stopped within the trace of the history that is kept
pub returns-clause-front : goal.returns-clause-front
returns-clause-front g c =
    let past : History = c.deref-2.result.now in
    let same : trace_of c.id-id.result c.args.name.now past.from (past.entries ++ c.journal_of.result.now) state_name_of
    ≡ trace_by c.args.name.now c.args.self.now.machine c.args.self.now.history = search rules in
    on_err _ _ c.write_trace.result (λ front. front_same _ _ _ _ same front) c.write_trace.ensures.front
