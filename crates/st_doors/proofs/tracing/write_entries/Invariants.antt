use Rattle.std.proofs.Common.{◌≡◌, ℕ, List, ◌++◌, drop}
use Rattle.std.specs.Io.KnownBytes.{Appends}
use Rattle.st_trace.specs.Trace.{entry_lines}
use Rattle.st_doors.specs.Printing.{state_name_of}
use Rattle.st_doors.proofs.tracing.write_entries.Given as goal

-- the lines that are written, and those of the entries that are left, are all
abbrev pub invariant-loop-entry : goal.invariant-loop-entry
invariant-loop-entry g l =
    (g.W.Sink.failures l.writer ≡ g.W.Sink.failures l.fn.writer)
    × ((written : List ℕ)
    × Appends (g.W.Sink.held l.fn.writer) (g.W.Sink.held l.writer) written
    × (written ++ entry_lines state_name_of l.latest (drop l.entry-index l.entries) ≡ entry_lines state_name_of l.from l.entries))
