use Rattle.std.proofs.Common.{◌≡◌, ◌++◌, drop, string_bytes}
use Rattle.st_trace.specs.Trace.{machine_line, entry_lines}
use Rattle.st_trace.proofs.tracing.trace_text.Given as goal

-- the lines so far, and those of the entries that are left, are all
abbrev pub invariant-loop-entry : goal.invariant-loop-entry
invariant-loop-entry g l =
    string_bytes l.text ++ entry_lines (g.N.StateNames.name_is l.fn.names) l.latest (drop l.entry-index l.entry-items)
    ≡ machine_line l.fn.journal.id (string_bytes l.fn.journal.label) ++ entry_lines (g.N.StateNames.name_is l.fn.names) l.fn.journal.from l.fn.journal.entries
