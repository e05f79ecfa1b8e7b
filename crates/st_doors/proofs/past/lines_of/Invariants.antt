use Rattle.std.proofs.Common.{◌≡◌, ◌++◌, drop, string_bytes}
use Rattle.st_trace.specs.Trace.{entry_lines}
use Rattle.st_doors.specs.Past.{latest_of}
use Rattle.st_doors.specs.Printing.{state_name_of}
use Rattle.st_doors.proofs.past.lines_of.Given as goal

-- the lines so far, and those of the entries that are left, are all; and the latest moment after those is that after all
abbrev pub invariant-loop-entry : goal.invariant-loop-entry
invariant-loop-entry l =
    (string_bytes l.text ++ entry_lines state_name_of l.latest (drop l.entry-index l.entries) ≡ entry_lines state_name_of l.from l.entries)
    × (latest_of l.latest (drop l.entry-index l.entries) ≡ latest_of l.from l.entries)
