use Rattle.std.proofs.Common.{◌≡◌, ◌||◌}
use Rattle.st_doors.specs.Lines.{lines}
use Rattle.st_door.specs.Script.{faulty_from, first_script_state, script_after}
use Rattle.st_door.specs.declared.mode.Mode.TheVariants.{Trace}
use Rattle.st_door.proofs.ScriptLemmas.{lines_left}
use Rattle.st_door.proofs.run.trace_lines.Given as goal

abbrev pub invariant-loop-bytes : goal.invariant-loop-bytes
invariant-loop-bytes l =
    (script_after l.script (lines_left l.bytes-items l.bytes-index) ≡ script_after (first_script_state Trace) (lines l.fn.input))
    × ((l.faulty || faulty_from l.script (lines_left l.bytes-items l.bytes-index)) ≡ faulty_from (first_script_state Trace) (lines l.fn.input))
