use Rattle.std.proofs.Common.{◌≡◌, ◌+◌, ◌||◌, ℕ, List, ◌++◌}
use Rattle.std.specs.Io.KnownBytes.{Appends}
use Rattle.st_doors.specs.Lines.{lines}
use Rattle.st_door.specs.declared.mode.Mode.TheVariants.{Run}
use Rattle.st_door.specs.Script.{first_script_state, output_from, output_of, faulty_from}
use Rattle.st_door.proofs.ScriptLemmas.{lines_left}
use Rattle.st_door.proofs.run.run_input.Given as goal

abbrev pub invariant-loop-index : goal.invariant-loop-index
invariant-loop-index g l =
    (g.W.Sink.failures l.writer ≡ g.W.Sink.failures l.fn.writer)
    × ((written : List ℕ)
    × Appends (g.W.Sink.held l.fn.writer) (g.W.Sink.held l.writer) written
    × (written ++ output_from (l.index + 1) l.script (lines_left l.bytes-items l.index) ≡ output_of Run l.fn.input))
    × ((l.faulty || faulty_from l.script (lines_left l.bytes-items l.index)) ≡ faulty_from (first_script_state Run) (lines l.fn.input))
