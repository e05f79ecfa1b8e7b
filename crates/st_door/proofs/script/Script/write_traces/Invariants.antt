use Rattle.std.proofs.Common.{◌≡◌, ℕ, List, ◌++◌, drop}
use Rattle.std.specs.Io.KnownBytes.{Appends}
use Rattle.st_doors.specs.Traces.{traces_of}
use Rattle.st_door.proofs.script.Script.write_traces.Given as goal

abbrev pub invariant-loop-place : goal.invariant-loop-place
invariant-loop-place g l =
    (g.W.Sink.failures l.writer ≡ g.W.Sink.failures l.fn.writer)
    × ((written : List ℕ)
    × Appends (g.W.Sink.held l.fn.writer) (g.W.Sink.held l.writer) written
    × (written ++ traces_of (drop l.place l.fn.self.doors) ≡ traces_of l.fn.self.doors))
