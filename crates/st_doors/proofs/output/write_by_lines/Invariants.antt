use Rattle.std.proofs.Common.{◌≡◌, List, ◌++◌, ℕ, length}
use Rattle.std.specs.Io.KnownBytes.{Appends}
use Rattle.st_doors.proofs.output.write_by_lines.Given as goal

-- the bytes that are written, and those that are left, are all
abbrev pub invariant-loop-rest : goal.invariant-loop-rest
invariant-loop-rest g l =
    (g.W.Sink.failures l.writer ≡ g.W.Sink.failures l.fn.writer)
    × ((written : List ℕ) × (l.bytes ≡ written ++ l.rest) × Appends (g.W.Sink.held l.fn.writer) (g.W.Sink.held l.writer) written)

abbrev pub decreases-loop-rest : goal.decreases-loop-rest
decreases-loop-rest g l = length l.rest
