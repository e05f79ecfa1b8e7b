use Rattle.std.proofs.Common.{◌≡◌, ℕ, List, ◌++◌, drop}
use Rattle.std.specs.Io.KnownBytes.{Appends}
use Rattle.st_doors.specs.Past.{text_in}
use Rattle.st_doors.proofs.past.Past.write.Given as goal

-- the text that is written, and that of the pieces that are left, are all
abbrev pub invariant-loop-piece : goal.invariant-loop-piece
invariant-loop-piece g l =
    (g.W.Sink.failures l.writer ≡ g.W.Sink.failures l.fn.writer)
    × ((written : List ℕ)
    × Appends (g.W.Sink.held l.fn.writer) (g.W.Sink.held l.writer) written
    × (written ++ text_in (drop l.piece-index l.piece-items) ≡ text_in l.piece-items))
