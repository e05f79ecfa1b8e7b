use Rattle.std.proofs.Common.{◌≡◌, ◌≤◌, vec_len}
use Rattle.std.specs.Io.KnownBytes.{Consumes}
use Rattle.st_doors.specs.declared.input.TheConstants.{INPUT_LIMIT}
use Rattle.st_doors.proofs.input.read_input.Given as goal

abbrev pub invariant-loop : goal.invariant-loop
invariant-loop g l =
    (g.R.Source.failures l.reader ≡ g.R.Source.failures l.fn.reader)
    × Consumes (g.R.Source.left l.fn.reader) (g.R.Source.left l.reader) l.input.items
    × (l.counter ≤ vec_len l.input)
    × (vec_len l.input ≤ INPUT_LIMIT)
