use Rattle.std.proofs.Common.{◌≡◌, take}
use Rattle.st_journal.specs.Journal.{numbers_of, posts_of}
use Rattle.st_cell.proofs.reading.numbers_in.Given as goal

-- the numbers so far
abbrev pub invariant-loop-entry : goal.invariant-loop-entry
invariant-loop-entry g l = record { numbers : l.numbers.items ≡ numbers_of (posts_of l.port (take l.entry-index l.entries)) }
