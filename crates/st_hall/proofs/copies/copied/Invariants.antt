use Rattle.std.proofs.Common.{◌≡◌, ◌++◌}
use Rattle.st_directory.specs.Entries.{names_of_entries}
use Rattle.st_hall.proofs.copies.copied.Given as goal

-- what was copied and what is left are the names
abbrev pub invariant-loop-name : goal.invariant-loop-name
invariant-loop-name l = names_of_entries l.copy.items ++ names_of_entries l.name-iterator ≡ names_of_entries l.fn.names
