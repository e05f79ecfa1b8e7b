use Rattle.std.proofs.Common.{◌≡◌, take}
use Rattle.st_table.proofs.value.all_copied.Given as goal

-- what was copied so far
abbrev pub invariant-loop-value : goal.invariant-loop-value
invariant-loop-value l = l.copies.items ≡ take l.value-index l.values
