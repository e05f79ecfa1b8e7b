use Rattle.std.proofs.Common.{◌≡◌, drop}
use Rattle.st_table.specs.Lent.{hears}
use Rattle.st_table.specs.Rules.{updated}
use Rattle.st_table.proofs.update.updated.Given as goal

-- what is left of the updates leads to the same registers
abbrev pub invariant-loop-update : goal.invariant-loop-update
invariant-loop-update l =
    updated (hears l.at) l.before (drop l.update-index l.updates) l.registers.items ≡ updated (hears l.at) l.before l.updates l.fn.first
