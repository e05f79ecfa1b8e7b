use Rattle.std.proofs.Common.{◌≡◌, drop}
use Rattle.std.specs.List.{find}
use Rattle.st_table.specs.Matching.{fits}
use Rattle.st_table.proofs.matching.first_fit.Given as goal

-- the rule is among what is left of the rules
abbrev pub invariant-loop-rule : goal.invariant-loop-rule
invariant-loop-rule l =
    find (fits l.kind l.signal l.registers) (drop l.rule-index l.rules) ≡ find (fits l.kind l.signal l.registers) l.rules
