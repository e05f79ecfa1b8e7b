use Rattle.std.proofs.Common.{◌≡◌, drop}
use Rattle.std.specs.List.{find}
use Rattle.st_table.specs.Lent.{hears}
use Rattle.st_table.specs.Matching.{is_guarded}
use Rattle.st_table.proofs.matching.first_guarded.Given as goal

-- the rule is among what is left of the rules
abbrev pub invariant-loop-rule : goal.invariant-loop-rule
invariant-loop-rule l =
    find (is_guarded (hears l.at) l.before l.registers) (drop l.rule-index l.rules) ≡ find (is_guarded (hears l.at) l.before l.registers) l.rules
