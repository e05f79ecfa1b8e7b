use Rattle.std.proofs.Common.{◌≡◌, drop}
use Rattle.std.specs.List.{list_all}
use Rattle.st_table.specs.Lent.{hears}
use Rattle.st_table.specs.Matching.{holds}
use Rattle.st_table.proofs.matching.all_hold.Given as goal

-- what is left of the tests decides
abbrev pub invariant-loop-test : goal.invariant-loop-test
invariant-loop-test l =
    list_all (holds (hears l.at) l.before l.registers) (drop l.test-index l.tests) ≡ list_all (holds (hears l.at) l.before l.registers) l.tests
