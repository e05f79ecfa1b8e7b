use Rattle.std.proofs.Common.{◌≡◌, drop}
use Rattle.st_table.specs.Values.{after_terms}
use Rattle.st_table.specs.Lent.{hears, shown}
use Rattle.st_table.proofs.expression.after_terms.Given as goal

-- what is left of the terms leads to the same value
abbrev pub invariant-loop-term : goal.invariant-loop-term
invariant-loop-term l =
    after_terms (hears l.at) l.before l.registers (drop l.term-index l.terms) (shown l.value) ≡ after_terms (hears l.at) l.before l.registers l.terms (shown l.fn.first)
