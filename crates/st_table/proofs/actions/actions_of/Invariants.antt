use Rattle.std.proofs.Common.{◌≡◌, take}
use Rattle.st_table.specs.Lent.{hears}
use Rattle.st_table.specs.Rules.{actions_of}
use Rattle.st_table.proofs.actions.actions_of.Given as goal

-- what the asks so far ask for
abbrev pub invariant-loop-ask : goal.invariant-loop-ask
invariant-loop-ask l = l.actions ≡ actions_of (hears l.at) l.before l.registers (take l.ask-index l.asks)
