use Rattle.std.proofs.Common.{arith}
use Rattle.std.proofs.lemmas.Grind.{common_steps}
use Rattle.st_due.specs.Machines.{before}
use Rattle.st_due.proofs.due_machine.DueMachine.is_before.Goals as goal

pub returns-then-self-other : goal.returns-then-self-other
unfolding before
returns-then-self-other c = grind (arith, common_steps)

pub returns-then-self-other-2 : goal.returns-then-self-other-2
unfolding before
returns-then-self-other-2 c = grind (arith, common_steps)

pub returns : goal.returns
unfolding before
returns c = grind (arith, common_steps)
