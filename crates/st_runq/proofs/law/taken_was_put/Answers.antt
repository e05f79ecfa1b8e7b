use Rattle.std.proofs.Common.{arith}
use Rattle.st_runq.proofs.CountLemmas.{counts}
use Rattle.st_runq.proofs.law.taken_was_put.Goals as goal

pub returns-clause-all : goal.returns-clause-all
returns-clause-all c = counts

pub returns-clause-most : goal.returns-clause-most
returns-clause-most c = λ tokens ends test rule. let all = counts tokens ends test rule in omega arith
