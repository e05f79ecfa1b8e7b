use Rattle.std.proofs.Common.{arith}
use Rattle.st_due.proofs.TournamentLemmas.{earlier_first, earlier_second}
use Rattle.st_due.proofs.contender.Contender.earlier.Goals as goal

pub returns-then-self-other : goal.returns-then-self-other
returns-then-self-other c = earlier_first c.args.self c.args.other (omega arith) c.if-self-other.true

pub returns-then-other-self : goal.returns-then-other-self
returns-then-other-self c = earlier_second c.args.self c.args.other (omega arith) c.if-other-self.true
