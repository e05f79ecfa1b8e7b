-- The machine that was lent is told, and written back.
use Rattle.std.proofs.Common.{sym}
use Rattle.st_embedded.proofs.TableLemmas.{wrote}
use Rattle.st_embedded.proofs.calls.take_out_at.Goals as goal

pub returns-clause-does : goal.returns-clause-does
returns-clause-does g c = (
  c.in_ok-core.core.now,
  c.take_out.new.self,
  sym c.in_ok-core.ensures.value,
  c.take_out.ensures,
  wrote c.args.machines.now (c.get_mut.follows.lender c.take_out.new.self) c.args.number c.in_ok-core.core.now c.take_out.new.self c.in_ok-core.ensures.value
      (c.get_mut.follows.holds c.take_out.new.self),
)
