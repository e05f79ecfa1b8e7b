-- The machine that was lent is told, and written back.
use Rattle.std.proofs.Common.{sym}
use Rattle.st_embedded.proofs.TableLemmas.{wrote}
use Rattle.st_embedded.proofs.calls.run_at.Goals as goal

pub returns-clause-does : goal.returns-clause-does
returns-clause-does g c = (
  c.in_ok-core.core.now,
  c.turn_until_idle.new.self,
  sym c.in_ok-core.ensures.value,
  (c.turn_until_idle.ensures.turns, c.turn_until_idle.ensures.stopped),
  wrote c.args.machines.now (c.get_mut.follows.lender c.turn_until_idle.new.self) c.args.number c.in_ok-core.core.now c.turn_until_idle.new.self c.in_ok-core.ensures.value
      (c.get_mut.follows.holds c.turn_until_idle.new.self),
)
