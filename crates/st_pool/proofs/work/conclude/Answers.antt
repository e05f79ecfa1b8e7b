use Rattle.std.proofs.Common.{inr}
use Rattle.st_pool.proofs.CarryLemmas.{stays, put_or_stays}
use Rattle.st_pool.proofs.work.conclude.Goals as goal

pub returns-then-not-is_given-clause-puts : goal.returns-then-not-is_given-clause-puts
returns-then-not-is_given-clause-puts g c = (c.give_woken-is_given.new.worker, c.give_woken-is_given.ensures.given, inr (stays c.give_woken-is_given.new.worker))

pub returns-then-eq-2-clause-puts : goal.returns-then-eq-2-clause-puts
returns-then-eq-2-clause-puts g c = (c.give_woken-is_given.new.worker, c.give_woken-is_given.ensures.given, inr (stays c.give_woken-is_given.new.worker))

pub returns-else-eq-2-clause-puts : goal.returns-else-eq-2-clause-puts
returns-else-eq-2-clause-puts g c = (
  c.give_woken-is_given.new.worker,
  c.give_woken-is_given.ensures.given,
  put_or_stays c.give_woken-is_given.new.worker c.put_back.new.self c.put_back.result c.put_back.ensures.put c.put_back.ensures.refused,
)
