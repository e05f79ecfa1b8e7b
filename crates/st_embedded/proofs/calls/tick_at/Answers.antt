-- The machine that was lent is told, and written back.
use Rattle.std.proofs.Common.{Some, sym, ap, ◌∙◌}
use Rattle.std.proofs.lemmas.Result.{on_err_weaker}
use Rattle.st_embedded.proofs.TableLemmas.{wrote, same_back}
use Rattle.st_embedded.proofs.calls.tick_at.Goals as goal

pub returns-in-Some-clause-does : goal.returns-in-Some-clause-does
returns-in-Some-clause-does g c =
    λ there. (
      c.in-Some.core.now,
      c.tick_to.new.self,
      sym c.in-Some.ensures.value,
      c.tick_to.ensures.does,
      wrote c.args.machines.now (c.get_mut.follows.lender c.tick_to.new.self) c.args.number c.in-Some.core.now c.tick_to.new.self c.in-Some.ensures.value
          (c.get_mut.follows.holds c.tick_to.new.self),
    )

pub returns-in-Some-clause-unchanged : goal.returns-in-Some-clause-unchanged
returns-in-Some-clause-unchanged g c =
    on_err_weaker c.tick_to.result
    (λ same. same_back c.args.machines.now (c.get_mut.follows.lender c.tick_to.new.self) c.args.number c.tick_to.new.self (ap Some same ∙ c.in-Some.ensures.value)
    (wrote c.args.machines.now (c.get_mut.follows.lender c.tick_to.new.self) c.args.number c.in-Some.core.now c.tick_to.new.self c.in-Some.ensures.value
    (c.get_mut.follows.holds c.tick_to.new.self)))
    c.tick_to.ensures.unchanged
