-- The machine that was lent is told, and written back.
use Rattle.std.proofs.Common.{Some, sym, ap, ◌∙◌}
use Rattle.std.proofs.lemmas.Result.{on_err_weaker}
use Rattle.st_embedded.proofs.TableLemmas.{wrote, same_back}
use Rattle.st_embedded.proofs.calls.stop_at.Goals as goal

pub returns-in-Some-clause-does : goal.returns-in-Some-clause-does
returns-in-Some-clause-does g c =
    λ there. (
      c.in-Some.core.now,
      c.stop.new.self,
      sym c.in-Some.ensures.value,
      c.stop.ensures.does,
      wrote c.args.machines.now (c.get_mut.follows.lender c.stop.new.self) c.args.number c.in-Some.core.now c.stop.new.self c.in-Some.ensures.value
          (c.get_mut.follows.holds c.stop.new.self),
    )

pub returns-in-Some-clause-unchanged : goal.returns-in-Some-clause-unchanged
returns-in-Some-clause-unchanged g c =
    on_err_weaker c.stop.result
    (λ same. same_back c.args.machines.now (c.get_mut.follows.lender c.stop.new.self) c.args.number c.stop.new.self (ap Some same ∙ c.in-Some.ensures.value)
    (wrote c.args.machines.now (c.get_mut.follows.lender c.stop.new.self) c.args.number c.in-Some.core.now c.stop.new.self c.in-Some.ensures.value
    (c.get_mut.follows.holds c.stop.new.self)))
    c.stop.ensures.unchanged
