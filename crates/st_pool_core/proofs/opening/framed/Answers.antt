use Rattle.std.proofs.Common.{refl, sym, ◌∙◌}
use Rattle.st_pool_core.proofs.opening.framed.Goals as goal

-- the ids are the machines', and the pool is as it begins
pub returns-clause-framed : goal.returns-clause-framed
returns-clause-framed g c =
    let each = rw c.in-Some.is at c.in_ok-ids.ensures in (
      each.0,
      record {
        is = rw (c.in_ok-queues.ensures, c.in_ok-transit.ensures) refl;
        possible = sym c.may_have.ensures ∙ c.if-not-may_have.false;
        each = each.1;
        own = each.2;
      },
    )
