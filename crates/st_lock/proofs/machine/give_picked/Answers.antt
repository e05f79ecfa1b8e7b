use Rattle.std.proofs.Common.{Some, refl, sym, subst}
use Rattle.st_lock.specs.declared.claim.Claim.{Claim}
use Rattle.st_lock.specs.Claims.{Fits}
use Rattle.st_lock.proofs.machine.give_picked.Goals as goal

-- the claim that was picked is of the endpoint that is there
pub give-requires-clause-own : goal.give-requires-clause-own
give-requires-clause-own g c =
    subst (λ (claimed : Claim). Fits (Some c.args.inner.value) claimed) (sym c.requires.picked)
    (record { inner = c.args.inner.value; there = refl; end = c.requires.own })
