use Rattle.std.proofs.Common.{Some, ap, sym, subst}
use Rattle.st_lock.specs.Claims.{Fits, inner_of}
use Rattle.st_lock.proofs.ClaimLemmas.{more_fits, next_fits}
use Rattle.st_lock.proofs.machine.Machine.port.Goals as goal

-- what was claimed of the inner state is so of it with one endpoint more
pub give_opened-requires-clause-others : goal.give_opened-requires-clause-others
give_opened-requires-clause-others g c = λ claimed fits.
    more_fits c.deref_mut.result.now c.port.new.self c.in_ok-counter.end c.in-Ok.ensures.opened claimed
    (subst (λ inner. Fits (Some inner) claimed) (sym c.deref_mut.ensures.value)
    (subst (λ under. Fits (inner_of under) claimed) c.arrive-held.ensures.taken fits))

-- and that is the new port's
pub give_opened-requires-clause-own : goal.give_opened-requires-clause-own
give_opened-requires-clause-own g c =
    next_fits c.deref_mut.result.now c.port.new.self c.in_ok-counter.end c.in-Ok.number c.in_ok-counter.counter c.in-Ok.ensures.opened c.in-Ok.ensures.number
    (ap (λ end. end.counter) c.in_ok-counter.ensures.machine)
