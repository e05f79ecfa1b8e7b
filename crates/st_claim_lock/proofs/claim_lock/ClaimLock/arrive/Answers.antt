use Rattle.std.proofs.Common.{arith}
use Rattle.st_claim_lock.proofs.StepLemmas.{takes_new, carries}
use Rattle.st_claim_lock.proofs.claim_lock.ClaimLock.arrive.Goals as goal

pub swap_new_seat-found-requires : goal.swap_new_seat-found-requires
swap_new_seat-found-requires g c = (omega (arith, c.args.self.now.one_word), takes_new g.P.Tie.fits _ _ c.requires)

pub exchange-out-requires : goal.exchange-out-requires
exchange-out-requires g c =
    let taken = c.swap_new_seat-found.ensures in
    let took = taken.1 c.if-found-ne-AT_HOME.false in
    (taken.0, carries g.P.Tie.fits _ _ _ took.1)
