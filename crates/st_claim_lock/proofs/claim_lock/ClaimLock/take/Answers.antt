use Rattle.std.proofs.Common.{arith, ◌∙◌}
use Rattle.st_claim_lock.proofs.StepLemmas.{takes_it, carries}
use Rattle.st_claim_lock.proofs.claim_lock.ClaimLock.take.Goals as goal

pub swap-requires : goal.swap-requires
swap-requires g c = (c.requires.lock, omega (arith, c.args.self.now.one_word), takes_it g.P.Tie.fits _ _ _ c.requires.home)

pub exchange-out-requires : goal.exchange-out-requires
exchange-out-requires g c =
    let taken = c.swap.ensures in
    let took = taken.2 c.if-swap-ne-AT_HOME.false in
    (taken.0 ∙ c.requires.lock, carries g.P.Tie.fits _ _ _ took.1)
