use Rattle.std.proofs.Common.{arith, ap, ◌∙◌, ◌∷◌, Some}
use Rattle.atomic_table.specs.Table.{rest}
use Rattle.st_claim_lock.proofs.StepLemmas.{gives_it}
use Rattle.st_claim_lock.proofs.taken.Taken.give.Goals as goal

pub store-requires : goal.store-requires
store-requires g c =
    let laid = c.exchange-empty.ensures in
    let holds = laid.3 ∙ ap (λ me. (me.0, (0, Some c.args.value) ∷ rest me.1)) c.requires.out in
    (laid.0 ∙ c.requires.lock, omega (arith, c.args.self.lock.now.one_word), gives_it g.P.Tie.fits _ _ _ _ _ _ _ holds c.requires.others c.requires.own)
