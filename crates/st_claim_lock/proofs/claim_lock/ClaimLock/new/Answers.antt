use Rattle.std.proofs.Common.{ap, sym, subst, ◌∙◌, ◌++◌, ◌∷◌, [], Some}
use Rattle.atomic_table.specs.Table.{opening}
use Rattle.st_claim_lock.specs.Rule.{idle, IsTied}
use Rattle.st_claim_lock.proofs.StepLemmas.{begins}
use Rattle.st_claim_lock.proofs.claim_lock.ClaimLock.new.Goals as goal

pub new-requires : goal.new-requires
new-requires g c =
    let slots = c.push_reserved.ensures.items ∙ ap (λ l. l ++ Some c.args.value ∷ []) c.in-Ok.ensures.items in
    subst (λ l. IsTied g.P.Tie.fits (opening (0 ∷ []) l (idle g.P.Tie.first))) (sym slots) (begins g.P.Tie.fits _ _ c.requires)
