use Rattle.std.proofs.Common.{◌∙◌}
use Rattle.std.proofs.lemmas.Option.{IfSome_then}
use Rattle.st_worker.proofs.RoundLemmas.{took_after, took_first, took_second, took_later}
use Rattle.st_worker.proofs.worker.Worker.find.Goals as goal

pub returns-in-Some-clause-same : goal.returns-in-Some-clause-same
returns-in-Some-clause-same g c = c.find_shared_first.ensures.same

pub returns-in-Some-clause-some : goal.returns-in-Some-clause-some
returns-in-Some-clause-some g c = c.in-Some.ensures.some

pub returns-in-Some-take_local-clause-same : goal.returns-in-Some-take_local-clause-same
returns-in-Some-take_local-clause-same g c =
    let had = c.find_shared_first.ensures.same in
    let took = c.take_local.ensures.same in
    ((had.0.0, took.0 ∙ had.0.1, had.0.2, had.0.3), had.1, had.2, took.1 ∙ had.3)

pub returns-in-Some-take_local-clause-some : goal.returns-in-Some-take_local-clause-some
returns-in-Some-take_local-clause-some g c =
    let took = c.in-Some-take_local.ensures.some in
    took_after _ _ _ _ c.in_default.ensures.none (took_first _ _ _ _ (took.0, took.1))

pub returns-in-Some-take_shared-clause-same : goal.returns-in-Some-take_shared-clause-same
returns-in-Some-take_shared-clause-same g c =
    let had = c.find_shared_first.ensures.same in
    let took = c.take_local.ensures.same in
    ((had.0.0, took.0 ∙ had.0.1, c.take_shared.ensures.same ∙ had.0.2, had.0.3), had.1, had.2, took.1 ∙ had.3)

pub returns-in-Some-take_shared-clause-some : goal.returns-in-Some-take_shared-clause-some
returns-in-Some-take_shared-clause-some g c = took_after _ _ _ _ c.in_default.ensures.none
    (took_second _ _ _ _ _ _ c.in_default-take_local.ensures.none c.in-Some-take_shared.ensures.some)

pub returns-clause-same : goal.returns-clause-same
returns-clause-same g c =
    let had = c.find_shared_first.ensures.same in
    let took = c.take_local.ensures.same in
    ((had.0.0, took.0 ∙ had.0.1, c.take_shared.ensures.same ∙ had.0.2, c.steal_first.ensures.same ∙ had.0.3), had.1, had.2, took.1 ∙ had.3)

pub returns-clause-some : goal.returns-clause-some
returns-clause-some g c = IfSome_then c.steal_first.result c.steal_first.ensures.some
    (λ found took. took_after _ _ _ _ c.in_default.ensures.none
    (took_later _ _ _ _ _ _ found.token c.in_default-take_local.ensures.none c.in_default-take_shared.ensures.none took))
