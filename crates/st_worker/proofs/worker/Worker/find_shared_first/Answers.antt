use Rattle.std.proofs.Common.{refl}
use Rattle.std.proofs.lemmas.Option.{IfSome_then}
use Rattle.st_worker.proofs.RoundLemmas.{took_second}
use Rattle.st_worker.proofs.worker.Worker.find_shared_first.Goals as goal

pub returns-clause-some : goal.returns-clause-some
returns-clause-some g c = IfSome_then c.take_shared.result c.take_shared.ensures.some (λ token took. took_second _ _ _ _ _ token refl took)
