use Rattle.st_pool_core.proofs.BalanceLemmas.{one_worker}
use Rattle.st_pool_core.proofs.laws.no_machine_has_two_workers.Goals as goal

pub returns : goal.returns
returns g c pool one other token other_token balanced held other_held same = one_worker pool balanced one other token other_token held other_held same
