use Rattle.st_pool_core.proofs.BalanceLemmas.{not_stranded}
use Rattle.st_pool_core.proofs.laws.no_ready_machine_is_stranded.Goals as goal

pub returns : goal.returns
returns g c pool id machine balanced found work = not_stranded pool balanced id machine found work
