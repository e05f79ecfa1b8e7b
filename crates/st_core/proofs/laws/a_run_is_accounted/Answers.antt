use Rattle.st_core.proofs.AccountingLemmas.{accounted}
use Rattle.st_core.proofs.laws.a_run_is_accounted.Goals as goal

pub returns : goal.returns
returns g c callbacks before after commands answers lawful runs running = accounted callbacks before commands answers after lawful runs running
