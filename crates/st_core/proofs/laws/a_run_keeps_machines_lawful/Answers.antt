use Rattle.st_core.proofs.LawfulLemmas.{runs_lawful}
use Rattle.st_core.proofs.laws.a_run_keeps_machines_lawful.Goals as goal

pub returns : goal.returns
returns g c callbacks before after commands answers lawful runs = runs_lawful callbacks before commands answers after runs lawful
