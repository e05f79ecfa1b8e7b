use Rattle.st_core.proofs.LawfulLemmas.{start_lawful}
use Rattle.st_hosted.proofs.HostedLemmas.{hosted_lawful}
use Rattle.st_hosted.proofs.laws.a_hosted_run_is_lawful.Goals as goal

pub returns : goal.returns
returns g c callbacks module_ id init now first core report steps answers after below started ran =
    hosted_lawful callbacks core.machine steps answers after ran (start_lawful (callbacks module_) module_ id init now first below core report started)
