use Rattle.st_core.proofs.LawfulLemmas.{start_lawful}
use Rattle.st_hosted.proofs.HostedLemmas.{hosted_accounted}
use Rattle.st_hosted.proofs.laws.a_hosted_run_is_accounted.Goals as goal

pub returns : goal.returns
returns g c callbacks module_ id init now first core report steps answers after below started ran still =
    hosted_accounted callbacks core.machine steps answers after
    (start_lawful (callbacks module_) module_ id init now first below core report started) ran still
