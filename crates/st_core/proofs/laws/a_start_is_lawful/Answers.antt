use Rattle.st_core.proofs.LawfulLemmas.{start_lawful}
use Rattle.st_core.proofs.laws.a_start_is_lawful.Goals as goal

pub returns : goal.returns
returns g c callbacks module_ id answer now first core report below started =
    start_lawful callbacks module_ id answer now first below core report started
