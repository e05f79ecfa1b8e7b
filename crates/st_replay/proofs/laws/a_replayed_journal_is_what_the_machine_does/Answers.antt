use Rattle.st_replay.proofs.ReplayLemmas.{agreeing_is_run}
use Rattle.st_replay.proofs.laws.a_replayed_journal_is_what_the_machine_does.Goals as goal

pub returns : goal.returns
returns g c callbacks same core entries sound all = agreeing_is_run callbacks same sound core entries all
