use Rattle.st_replay.proofs.ReplayLemmas.{run_agrees, run_is_after}
use Rattle.st_replay.proofs.laws.a_journal_of_the_machine_is_replayed.Goals as goal

pub returns-clause-agreed : goal.returns-clause-agreed
returns-clause-agreed g c callbacks same core new entries reflexive told ran =
    run_agrees callbacks same reflexive core new entries told ran

pub returns-clause-after : goal.returns-clause-after
returns-clause-after g c callbacks core new entries told ran = run_is_after callbacks core new entries told ran
