use Rattle.st_actions.proofs.OnceLemmas.{settings_once}
use Rattle.st_lists_tests.proofs.tests.agenda.counted.Goals as goal

-- where the last of each is left, of no timer two things are asked
pub returns-clause-once : goal.returns-clause-once
returns-clause-once g c =
    let last = rw c.got-counts.ensures at c.count_last-kept.ensures.last in
    rw last (settings_once c.args.actions.now)
