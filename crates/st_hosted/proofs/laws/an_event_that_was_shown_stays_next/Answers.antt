use Rattle.st_hosted.proofs.NextLemmas.{does_next, runs_next}
use Rattle.st_hosted.proofs.laws.an_event_that_was_shown_stays_next.Goals as goal

pub returns-clause-command : goal.returns-clause-command
returns-clause-command g c callbacks before after command answer event other does shown =
    does_next event callbacks before after command answer other does shown

pub returns-clause-run : goal.returns-clause-run
returns-clause-run g c callbacks before after commands answers event other ran shown =
    runs_next event callbacks before commands answers after other ran shown
