use Rattle.std.proofs.Common.{◌∙◌}
use Rattle.st_timeouts.proofs.RowLemmas.{rows_shown}
use Rattle.st_timeouts.proofs.timeouts.Timeouts.list.Goals as goal

pub returns : goal.returns
returns g c = rw (← c.self.view_is) (c.from.ensures ∙ (c.in_ok-list.ensures ∙ rows_shown c.self.inside.entries.rows))
