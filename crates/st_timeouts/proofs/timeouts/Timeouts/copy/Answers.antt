use Rattle.std.proofs.Common.{◌∙◌}
use Rattle.st_timeouts.proofs.RowLemmas.{rows_shown}
use Rattle.st_timeouts.proofs.timeouts.Timeouts.copy.Goals as goal

pub copy_all-requires-clause-rows : goal.copy_all-requires-clause-rows
copy_all-requires-clause-rows g c = c.deref.ensures.value ∙ (c.in_ok-rows.ensures ∙ rows_shown c.self.inside.entries.rows)
