use Rattle.std.proofs.Common.{sym, ◌∙◌}
use Rattle.st_table.proofs.CoversLemmas.{never_taken, never_entered}
use Rattle.st_table.proofs.hiding.covers.Goals as goal

pub returns-clause-never_taken : goal.returns-clause-never_taken
returns-clause-never_taken c = λ is. never_taken c.args.earlier.now c.args.later.now (sym c.covers_events.ensures ∙ is)

pub returns-clause-never_entered : goal.returns-clause-never_entered
returns-clause-never_entered c = λ is. never_entered c.args.earlier.now c.args.later.now (sym c.covers_events.ensures ∙ is)
