use Rattle.std.proofs.Common.{length, ap, ◌∙◌}
use Rattle.std.specs.List.{filter}
use Rattle.st_timeouts.specs.Entries.{listed_of}
use Rattle.st_timeouts.specs.Order.{has_come}
use Rattle.st_timeouts.proofs.HandedLemmas.{count_is}
use Rattle.st_timeouts.proofs.timeouts.Timeouts.count_due.Goals as goal

pub returns-clause-count : goal.returns-clause-count
returns-clause-count g c =
    let listed = listed_of c.self.inside.entries.rows in
    rw (← c.self.view_is)
    (c.count_due.ensures.count ∙ (ap (λ t. length (filter (has_come c.args.now) t)) c.self.invariant.keys_are ∙ count_is c.args.now listed))
