use Rattle.std.proofs.Common.{sym, ap, ◌∙◌}
use Rattle.st_timeouts.specs.Entries.{listed_of}
use Rattle.st_timeouts.specs.Timeouts.{first_of}
use Rattle.st_timeouts.proofs.HandedLemmas.{first_zero_is}
use Rattle.st_timeouts.proofs.timeouts.Timeouts.first_zero.Goals as goal

pub returns : goal.returns
returns g c =
    let listed = listed_of c.self.inside.entries.rows in
    rw (← c.self.view_is) (c.first.ensures ∙ (ap first_of c.self.invariant.zeros_are ∙ sym (first_zero_is listed)))
