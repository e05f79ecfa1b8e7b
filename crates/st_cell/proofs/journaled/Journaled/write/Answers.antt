use Rattle.std.proofs.Common.{[], ◌∷◌, ◌++◌, ap, ◌∙◌}
use Rattle.st_cell.proofs.journaled.Journaled.write.Goals as goal

-- the journal has this entry more
pub returns-clause-written : goal.returns-clause-written
returns-clause-written g c =
    rw (c.write.ensures.written, c.count-number.ensures) (ap (λ held. record held.cell {
      journal = held.cell.journal ++ record { number = held.cell.scheduled.count; source = c.args.source; command = c.args.command; answer = c.args.answer } ∷ [];
    }) c.self.view_is)

pub returns-clause-places : goal.returns-clause-places
returns-clause-places g c = c.write.ensures.places ∙ ap (λ held. held.places) c.self.view_is
