use Rattle.st_ticker.proofs.ticker.Ticker.visit.Goals as goal

pub returns-in-Ok-clause-due : goal.returns-in-Ok-clause-due
returns-in-Ok-clause-due g c = λ ticked. rw (c.deref-in-Ok.ensures, c.in-Ok.ensures.id) at (c.visited.ensures.due ticked)

pub returns-in-Ok-clause-ticked : goal.returns-in-Ok-clause-ticked
returns-in-Ok-clause-ticked g c = λ ticked. rw (c.deref-in-Ok.ensures, c.in-Ok.ensures.id) at (c.visited.ensures.ticked ticked)
