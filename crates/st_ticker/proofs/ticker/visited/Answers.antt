use Rattle.st_ticker.proofs.ticker.visited.Goals as goal

pub returns-in-Ok-clause-ticked : goal.returns-in-Ok-clause-ticked
returns-in-Ok-clause-ticked g c = λ _. (c.in-Ok.ticked.expired, c.in-Ok.ensures)
