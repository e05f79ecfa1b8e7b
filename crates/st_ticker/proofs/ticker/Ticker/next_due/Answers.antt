use Rattle.std.proofs.Common.{inr}
use Rattle.st_ticker.proofs.ticker.Ticker.next_due.Goals as goal

pub returns-in-Ok-clause-read : goal.returns-in-Ok-clause-read
returns-in-Ok-clause-read g c = inr (rw (c.deref-in-Ok.ensures, c.in-Ok.ensures.id) at c.next_due.ensures)
