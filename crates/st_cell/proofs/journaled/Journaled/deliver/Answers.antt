use Rattle.std.proofs.Common.{ap, ◌∙◌}
use Rattle.st_cell.proofs.journaled.Journaled.deliver.Goals as goal

-- the message was posted as an info
pub returns-in-Ok-clause-does : goal.returns-in-Ok-clause-does
returns-in-Ok-clause-does g c = c.in-Ok.ensures.does

pub returns-in-Ok-clause-room : goal.returns-in-Ok-clause-room
returns-in-Ok-clause-room g c = c.post_from.ensures.room

pub returns-in-Ok-clause-returned : goal.returns-in-Ok-clause-returned
returns-in-Ok-clause-returned g c = tt

-- or it was refused, and comes back
pub returns-in-Err-clause-does : goal.returns-in-Err-clause-does
returns-in-Err-clause-does g c = rw c.new.ensures c.in-Err.ensures.does

pub returns-in-Err-clause-room : goal.returns-in-Err-clause-room
returns-in-Err-clause-room g c = c.post_from.ensures.room

pub returns-in-Err-clause-returned : goal.returns-in-Err-clause-returned
returns-in-Err-clause-returned g c =
    ap (λ refused. refused.value) c.new.ensures ∙ ap (λ content. record c.args.message { content = content }) c.in-Err.ensures.returned
