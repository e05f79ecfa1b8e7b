use Rattle.std.proofs.Common.{sym}
use Rattle.st_actions.proofs.CountLemmas.{drop_there}
use Rattle.st_events.proofs.Given.{given}
use Rattle.st_actions.proofs.counts.count_at.Goals as goal

pub returns-in-Some-clause-counted : goal.returns-in-Some-clause-counted
returns-in-Some-clause-counted g c =
    rw (drop_there c.args.actions.now c.args.index c.in-Some.action.now (sym c.in-Some.ensures.element))
    (λ before. c.count_one.ensures.counted _ before)

-- the list is the caller's, and so is its layout
pub get-requires : goal.get-requires
get-requires g c = search given

pub count_one-requires : goal.count_one-requires
count_one-requires g c = record { room = c.requires.room; numbers = c.requires.numbers; updates = c.requires.updates }
