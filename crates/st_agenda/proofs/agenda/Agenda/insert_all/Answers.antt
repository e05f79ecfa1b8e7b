use Rattle.st_actions.specs.Plan.{inserts_of}
use Rattle.st_agenda.proofs.SweepLemmas.{kept_inserted, inserted_is}
use Rattle.st_events.proofs.Given.{given}
use Rattle.st_agenda.proofs.agenda.Agenda.insert_all.Goals as goal

pub invariant_of-self : goal.invariant_of-self
invariant_of-self g c =
    let inside = c.self.inside in
    kept_inserted inside.pending c.insert.new.self inside.timeouts.listed inside.expiries c.self.invariant (inserts_of c.args.actions.now) c.insert.ensures.inserted c.in_order.ensures

pub returns-clause-inserted : goal.returns-clause-inserted
returns-clause-inserted g c =
    let inside = c.self.inside in
    rw (← c.self.view_is, c.requires.count)
    (inserted_is inside.pending c.insert.new.self inside.timeouts.listed inside.expiries c.self.invariant (inserts_of c.args.actions.now) c.insert.ensures.inserted inside.timeouts.reserved)

-- the list is the caller's, and so is its layout
pub insert-requires : goal.insert-requires
insert-requires g c =
    (search given, (c.requires.count, (rw (← c.self.view_is) at c.requires.reserved, rw (← c.self.view_is) at c.requires.numbers)))

pub returns-clause-same_settings : goal.returns-clause-same_settings
returns-clause-same_settings g c = c.insert.ensures.same_settings

pub returns-clause-same_sends : goal.returns-clause-same_sends
returns-clause-same_sends g c = c.insert.ensures.same_sends
