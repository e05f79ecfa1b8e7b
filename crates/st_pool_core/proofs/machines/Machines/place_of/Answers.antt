use Rattle.std.proofs.Common.{sym, ap, ◌∙◌}
use Rattle.st_pool_core.proofs.MachineLemmas.{place_is, place_within, if_some}
use Rattle.st_scheduled.specs.ScheduledMachine.{same_id}
use Rattle.std.specs.Prelude.{position}
use Rattle.st_pool_core.proofs.machines.Machines.place_of.Goals as goal

pub returns-clause-place : goal.returns-clause-place
returns-clause-place g c = rw (← c.self.view_is) (c.get_index_of.ensures.index ∙ ap (position (same_id c.args.id)) c.self.invariant)

pub returns-clause-within : goal.returns-clause-within
returns-clause-within g c = if_some _ c.get_index_of.result (λ place found. rw (← c.self.view_is)
    (place_within c.args.id c.self.inside.all.items place (place_is c.args.id c.self.inside.all.items place
    (sym (c.get_index_of.ensures.index ∙ ap (position (same_id c.args.id)) c.self.invariant) ∙ found))))
