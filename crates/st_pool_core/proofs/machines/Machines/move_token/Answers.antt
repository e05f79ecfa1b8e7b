use Rattle.std.proofs.Common.{refl, sym, ◌∙◌}
use Rattle.st_scheduled.specs.ScheduledMachine.{moved}
use Rattle.st_pool_core.proofs.MachineLemmas.{place_is, place_within, changed_there, none_changed, no_place, ids_stay}
use Rattle.st_pool_core.proofs.machines.Machines.move_token.Goals as goal

-- its id stays
pub invariant_of-self : goal.invariant_of-self
invariant_of-self g c =
    let there = place_is c.args.id c.self.inside.all.items c.in-Some.place (rw (← c.self.view_is) at (sym c.place_of.ensures.place ∙ c.in-Some.is)) in
    ids_stay c.self.inside.ids.keys c.self.inside.all.items c.in-Some.place c.index_mut-machine.result.now c.move_token.new.self c.self.invariant
    c.index_mut-machine.ensures.value (rw c.move_token.ensures refl) (place_within c.args.id c.self.inside.all.items c.in-Some.place there)

-- its token stands elsewhere
pub returns-in-Some : goal.returns-in-Some
returns-in-Some g c =
    let there = place_is c.args.id c.self.inside.all.items c.in-Some.place (rw (← c.self.view_is) at (sym c.place_of.ensures.place ∙ c.in-Some.is)) in
    rw (← c.self.view_is) (changed_there c.args.id c.self.inside.all.items c.in-Some.place (moved c.args.with_callers) c.index_mut-machine.result.now
    c.move_token.new.self there c.index_mut-machine.ensures.value c.move_token.ensures)

pub returns-in_default : goal.returns-in_default
returns-in_default g c = sym (none_changed c.args.id c.args.self.now (moved c.args.with_callers) (no_place c.args.id c.args.self.now (sym c.place_of.ensures.place ∙ c.in_default.is)))
