use Rattle.std.proofs.Common.{arith, refl, sym, ◌∙◌}
use Rattle.st_pool_core.proofs.MachineLemmas.{place_is, place_within, machine_at, changed_there, no_place, ids_stay}
use Rattle.st_pool_core.proofs.machines.Machines.tell.Goals as goal

-- its id stays
pub invariant_of-self : goal.invariant_of-self
invariant_of-self g c =
    let there = place_is c.args.id c.self.inside.all.items c.in-Some.place (rw (← c.self.view_is) at (sym c.place_of.ensures.place ∙ c.in-Some.is)) in
    ids_stay c.self.inside.ids.keys c.self.inside.all.items c.in-Some.place c.index_mut-machine.result.now c.tell.new.self c.self.invariant
    c.index_mut-machine.ensures.value c.tell.ensures.same_id (place_within c.args.id c.self.inside.all.items c.in-Some.place there)

-- the machine of the id was told it
pub returns-in-Some-clause-told : goal.returns-in-Some-clause-told
returns-in-Some-clause-told g c =
    let there = place_is c.args.id c.self.inside.all.items c.in-Some.place (rw (← c.self.view_is) at (sym c.place_of.ensures.place ∙ c.in-Some.is)) in
    rw (← c.self.view_is) (record {
      old = c.index_mut-machine.result.now;
      after = c.tell.new.self;
      found = machine_at c.args.id c.self.inside.all.items c.in-Some.place c.index_mut-machine.result.now there c.index_mut-machine.ensures.value;
      tells = c.tell.ensures.told;
      others = changed_there c.args.id c.self.inside.all.items c.in-Some.place _ c.index_mut-machine.result.now c.tell.new.self there c.index_mut-machine.ensures.value refl;
    })

pub returns-in-None-clause-missing : goal.returns-in-None-clause-missing
returns-in-None-clause-missing g c = (refl, no_place c.args.id c.args.self.now (sym c.place_of.ensures.place ∙ c.in-None.is), refl)

-- the machine is there
pub index_mut-machine-requires : goal.index_mut-machine-requires
index_mut-machine-requires g c =
    let there = place_is c.args.id c.self.inside.all.items c.in-Some.place (rw (← c.self.view_is) at (sym c.place_of.ensures.place ∙ c.in-Some.is)) in
    let within = place_within c.args.id c.self.inside.all.items c.in-Some.place there in
    omega (arith, c.self.inside.all.ok, within)

-- the rest is what the calls say
pub place_of-requires : goal.place_of-requires
place_of-requires g c κs = λ within. within

pub tell-requires : goal.tell-requires
tell-requires g c κs = λ within. within

pub returns-in-Some-clause-missing : goal.returns-in-Some-clause-missing
returns-in-Some-clause-missing g c = tt

pub returns-in-None-clause-told : goal.returns-in-None-clause-told
returns-in-None-clause-told g c = tt
