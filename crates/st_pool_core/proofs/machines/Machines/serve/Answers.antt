use Rattle.std.proofs.Common.{inl, inr, arith, refl, sym, ◌∙◌}
use Rattle.st_pool_core.proofs.MachineLemmas.{place_is, place_within, machine_at, changed_there, no_place, ids_stay}
use Rattle.st_pool_core.proofs.machines.Machines.serve.Goals as goal

-- there is no such machine
pub returns-in_default : goal.returns-in_default
returns-in_default g c =
    rw c.refused.ensures (record { serves = inl (refl, refl, no_place c.args.id c.args.self.now (sym c.place_of.ensures.place ∙ c.in_default.is), refl) })

-- its id stays
pub invariant_of-self : goal.invariant_of-self
invariant_of-self g c =
    let there = place_is c.args.id c.self.inside.all.items c.in-Some.place (rw (← c.self.view_is) at (sym c.place_of.ensures.place ∙ c.in-Some.is)) in
    ids_stay c.self.inside.ids.keys c.self.inside.all.items c.in-Some.place c.index_mut-machine.result.now c.serve.new.self c.self.invariant
    c.index_mut-machine.ensures.value c.serve.ensures.same_id (place_within c.args.id c.self.inside.all.items c.in-Some.place there)

-- the machine of the id was served
pub returns : goal.returns
returns g c =
    let there = place_is c.args.id c.self.inside.all.items c.in-Some.place (rw (← c.self.view_is) at (sym c.place_of.ensures.place ∙ c.in-Some.is)) in
    rw (← c.self.view_is) (record {
      serves = inr (record {
        old = c.index_mut-machine.result.now;
        after = c.serve.new.self;
        found = machine_at c.args.id c.self.inside.all.items c.in-Some.place c.index_mut-machine.result.now there c.index_mut-machine.ensures.value;
        serves = rw c.served-answer.ensures c.serve.ensures.served;
        token = c.has_token-keeps.ensures;
        others = changed_there c.args.id c.self.inside.all.items c.in-Some.place _ c.index_mut-machine.result.now c.serve.new.self there c.index_mut-machine.ensures.value refl;
      });
    })

-- the machine is there
pub index_mut-machine-requires : goal.index_mut-machine-requires
index_mut-machine-requires g c =
    let there = place_is c.args.id c.self.inside.all.items c.in-Some.place (rw (← c.self.view_is) at (sym c.place_of.ensures.place ∙ c.in-Some.is)) in
    let within = place_within c.args.id c.self.inside.all.items c.in-Some.place there in
    omega (arith, c.self.inside.all.ok, within)

-- the rest is what the calls say
pub serve-requires : goal.serve-requires
serve-requires g c κs = λ within. within

pub place_of-requires : goal.place_of-requires
place_of-requires g c κs = λ within. within
