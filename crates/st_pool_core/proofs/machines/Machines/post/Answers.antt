use Rattle.std.proofs.Common.{inl, inr, arith, refl, sym, ◌∙◌}
use Rattle.st_core.specs.Callbacks.{callbacks_of}
use Rattle.st_answers.specs.declared.command.Command.TheVariants as command
use Rattle.st_scheduled.specs.Answered.{posted_as}
use Rattle.st_pool_core.proofs.MachineLemmas.{place_is, place_within, machine_at, changed_there, no_place, ids_stay}
use Rattle.st_pool_core.proofs.PoolLemmas.{tells_same_id}
use Rattle.st_pool_core.proofs.machines.Machines.post.Goals as goal

-- there is no such machine
pub returns-in_default : goal.returns-in_default
returns-in_default g c = rw c.new.ensures (record {
  posts = inl (refl, no_place c.args.id c.args.self.now (sym c.place_of.ensures.place ∙ c.in_default.is), refl);
  returned = refl;
})

-- the machine of the id was posted it
pub returns : goal.returns
returns g c =
    let there = place_is c.args.id c.self.inside.all.items c.in-Some.place (rw (← c.self.view_is) at (sym c.place_of.ensures.place ∙ c.in-Some.is)) in
    rw (← c.self.view_is) (record {
      posts = inr (record {
        old = c.index_mut-machine.result.now;
        after = c.post.new.self;
        found = machine_at c.args.id c.self.inside.all.items c.in-Some.place c.index_mut-machine.result.now there c.index_mut-machine.ensures.value;
        tells = c.post.ensures.told;
        others = changed_there c.args.id c.self.inside.all.items c.in-Some.place _ c.index_mut-machine.result.now c.post.new.self there c.index_mut-machine.ensures.value refl;
      });
      returned = c.post.ensures.returned;
    })

-- its id stays
pub invariant_of-self : goal.invariant_of-self
invariant_of-self g c =
    let there = place_is c.args.id c.self.inside.all.items c.in-Some.place (rw (← c.self.view_is) at (sym c.place_of.ensures.place ∙ c.in-Some.is)) in
    let same = tells_same_id (callbacks_of g.M.Module g.M.State.PartialEq.eq) c.index_mut-machine.result.now (command.Post c.args.entry c.args.content) (posted_as c.post.result) c.post.new.self refl c.post.ensures.told in
    ids_stay c.self.inside.ids.keys c.self.inside.all.items c.in-Some.place c.index_mut-machine.result.now c.post.new.self c.self.invariant
    c.index_mut-machine.ensures.value same (place_within c.args.id c.self.inside.all.items c.in-Some.place there)

-- the machine is there
pub index_mut-machine-requires : goal.index_mut-machine-requires
index_mut-machine-requires g c =
    let there = place_is c.args.id c.self.inside.all.items c.in-Some.place (rw (← c.self.view_is) at (sym c.place_of.ensures.place ∙ c.in-Some.is)) in
    let within = place_within c.args.id c.self.inside.all.items c.in-Some.place there in
    omega (arith, c.self.inside.all.ok, within)

-- the rest is what the calls say
pub post-requires : goal.post-requires
post-requires g c κs = λ within. within

pub place_of-requires : goal.place_of-requires
place_of-requires g c κs = λ within. within
