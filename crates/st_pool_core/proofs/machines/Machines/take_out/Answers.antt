use Rattle.std.proofs.Common.{inl, inr, arith, refl, sym, ◌∙◌}
use Rattle.st_core.specs.Callbacks.{callbacks_of}
use Rattle.st_answers.specs.declared.command.Command.TheVariants as command
use Rattle.st_scheduled.specs.Answered.{taken_out_as}
use Rattle.st_pool_core.proofs.MachineLemmas.{place_is, place_within, machine_at, changed_there, no_place, ids_stay, set_same}
use Rattle.st_pool_core.proofs.PoolLemmas.{tells_same_id}
use Rattle.st_pool_core.proofs.machines.Machines.take_out.Goals as goal

-- there is no such machine
pub returns-in_default : goal.returns-in_default
returns-in_default g c = record { gives = inl (refl, rw (no_place c.args.id c.args.self.now (sym c.place_of.ensures.place ∙ c.in_default.is)) refl, refl) }

-- it has no message
pub returns-then-not-has_message : goal.returns-then-not-has_message
returns-then-not-has_message g c =
    let there = place_is c.args.id c.self.inside.all.items c.in-Some.place (rw (← c.self.view_is) at (sym c.place_of.ensures.place ∙ c.in-Some.is)) in
    let found = machine_at c.args.id c.self.inside.all.items c.in-Some.place c.index_mut-machine.result.now there c.index_mut-machine.ensures.value in
    let none = rw c.core.ensures at (sym c.has_message.ensures ∙ c.if-not-has_message.true) in
    rw (← c.self.view_is) (record { gives = inl (refl, rw found none, set_same c.args.id c.self.inside.all.items c.in-Some.place c.index_mut-machine.result.now there c.index_mut-machine.ensures.value) })

-- it was told to give its first
pub returns : goal.returns
returns g c =
    let there = place_is c.args.id c.self.inside.all.items c.in-Some.place (rw (← c.self.view_is) at (sym c.place_of.ensures.place ∙ c.in-Some.is)) in
    let found = machine_at c.args.id c.self.inside.all.items c.in-Some.place c.index_mut-machine.result.now there c.index_mut-machine.ensures.value in
    let some = rw c.core.ensures at (sym c.has_message.ensures ∙ c.if-not-has_message.false) in
    rw (← c.self.view_is) (record {
      gives = inr (
        rw found some,
        record {
          old = c.index_mut-machine.result.now;
          after = c.take_out.new.self;
          found = found;
          tells = c.take_out.ensures.told;
          others = changed_there c.args.id c.self.inside.all.items c.in-Some.place _ c.index_mut-machine.result.now c.take_out.new.self there c.index_mut-machine.ensures.value refl;
        },
      );
    })

-- nothing changes
pub invariant_of-self : goal.invariant_of-self
invariant_of-self g c =
    let there = place_is c.args.id c.self.inside.all.items c.in-Some.place (rw (← c.self.view_is) at (sym c.place_of.ensures.place ∙ c.in-Some.is)) in
    ids_stay c.self.inside.ids.keys c.self.inside.all.items c.in-Some.place c.index_mut-machine.result.now c.index_mut-machine.result.now c.self.invariant
    c.index_mut-machine.ensures.value refl (place_within c.args.id c.self.inside.all.items c.in-Some.place there)

-- its id stays
pub invariant_of-self-2 : goal.invariant_of-self-2
invariant_of-self-2 g c =
    let there = place_is c.args.id c.self.inside.all.items c.in-Some.place (rw (← c.self.view_is) at (sym c.place_of.ensures.place ∙ c.in-Some.is)) in
    let same = tells_same_id (callbacks_of g.M.Module g.M.State.PartialEq.eq) c.index_mut-machine.result.now command.TakeOut (taken_out_as c.take_out.result) c.take_out.new.self refl c.take_out.ensures.told in
    ids_stay c.self.inside.ids.keys c.self.inside.all.items c.in-Some.place c.index_mut-machine.result.now c.take_out.new.self c.self.invariant
    c.index_mut-machine.ensures.value same (place_within c.args.id c.self.inside.all.items c.in-Some.place there)

-- the machine is there
pub index_mut-machine-requires : goal.index_mut-machine-requires
index_mut-machine-requires g c =
    let there = place_is c.args.id c.self.inside.all.items c.in-Some.place (rw (← c.self.view_is) at (sym c.place_of.ensures.place ∙ c.in-Some.is)) in
    let within = place_within c.args.id c.self.inside.all.items c.in-Some.place there in
    omega (arith, c.self.inside.all.ok, within)

-- the rest is what the calls say
pub take_out-requires : goal.take_out-requires
take_out-requires g c κs = λ within. within

pub place_of-requires : goal.place_of-requires
place_of-requires g c κs = λ within. within
