use Rattle.std.proofs.Common.{◌≡◌, ◌+◌, length, length-append, ap, arith, refl, sym, ◌∙◌, []}
use Rattle.std.proofs.lemmas.Grind.{common_steps}
use Rattle.std.proofs.lemmas.List.{map-append}
use Rattle.std.specs.Prelude.{◌∷◌}
use Rattle.std.specs.Vec.Iter.{into_iter_items}
use Rattle.st_core.proofs.RunLemmas.{all_taken}
use Rattle.st_scheduled.specs.Serving.{scheduled_at_first}
use Rattle.st_pool_core.proofs.OpeningLemmas.{first_ids}
use Rattle.st_pool_core.proofs.machines.Machines.new.Goals as goal

-- one machine more is taken in
pub loop-core-preserved : goal.loop-core-preserved
loop-core-preserved g c = record {
  can_next = tt;
  is_finite = tt;
  split = grind (arith, common_steps);
  reserved = grind (arith, common_steps);
  count = grind (arith, common_steps);
  machines = rw (c.push_reserved.ensures.items, c.loop-core.invariant.machines, c.new.ensures) (sym (map-append scheduled_at_first c.loop-core.yielded (c.in-Some.core ∷ [])));
}

-- none is left
pub returns-clause-machines : goal.returns-clause-machines
returns-clause-machines g c =
    let none : length (into_iter_items c.loop-core.core-iterator) ≡ 0 = omega (arith, c.loop-core.core-iterator.rest.ok, c.in-None.ensures.steps.0) in
    let all : c.loop-core.yielded ≡ c.args.cores.items = all_taken _ _ _ c.loop-core.invariant.split none in
    rw (← all) c.loop-core.invariant.machines

-- the ids are theirs
pub invariant_of-result : goal.invariant_of-result
invariant_of-result g c = rw (returns-clause-machines g c) (c.requires ∙ sym (first_ids c.args.cores.items))

-- there is a place for each machine that is left
pub push_reserved-requires : goal.push_reserved-requires
push_reserved-requires g c =
    let left = into_iter_items c.loop-core.core-iterator in
    let next = ap length c.in-Some.ensures.steps.0 in
    let whole : length c.loop-core.yielded + length left ≡ length c.args.cores.items =
    sym (length-append c.loop-core.yielded left) ∙ ap length c.loop-core.invariant.split in
    omega (arith, next, whole, c.loop-core.invariant.reserved, c.loop-core.invariant.count)

-- fewer are left
pub loop-core-smaller : goal.loop-core-smaller
loop-core-smaller g c =
    let next = ap length c.in-Some.ensures.steps.0 in
    omega (arith, c.loop-core.core-iterator.rest.ok, c.next.new.self.rest.ok, next)

-- no memory: the machines come back
pub returns-in_default-clause-machines : goal.returns-in_default-clause-machines
returns-in_default-clause-machines g c = tt

pub returns-in_default-clause-returned : goal.returns-in_default-clause-returned
returns-in_default-clause-returned g c = refl

pub returns-clause-returned : goal.returns-clause-returned
returns-clause-returned g c = tt

pub new-requires : goal.new-requires
new-requires g c κs = λ within. within

pub next-requires : goal.next-requires
next-requires g c = tt
