use Rattle.std.proofs.Common.{◌≡◌, ◌+◌, ◌≤◌, true, Some, length, refl, ap, arith}
use Rattle.std.specs.Prelude.{Result, Ok, Err, OnOk}
use Rattle.std.specs.Result.{is_ok}
use Rattle.st_events.proofs.PlacesLemmas.{present-more, full-more, full-length}
use Rattle.st_events.proofs.small_list.SmallList.push.Goals as goal

-- what holds where a call succeeds holds, for it succeeded
where_ok : {T E : Type 0} (r : Result T E) (P : Type 0) → is_ok r ≡ true → OnOk r P → P
where_ok (Ok x) P ok holds = holds
where_ok (Err e) P ok holds = cc

pub push_reserved-requires : goal.push_reserved-requires
push_reserved-requires g c = (omega arith, where_ok c.reserve.result _ c.if-is_err.ensures.negation c.reserve.ensures.ok)

pub invariant_of-self-2 : goal.invariant_of-self-2
invariant_of-self-2 g c = (
  omega (arith, c.self.invariant.0, c.reserve.ensures.capacity, c.push_reserved.ensures.capacity),
  rw (c.push_reserved.ensures.items, c.reserve.ensures.items) (full-more _ c.args.element c.self.invariant.1),
)

pub returns-clause-pushed : goal.returns-clause-pushed
returns-clause-pushed g c =
    rw (c.push_reserved.ensures.items, c.reserve.ensures.items, ← c.self.view_is) (present-more c.self.inside.elements.items (Some c.args.element))

-- a list of fewer than four has an inline place left, so no memory was wanted
pub returns-then-is_err-clause-inline : goal.returns-then-is_err-clause-inline
returns-then-is_err-clause-inline g c = λ short.
    let room : length c.self.inside.elements.items + 1 ≤ c.self.inside.elements.capacity =
    omega (arith, c.self.invariant.0, full-length _ c.self.invariant.1, ap length c.self.view_is, short) in
    let fine = c.reserve.ensures.succeeds room in
    cc (c.if-is_err.ensures.negation, fine)

pub returns-clause-inline : goal.returns-clause-inline
returns-clause-inline g c = λ short. refl
