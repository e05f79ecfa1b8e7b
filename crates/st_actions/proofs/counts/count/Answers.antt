use Rattle.std.proofs.Common.{◌≡◌, ◌+◌, ◌-◌, refl, arith}
use Rattle.std.proofs.lemmas.List.{drop_all}
use Rattle.st_actions.proofs.CountLemmas.{all_counted}
use Rattle.st_events.proofs.Given.{given}
use Rattle.st_actions.proofs.counts.count.Goals as goal

-- the list is the caller's, and so is its layout
pub len-index-requires : goal.len-index-requires
len-index-requires g c = search given

pub count_at-requires : goal.count_at-requires
count_at-requires g c =
    let kept = c.loop-index.invariant in
    let length = c.len-index.ensures.length in (
      search given,
      (
        omega (arith, kept.few, length, c.len-index.type_inv, c.loop-index-test.true),
        (
          omega (arith, kept.few_numbers, length, c.len-index.type_inv, c.loop-index-test.true),
          (kept.few_updates, omega (arith, kept.within, c.loop-index-test.true)),
        ),
      ),
    )

pub returns : goal.returns
returns g c = all_counted c.loop-index.counts c.args.actions.now c.loop-index.index (omega (arith, c.loop-index-test.false)) c.loop-index.invariant.counted

pub loop-index-init : goal.loop-index-init
loop-index-init g c =
    let length = c.len-index.ensures.length in
    let none = drop_all c.len-index.result c.args.actions.now (omega (arith, length)) in
    record {
      counted = rw none (record { replies = refl; inserts = refl; settings = refl; updates = refl; sends = refl; numbers = refl; postpone = λ given. refl });
      within = omega (arith, length);
      few = omega (arith, length);
      few_updates = omega arith;
      few_numbers = omega (arith, length);
    }

pub overflow_sub-index : goal.overflow_sub-index
overflow_sub-index g c = omega (arith, c.loop-index-test.true)

pub loop-index-smaller : goal.loop-index-smaller
loop-index-smaller g c = omega (arith, c.loop-index-test.true)

pub loop-index-preserved : goal.loop-index-preserved
loop-index-preserved g c =
    let kept = c.loop-index.invariant in
    let next : c.loop-index.index - 1 + 1 ≡ c.loop-index.index = omega (arith, c.loop-index-test.true) in
    record {
      counted = c.count_at.ensures.counted (rw next kept.counted);
      within = omega (arith, kept.within);
      few = omega (arith, kept.few, c.count_at.ensures.one, c.loop-index-test.true);
      few_updates = c.count_at.ensures.updates;
      few_numbers = omega (arith, kept.few_numbers, c.count_at.ensures.one_number, c.loop-index-test.true);
    }
