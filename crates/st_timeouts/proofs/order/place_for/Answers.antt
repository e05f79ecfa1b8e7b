use Rattle.std.proofs.Common.{◌≡◌, ◌+◌, ◌-◌, ◌/◌, suc, take, sym, subst, ◌∙◌, arith}
use Rattle.st_timeouts.specs.Keys.{NoneBefore}
use Rattle.st_timeouts.proofs.FallingLemmas.{before_from, none_to}
use Rattle.st_timeouts.proofs.order.place_for.Goals as goal

pub loop-low-preserved-then-is_before : goal.loop-low-preserved-then-is_before
loop-low-preserved-then-is_before c =
    let middle = c.loop-low.low + (c.loop-low.high - c.loop-low.low) / 2 in
    let before = sym c.is_before.ensures ∙ c.if-is_before.true in
    record {
      order = omega arith;
      within = omega (arith, c.loop-low.invariant.within, c.loop-low-test.true);
      behind = c.loop-low.invariant.behind;
      before = before_from c.args.keys.now.items middle c.key_at.result c.args.key.now c.requires.in_order c.key_at.ensures before;
    }

pub loop-low-preserved : goal.loop-low-preserved
loop-low-preserved c =
    let middle = c.loop-low.low + (c.loop-low.high - c.loop-low.low) / 2 in
    let next : suc middle ≡ middle + 1 = omega arith in
    let behind = sym c.is_before.ensures ∙ c.if-is_before.false in
    record {
      order = omega (arith, c.loop-low-test.true);
      within = c.loop-low.invariant.within;
      behind = subst (λ n. NoneBefore c.args.key.now (take n c.args.keys.now.items)) next (none_to c.args.keys.now.items middle c.key_at.result c.args.key.now c.requires.in_order c.key_at.ensures behind);
      before = c.loop-low.invariant.before;
    }
