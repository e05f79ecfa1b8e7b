use Rattle.std.proofs.Common.{◌≡◌, ◌-◌, suc, length, drop, sym, ap, subst, ◌∙◌, arith}
use Rattle.st_timeouts.proofs.FallingLemmas.{AllCome, come_more, come_behind, all_come}
use Rattle.st_timeouts.proofs.order.Order.count_due.Goals as goal
use Rattle.st_timeouts.proofs.order.Order.count_due.Goals.{else-loop-place-test, then-loop-place-test+then-not-reached}

pub loop-place-preserved : goal.loop-place-preserved
loop-place-preserved g c =
    let place = c.loop-place.place in
    let keys = c.self.inside.keys.items in
    let next : suc (place - 1) ≡ place = omega arith in
    let come = sym c.reached.ensures.come ∙ c.if-not-reached.false in
    let behind = subst (λ n. AllCome c.args.now (drop n keys)) (sym next) c.loop-place.invariant.come in
    record {
      within = omega (arith, c.loop-place.invariant.within);
      come = come_more c.args.now keys (place - 1) c.key_at.result c.key_at.ensures come behind;
      looks = omega (arith, c.reached.ensures.looks, c.loop-place.invariant.looks, c.loop-place.invariant.within);
    }

pub returns-clause-count : goal.returns-clause-count
returns-clause-count g c =
    let place = c.loop-place.place in
    let keys = c.self.inside.keys.items in
    elim c.loop-place-test.branch [
      | else-loop-place-test w ↦
          (let at_front : place ≡ 0 = omega (arith, w.loop-place-test.false) in
          let whole : length keys - place ≡ length keys = omega (arith, at_front) in
          let all = all_come c.args.now keys (subst (λ n. AllCome c.args.now (drop n keys)) at_front c.loop-place.invariant.come) in
          rw (← c.self.view_is, c.len.ensures) (whole ∙ all))
      | then-loop-place-test+then-not-reached w ↦
          (let next : suc (place - 1) ≡ place = omega (arith, w.loop-place-test.true) in
          let behind = subst (λ n. AllCome c.args.now (drop n keys)) (sym next) c.loop-place.invariant.come in
          let not_come = sym w.reached.ensures.come ∙ w.if-not-reached.true in
          let some = come_behind c.args.now keys (place - 1) w.key_at.result c.self.invariant w.key_at.ensures not_come behind (omega (arith, next, c.loop-place.invariant.within)) in
          let whole : length keys - suc (place - 1) ≡ length keys - place = ap (λ n. length keys - n) next in
          rw (← c.self.view_is, c.len.ensures) (sym whole ∙ some))
    ]
