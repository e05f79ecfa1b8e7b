use Rattle.std.proofs.Common.{◌≡◌, ◌-◌, suc, drop, sym, subst, ◌∙◌, arith}
use Rattle.st_events.proofs.ComparedLemmas.{timers_same}
use Rattle.st_timeouts.specs.Order.{OtherThan}
use Rattle.st_timeouts.proofs.FallingLemmas.{other_behind, other_more, forgotten, none_forgotten}
use Rattle.st_timeouts.proofs.order.place_of.Goals as goal

pub loop-place-init : goal.loop-place-init
loop-place-init c = record {
  within = c.place_for-place.ensures.within;
  others = other_behind c.args.key.now c.args.keys.now.items c.place_for-place.result c.place_for-place.ensures.before c.requires.none_else;
}

pub loop-place-preserved : goal.loop-place-preserved
loop-place-preserved c =
    let place = c.loop-place.place in
    let keys = c.args.keys.now.items in
    let next : suc (place - 1) ≡ place = omega arith in
    let behind = subst (λ n. OtherThan c.args.key.now.timer (drop n keys)) (sym next) c.loop-place.invariant.others in
    let other = sym c.is_for.ensures ∙ c.if-is_for.false in
    record {
      within = omega (arith, c.loop-place.invariant.within);
      others = other_more keys (place - 1) c.key_at.result c.args.key.now.timer c.key_at.ensures other behind;
    }

pub returns-then-is_for-clause-found : goal.returns-then-is_for-clause-found
returns-then-is_for-clause-found c =
    let place = c.loop-place.place in
    let keys = c.args.keys.now.items in
    let next : suc (place - 1) ≡ place = omega arith in
    let behind = subst (λ n. OtherThan c.args.key.now.timer (drop n keys)) (sym next) c.loop-place.invariant.others in
    let same = sym (timers_same c.args.key.now.timer c.key_at.result.timer (sym c.is_for.ensures ∙ c.if-is_for.true)) in
    forgotten keys (place - 1) c.key_at.result c.args.key.now.timer c.key_at.ensures same behind c.requires.once_each

pub returns-clause-none : goal.returns-clause-none
returns-clause-none c =
    let at_front : c.loop-place.place ≡ 0 = omega (arith, c.loop-place-test.false) in
    none_forgotten c.args.keys.now.items c.args.key.now.timer (subst (λ n. OtherThan c.args.key.now.timer (drop n c.args.keys.now.items)) at_front c.loop-place.invariant.others)
