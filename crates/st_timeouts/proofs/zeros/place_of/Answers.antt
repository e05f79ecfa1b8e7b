use Rattle.std.proofs.Common.{◌≡◌, ◌+◌, ◌≤◌, suc, length, take, sym, subst, ◌∙◌, arith}
use Rattle.st_timeouts.specs.Zeros.{OtherZeros}
use Rattle.st_timeouts.proofs.ZerosLemmas.{zeros_within, zeros_take_more, zeros_forgotten, zeros_filter, zeros_all}
use Rattle.st_timeouts.proofs.zeros.place_of.Goals as goal

pub returns-then-is_at-clause-found : goal.returns-then-is_at-clause-found
returns-then-is_at-clause-found c =
    let items = c.args.list.now.items in
    let one = zeros_within items c.loop-place.place (omega (arith, c.loop-place-test.true, c.len-place-end.ensures)) in
    let same = sym (c.is_at.ensures one.0 one.1) ∙ c.if-is_at.true in
    zeros_forgotten items c.loop-place.place one.0 c.args.timer one.1 same c.loop-place.invariant.others c.requires.once

pub loop-place-preserved : goal.loop-place-preserved
loop-place-preserved c =
    let items = c.args.list.now.items in
    let place = c.loop-place.place in
    let within : place + 1 ≤ length items = omega (arith, c.loop-place-test.true, c.len-place-end.ensures) in
    let one = zeros_within items place (omega (arith, within)) in
    let other = sym (c.is_at.ensures one.0 one.1) ∙ c.if-is_at.false in
    let next : suc place ≡ place + 1 = omega arith in
    record {
      end = c.loop-place.invariant.end;
      within = within;
      others = subst (λ n. OtherZeros c.args.timer (take n items)) next (zeros_take_more items place one.0 c.args.timer one.1 other c.loop-place.invariant.others);
    }

pub returns-clause-none : goal.returns-clause-none
returns-clause-none c =
    let items = c.args.list.now.items in
    let all : c.loop-place.place ≡ length items = omega (arith, c.loop-place.invariant.within, c.loop-place-test.false, c.len-place-end.ensures) in
    sym (zeros_filter c.args.timer items (subst (OtherZeros c.args.timer) (zeros_all items c.loop-place.place all) c.loop-place.invariant.others))
