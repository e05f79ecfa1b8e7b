use Rattle.std.proofs.Common.{◌≡◌, ℕ, suc, ◌+◌, ◌-◌, ◌≤◌, ◌∙◌, ap, sym, false, arith}
use Rattle.std.specs.List.{list_any}
use Rattle.st_doors.specs.Doors.{IsFirst, is_ready_door}
use Rattle.st_doors.specs.Settling.{gone_on, run_until_idle, turn_limit}
use Rattle.st_doors.proofs.DoorLemmas.{when_none, when_some}
use Rattle.st_doors.proofs.IdleLemmas.{labels-more, rests-all, run-gone_on, run-rested, run-none}
use Rattle.st_doors.proofs.until_idle.run_until_idle.Goals as goal

-- no door may be ready
pub returns-then-from-until-clause-rested : goal.returns-then-from-until-clause-rested
returns-then-from-until-clause-rested c =
    let none : c.args.until ≤ c.args.from = omega (arith, c.if-from-until.true) in
    sym (run-rested turn_limit c.args.moment c.args.doors.now (rests-all c.args.doors.now c.args.from c.args.until none c.requires.resting))

-- none is ready
pub returns-in_default-clause-rested : goal.returns-in_default-clause-rested
returns-in_default-clause-rested c =
    let none : list_any is_ready_door c.loop.doors ≡ false = when_none _ c.in_ok-place.field-0 c.in_default.is c.in_ok-place.ensures.none in
    c.first_ready.ensures.same ∙ (sym (run-rested (turn_limit - c.loop.counter) c.args.moment c.loop.doors none) ∙ c.loop.invariant.rested)

-- the first ready one went on
pub loop-preserved : goal.loop-preserved
loop-preserved c =
    let same : c.first_ready.new.self ≡ c.loop.doors = c.first_ready.ensures.same in
    let here : IsFirst is_ready_door c.loop.doors c.in-Some.place = when_some _ c.in_ok-place.field-0 c.in-Some.place c.in-Some.is c.in_ok-place.ensures.first in
    let left : suc (turn_limit - (c.loop.counter + 1)) ≡ turn_limit - c.loop.counter = omega arith in
    record {
      labels = labels-more c.args.doors.now c.loop.doors c.go_on.new.doors c.loop.invariant.labels (rw same at c.go_on.ensures.same_labels);
      rested = ap (run_until_idle (turn_limit - (c.loop.counter + 1)) c.args.moment) (c.in_ok-go_on.ensures.gone_on ∙ ap (gone_on c.args.moment) same)
          ∙ (sym (run-gone_on (turn_limit - (c.loop.counter + 1)) c.args.moment c.loop.doors c.in-Some.place here)
          ∙ (ap (λ (n : ℕ). run_until_idle n c.args.moment c.loop.doors) left ∙ c.loop.invariant.rested));
    }

-- no step is left
pub returns-clause-rested : goal.returns-clause-rested
returns-clause-rested c =
    let none : turn_limit - c.loop.counter ≡ 0 = omega arith in
    sym (run-none c.args.moment c.loop.doors) ∙ (ap (λ (n : ℕ). run_until_idle n c.args.moment c.loop.doors) (sym none) ∙ c.loop.invariant.rested)
