use Rattle.std.proofs.Common.{◌≡◌, ◌<◌, ◌^◌, length, ap, ◌∙◌, arith, rules}
use Rattle.st_doors.specs.Doors.{count_in}
use Rattle.st_doors.proofs.IdleLemmas.{no_door}
use Rattle.st_doors.proofs.TickingLemmas.{labels-so_far, within-so_far, ticked-more, expired-more, ticked-all, expired-all}
use Rattle.st_doors.proofs.late_doors.LateDoors.tick_each.Goals as goal

pub tell_at-requires-clause-place : goal.tell_at-requires-clause-place
tell_at-requires-clause-place c = within-so_far c.args.moment c.loop-place.place c.args.self.now c.loop-place.self c.loop-place.invariant.ticked (omega arith)

-- a tick found no memory, and left the doors as they were
pub returns-in_err-answer-clause-same_labels : goal.returns-in_err-answer-clause-same_labels
returns-in_err-answer-clause-same_labels c =
    labels-so_far c.args.moment c.loop-place.place c.args.self.now c.tell_at.new.self (c.in_err-answer.ensures.unchanged ∙ c.loop-place.invariant.ticked)

-- one door more was ticked
pub loop-place-preserved : goal.loop-place-preserved
loop-place-preserved c =
    let less : c.loop-place.place < length c.args.self.now = omega arith in
    let count : c.from-expired.result ≡ c.let_go.result.expired = search rules in
    let small : c.from-expired.result < 2 ^ 64 = search rules in
    record {
      ticked = ticked-more c.args.moment c.loop-place.place c.args.self.now c.loop-place.self c.tell_at.new.self no_door c.loop-place.invariant.ticked less
          (c.in_ok-answer.ensures.told no_door);
      counted = expired-more c.args.moment c.loop-place.place c.args.self.now c.loop-place.self c.loop-place.expired c.from-expired.result no_door c.loop-place.invariant.ticked less
          c.loop-place.invariant.counted (count ∙ (c.let_go.ensures.expired ∙ ap count_in (c.in_ok-answer.ensures.answer no_door)));
      bounded = omega (arith, small, c.loop-place.invariant.bounded);
    }

pub returns-clause-expired : goal.returns-clause-expired
returns-clause-expired c =
    let all : c.loop-place.place ≡ length c.args.self.now = omega arith in
    expired-all c.args.moment c.loop-place.place c.loop-place.expired c.args.self.now c.loop-place.invariant.counted all

pub returns-clause-ticked : goal.returns-clause-ticked
returns-clause-ticked c =
    let all : c.loop-place.place ≡ length c.args.self.now = omega arith in
    ticked-all c.args.moment c.loop-place.place c.args.self.now c.loop-place.self c.loop-place.invariant.ticked all

pub returns-clause-same_labels : goal.returns-clause-same_labels
returns-clause-same_labels c =
    labels-so_far c.args.moment c.loop-place.place c.args.self.now c.loop-place.self c.loop-place.invariant.ticked
