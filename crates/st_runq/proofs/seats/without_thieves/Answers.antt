use Rattle.std.proofs.Common.{◌+◌, length-append, arith, refl, ap, ◌∙◌}
use Rattle.std.proofs.lemmas.List.Elements.{All-nil, All-push}
use Rattle.st_runq.specs.Seats.{IsReady}
use Rattle.st_runq.proofs.seats.without_thieves.Goals as goal

-- none is made yet
pub loop-number-init : goal.loop-number-init
loop-number-init c = rw c.new-all.ensures.items (refl, All-nil (IsReady c.args.inlet.now))

-- one more is ready
pub loop-number-preserved : goal.loop-number-preserved
loop-number-preserved c =
    let kept = c.loop-number.invariant in
    rw c.in_ok-push.ensures.items (
      length-append c.loop-number.all.items _ ∙ ap (λ n. n + 1) kept.0,
      All-push (IsReady c.args.inlet.now) c.loop-number.all.items _ kept.1 (record {
        put = c.in_ok-lane.ensures.0;
        taken = c.in_ok-lane.ensures.1;
        source = c.in_ok-shared.ensures.0;
        fetched = c.in_ok-shared.ensures.1;
      }),
    )

-- all are made
pub returns : goal.returns
returns c = (omega (arith, c.loop-number.invariant.0, c.loop-number-test.false, c.loop-number.auto._number-end), c.loop-number.invariant.1)
