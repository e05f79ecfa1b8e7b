use Rattle.std.proofs.Common.{◌<◌, length, arith}
use Rattle.st_replay.proofs.ReplayLemmas.{after_at_first, after_there, agreeing_at_first, agreeing_more, agreeing_no_more, all_agree}
use Rattle.st_replay.proofs.replaying.replay.Goals as goal

-- no entry yet
pub loop-agreed-init : goal.loop-agreed-init
loop-agreed-init g c = record { agreed = agreeing_at_first _ _ _ _; left = after_at_first _ _ c.args.entries.now }

-- one entry more agrees
pub loop-agreed-preserved : goal.loop-agreed-preserved
loop-agreed-preserved g c =
    let so_far = c.loop-agreed.invariant in
    let there = c.index-entries-agreed in
    let did = c.in-Ok-true in
    let within : c.loop-agreed.agreed < length c.args.entries.now = c.loop-agreed-test.true in
    record {
      agreed = agreeing_more _ _ _ _ _ _ _ there.result _ within there.is so_far.agreed did.ensures.same did.field-0-test did.ensures.next;
      left = after_there _ _ _ _ _ _ there.result within there.is so_far.left did.ensures.next;
    }

-- the next entry differs
pub returns-in-Ok-false : goal.returns-in-Ok-false
returns-in-Ok-false g c =
    let so_far = c.loop-agreed.invariant in
    let there = c.index-entries-agreed in
    let did = c.in-Ok-false in
    let within : c.loop-agreed.agreed < length c.args.entries.now = c.loop-agreed-test.true in (
      agreeing_no_more _ _ _ _ _ _ there.result _ within there.is so_far.agreed did.ensures.same did.field-0-test,
      within,
      after_there _ _ _ _ _ _ there.result within there.is so_far.left did.ensures.next,
    )

-- none is left
pub returns : goal.returns
returns g c =
    let so_far = c.loop-agreed.invariant in
    all_agree _ _ _ _ _ _ (omega arith) (omega arith) so_far.agreed so_far.left
