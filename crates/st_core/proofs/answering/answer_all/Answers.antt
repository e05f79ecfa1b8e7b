use Rattle.std.proofs.Common.{refl, sym, ◌∙◌, arith}
use Rattle.std.proofs.lemmas.List.{take_all}
use Rattle.st_actions.specs.Plan.{replies_of}
use Rattle.st_core.proofs.AnsweringLemmas.{none_more, one_taken, one_passed, has_place, all_answered}
use Rattle.st_core.proofs.answering.answer_all.Goals as goal
use Rattle.st_core.proofs.answering.answer_all.Goals.{in-Some+then-answer, in-Some+else-answer, in_default}

pub loop-index-preserved : goal.loop-index-preserved
loop-index-preserved g c =
    let kept = c.loop-index.invariant in
    record {
      answered = elim c.match-take_reply.branch [
        | in-Some+then-answer w ↦ rw (w.requests-is, w.taken-is)
            (one_taken c.args.requests.now (replies_of c.args.actions.now) c.args.taken.now.items c.loop-index.requests w.answer.new.self c.loop-index.taken.items _ _ _
            (replies_of c.loop-index.actions) (replies_of c.take_reply.new.actions) c.take_reply.result w.in-Some.tag w.in-Some.content w.in-Some.is c.take_reply.ensures.taken
            w.answer.ensures.answered (sym w.answer.ensures.was_open ∙ w.if-answer.true) w.push_reserved.ensures.items w.push_reserved.ensures.capacity kept.answered)
        | in-Some+else-answer w ↦ rw (w.requests-is, w.taken-is)
            (one_passed c.args.requests.now (replies_of c.args.actions.now) c.args.taken.now.items c.loop-index.requests w.answer.new.self c.loop-index.taken.items _
            (replies_of c.loop-index.actions) (replies_of c.take_reply.new.actions) c.take_reply.result w.in-Some.tag w.in-Some.content w.in-Some.is c.take_reply.ensures.taken
            w.answer.ensures.answered (sym w.answer.ensures.was_open ∙ w.if-answer.false) kept.answered)
        | in_default w ↦ rw (w.requests-is, w.taken-is)
            (none_more c.args.requests.now (replies_of c.args.actions.now) c.args.taken.now.items c.loop-index.requests c.loop-index.taken.items _
            (replies_of c.loop-index.actions) (replies_of c.take_reply.new.actions) c.take_reply.result w.in_default.is c.take_reply.ensures.taken kept.answered)
      ];
      none_before = c.take_reply.ensures.none_before;
      inserts = c.take_reply.ensures.same_inserts ∙ kept.inserts;
      settings = c.take_reply.ensures.same_settings ∙ kept.settings;
      sends = c.take_reply.ensures.same_sends ∙ kept.sends;
      as_many = c.take_reply.ensures.as_many ∙ kept.as_many;
    }

pub loop-index-init : goal.loop-index-init
loop-index-init g c = record {
  answered = record { all = refl; taken = refl; reserved = c.requires.reserved };
  none_before = refl;
  inserts = refl;
  settings = refl;
  sends = refl;
  as_many = refl;
}

-- there is a place for the tag
pub push_reserved-requires : goal.push_reserved-requires
push_reserved-requires g c =
    let place = has_place _ _ _ c.loop-index.requests c.loop-index.taken.items _ (replies_of c.loop-index.actions) (replies_of c.take_reply.new.actions) c.take_reply.result (c.in-Some.tag, c.in-Some.content)
    c.in-Some.is c.take_reply.ensures.taken c.loop-index.invariant.answered in
    omega (arith, place, c.loop-index.taken.ok.0)

-- all are answered
pub returns : goal.returns
returns g c =
    let kept = c.loop-index.invariant in
    let all = take_all c.loop-index.index c.loop-index.actions (omega (arith, c.loop-index-test.false, c.len-index-end.ensures.length, kept.as_many)) in
    let done = all_answered _ _ _ c.loop-index.requests c.loop-index.taken.items _ (replies_of c.loop-index.actions) (rw all at kept.none_before) kept.answered in
    record {
      answered = done.0;
      taken = done.1;
      same_inserts = kept.inserts;
      same_settings = kept.settings;
      same_sends = kept.sends;
    }
