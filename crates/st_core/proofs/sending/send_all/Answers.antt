use Rattle.std.proofs.Common.{refl, ◌∙◌, arith}
use Rattle.std.proofs.lemmas.List.{take_all}
use Rattle.st_actions.specs.Plan.{sends_of}
use Rattle.st_core.proofs.SendingLemmas.{none_more, has_place, has_number, one_sent, all_sent}
use Rattle.st_core.proofs.sending.send_all.Goals as goal
use Rattle.st_core.proofs.sending.send_all.Goals.{in-Some, in_default}

pub loop-index-init : goal.loop-index-init
loop-index-init g c = record {
  sent = record {
    all = refl;
    reserved = c.requires.reserved;
    numbers = c.requires.numbers;
  };
  none_before = refl;
  as_many = refl;
}

-- there is a place for it, and a number
pub send-requires : goal.send-requires
send-requires g c =
    let sends = sends_of c.args.actions.now in
    let left = sends_of c.loop-index.actions in
    let rest = sends_of c.take_send.new.actions in
    let so_far = c.loop-index.invariant.sent in
    record {
      reserved = has_place c.args.sender c.args.outgoing.now.outbox sends c.loop-index.outgoing left rest c.take_send.result c.take_send.ensures.taken so_far
          c.in-Some.target c.in-Some.content c.in-Some.is;
      numbers = has_number c.args.sender c.args.outgoing.now.outbox sends c.loop-index.outgoing left rest c.take_send.result c.take_send.ensures.taken so_far
          c.in-Some.target c.in-Some.content c.in-Some.is;
    }

pub loop-index-preserved : goal.loop-index-preserved
loop-index-preserved g c =
    let kept = c.loop-index.invariant in
    let sends = sends_of c.args.actions.now in
    let left = sends_of c.loop-index.actions in
    let rest = sends_of c.take_send.new.actions in
    record {
      sent = elim c.match-take_send.branch [
        | in-Some w ↦ rw w.outgoing-is
            (one_sent c.args.sender c.args.outgoing.now.outbox sends c.loop-index.outgoing left rest c.take_send.result c.take_send.ensures.taken kept.sent
            w.in-Some.target w.in-Some.content w.in-Some.is w.send.new.self w.send.ensures.sent w.send.ensures.places)
        | in_default w ↦ rw w.outgoing-is
            (none_more c.args.sender c.args.outgoing.now.outbox sends c.loop-index.outgoing left rest c.take_send.result c.take_send.ensures.taken kept.sent w.in_default.is)
      ];
      none_before = c.take_send.ensures.none_before;
      as_many = c.take_send.ensures.as_many ∙ kept.as_many;
    }

-- all are sent
pub returns : goal.returns
returns g c =
    let kept = c.loop-index.invariant in
    let all = take_all c.loop-index.index c.loop-index.actions (omega (arith, c.loop-index-test.false, c.len-index-end.ensures.length, kept.as_many)) in
    all_sent c.args.sender c.args.outgoing.now.outbox (sends_of c.args.actions.now) c.loop-index.outgoing (sends_of c.loop-index.actions)
    (rw all at kept.none_before) kept.sent
