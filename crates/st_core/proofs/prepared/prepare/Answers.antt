use Rattle.std.proofs.Common.{ap, sym, refl, ◌∙◌, inr, false, length, arith}
use Rattle.std.proofs.lemmas.Bool.{leb-true}
use Rattle.st_actions.specs.Plan.{inserts_of}
use Rattle.st_core.specs.Transition.{decisions_of}
use Rattle.st_events.proofs.Given.{given}
use Rattle.st_core.proofs.TransitionLemmas.{numbers-numbered, enough_for_inserts, fewer_inserts, first_false, second_false}
use Rattle.st_core.proofs.PreparedLemmas.{keeps_all}
use Rattle.st_core.proofs.prepared.prepare.Goals as goal
use Rattle.st_core.proofs.prepared.prepare.Goals.{then-not-has_numbers-via-then-not-has_numbers, then-not-has_numbers-via-else-not-has_numbers+then-not-has_message_numbers}

-- all is ready
pub returns-clause-prepared : goal.returns-clause-prepared
returns-clause-prepared g c =
    let counted = c.in_ok-counts.ensures.counted in
    let inserts = ap length c.count_last.ensures.same_inserts in
    let sends = ap length c.count_last.ensures.same_sends in
    record {
      counted = counted;
      postpone = sym (counted.postpone false) ∙ c.count_last.ensures.same_postpone false;
      last = c.in_ok-counts.ensures.last;
      numbers = rw (c.count_last.ensures.same_inserts, c.in_ok-counts.ensures.last) at (sym c.has_numbers.ensures ∙ c.if-not-has_numbers.false);
      message_numbers = rw (counted.sends, c.count_last.ensures.same_sends) at (sym c.has_message_numbers.ensures ∙ c.if-not-has_message_numbers.false);
      replied = c.in_ok-reserve_exact.ensures.items ∙ c.requires.empty.replied;
      replies = let replies = ap length c.count_last.ensures.same_replies in omega (arith, replies, counted.replies, c.in_ok-reserve_exact.ensures.ok);
      inserted =
          rw (c.in_ok-note_numbers.ensures, c.next_number-next.ensures.next_number, counted.inserts, c.count_last.ensures.same_inserts)
          (sym (numbers-numbered c.args.agenda.now.schedule.next_number (inserts_of c.args.actions.now)));
      set = c.in_ok-note_decisions.ensures ∙ ap decisions_of c.in_ok-counts.ensures.last;
      sent = rw (c.in_ok-prepare_sends.ensures.sent, counted.sends, c.count_last.ensures.same_sends) refl;
      staged = omega (arith, inserts, counted.inserts, c.in_ok-reserve_for.ensures.staged);
      reserved = let settings = ap length c.in_ok-counts.ensures.last in omega (arith, settings, counted.settings, c.in_ok-reserve_for.ensures.reserved);
      places = omega (arith, sends, counted.sends, c.in_ok-prepare_sends.ensures.places);
    }

-- too few numbers are left, for events and time-outs or for messages
pub returns-then-not-has_numbers-clause-prepared : goal.returns-then-not-has_numbers-clause-prepared
returns-then-not-has_numbers-clause-prepared g c =
    inr (
      refl,
      elim c.then-not-has_numbers.branch [
        | then-not-has_numbers-via-then-not-has_numbers w ↦ first_false _ _ (rw (c.count_last.ensures.same_inserts, c.in_ok-counts.ensures.last) at (sym c.has_numbers.ensures ∙ w.if-not-has_numbers.true))
        | then-not-has_numbers-via-else-not-has_numbers+then-not-has_message_numbers w ↦ second_false _ _ (rw (c.in_ok-counts.ensures.counted.sends, c.count_last.ensures.same_sends) at (sym w.has_message_numbers.ensures ∙ w.if-not-has_message_numbers.true))
      ],
    )

-- there are numbers enough
pub note_numbers-requires : goal.note_numbers-requires
note_numbers-requires g c =
    let enough = enough_for_inserts _ _ _ (sym c.has_numbers.ensures ∙ c.if-not-has_numbers.false) in
    record {
      within = omega (arith, enough, c.next_number-next.ensures.next_number, c.in_ok-counts.ensures.counted.inserts);
      empty = c.requires.empty.inserted;
    }

pub reserve_for-requires : goal.reserve_for-requires
reserve_for-requires g c =
    let few = fewer_inserts _ _ _ (sym c.has_numbers.ensures ∙ c.if-not-has_numbers.false) in
    omega (arith, few, c.in_ok-counts.ensures.counted.inserts)

pub prepare_sends-requires : goal.prepare_sends-requires
prepare_sends-requires g c = record {
  numbers = leb-true _ _ (sym c.has_message_numbers.ensures ∙ c.if-not-has_message_numbers.false);
  empty = c.requires.empty.sent;
}

pub note_decisions-requires : goal.note_decisions-requires
note_decisions-requires g c = (search given, (c.in_ok-counts.ensures.counted.settings, c.requires.empty.set))

pub count_last-requires : goal.count_last-requires
count_last-requires g c = search given

pub has_numbers-requires : goal.has_numbers-requires
has_numbers-requires g c = (search given, c.in_ok-counts.ensures.counted)

-- nothing has changed, and the same is asked for
pub returns-in_err-counts-clause-same : goal.returns-in_err-counts-clause-same
returns-in_err-counts-clause-same g c = keeps_all c.count_last.ensures.same_replies c.count_last.ensures.same_inserts c.count_last.ensures.same_sends refl refl refl

pub returns-then-not-has_numbers-clause-same : goal.returns-then-not-has_numbers-clause-same
returns-then-not-has_numbers-clause-same g c = keeps_all c.count_last.ensures.same_replies c.count_last.ensures.same_inserts c.count_last.ensures.same_sends refl refl refl

pub returns-in_err-reserve_exact-clause-same : goal.returns-in_err-reserve_exact-clause-same
returns-in_err-reserve_exact-clause-same g c = keeps_all c.count_last.ensures.same_replies c.count_last.ensures.same_inserts c.count_last.ensures.same_sends refl refl refl

pub returns-in_err-note_numbers-clause-same : goal.returns-in_err-note_numbers-clause-same
returns-in_err-note_numbers-clause-same g c = keeps_all c.count_last.ensures.same_replies c.count_last.ensures.same_inserts c.count_last.ensures.same_sends refl refl refl

pub returns-in_err-note_decisions-clause-same : goal.returns-in_err-note_decisions-clause-same
returns-in_err-note_decisions-clause-same g c = keeps_all c.count_last.ensures.same_replies c.count_last.ensures.same_inserts c.count_last.ensures.same_sends refl refl refl

pub returns-in_err-reserve_for-clause-same : goal.returns-in_err-reserve_for-clause-same
returns-in_err-reserve_for-clause-same g c = keeps_all c.count_last.ensures.same_replies c.count_last.ensures.same_inserts c.count_last.ensures.same_sends refl refl c.reserve_for.ensures.unchanged

pub returns-in_err-prepare_sends-clause-same : goal.returns-in_err-prepare_sends-clause-same
returns-in_err-prepare_sends-clause-same g c = keeps_all c.count_last.ensures.same_replies c.count_last.ensures.same_inserts c.count_last.ensures.same_sends refl c.prepare_sends.ensures.same_outbox c.reserve_for.ensures.unchanged

pub returns-clause-same : goal.returns-clause-same
returns-clause-same g c = keeps_all c.count_last.ensures.same_replies c.count_last.ensures.same_inserts c.count_last.ensures.same_sends refl c.prepare_sends.ensures.same_outbox c.reserve_for.ensures.unchanged
