use Rattle.std.proofs.Common.{[], ◌∷◌, arith, sym, ap, ◌∙◌, append-nil}
use Rattle.std.proofs.lemmas.List.{take_all}
use Rattle.std.specs.Option.{option_to_list}
use Rattle.st_journal.specs.Journal.{numbers_of, posts_of}
use Rattle.st_cell.proofs.JournalLemmas.{numbers_next}
use Rattle.st_cell.proofs.reading.numbers_in.Goals as goal
use Rattle.st_cell.proofs.reading.numbers_in.Goals.{in-Some+in_ok-push, in_default}

-- one entry more
pub loop-entry-preserved : goal.loop-entry-preserved
loop-entry-preserved g c = record {
  numbers = elim c.match-posted_by.branch [
    | in-Some+in_ok-push w ↦ rw w.numbers-is (rw w.in_ok-push.was at w.push.ensures.items ∙ numbers_next c.args.port c.args.entries.now c.loop-entry.entry-index c.entry-item.result c.loop-entry.numbers.items (w.in-Some.number ∷ [])
        c.loop-entry-test.true c.entry-item.is c.loop-entry.invariant.numbers (sym (ap option_to_list w.in-Some.is) ∙ c.posted_by.ensures))
    | in_default w ↦ rw w.numbers-is (sym (append-nil c.loop-entry.numbers.items) ∙ numbers_next c.args.port c.args.entries.now c.loop-entry.entry-index c.entry-item.result c.loop-entry.numbers.items []
        c.loop-entry-test.true c.entry-item.is c.loop-entry.invariant.numbers (sym (ap option_to_list w.in_default.is) ∙ c.posted_by.ensures))
  ];
}

-- all of them
pub returns : goal.returns
returns g c = rw c.from.ensures (c.loop-entry.invariant.numbers ∙ ap (λ entries. numbers_of (posts_of c.args.port entries)) (take_all c.loop-entry.entry-index c.args.entries.now (omega arith)))
