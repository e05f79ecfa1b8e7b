use Rattle.std.proofs.Common.{rules, inl, length, ap, ◌∙◌}
use Rattle.std.proofs.lemmas.Iterator.{YieldsList-from_slice}
use Rattle.std.proofs.lemmas.Iterator.Consumers.{YieldsList-at, YieldsList-from_filter, count_from_yields_List}
use Rattle.std.proofs.lemmas.List.Sums.{length-filter}
use Rattle.st_journal.specs.declared.journal_entry.JournalEntry.{JournalEntry}
use Rattle.st_trace.specs.Totals.{is_turn}
use Rattle.st_trace.proofs.TraceLemmas.{in_word}
use Rattle.st_trace.proofs.counting.turns.Goals as goal

-- each entry is looked at once
pub returns : goal.returns
returns g c =
    count_from_yields_List _ c.count.result c.count.ensures.ran
    (YieldsList-from_filter _ (λ (entry : JournalEntry _ _). is_turn entry.command) (YieldsList-at c.filter.ensures.source (YieldsList-from_slice c.args.entries.now c.iter.ensures.rest)) c.filter.ensures.closure (λ x b q k. search rules fits 20000))
    ∙ length-filter (λ (entry : JournalEntry _ _). is_turn entry.command) c.args.entries.now

-- the closure may be called at each, and they are no more than a word can say
pub count-requires-clause-can : goal.count-requires-clause-can
count-requires-clause-can g c = (tt, tt, record { at = λ entries rest closure entry left yields folds steps. λ one shows. tt })

pub count-requires-clause-finite : goal.count-requires-clause-finite
count-requires-clause-finite g c = tt

pub count-requires-clause-fits : goal.count-requires-clause-fits
count-requires-clause-fits g c = inl (in_word _ _ (ap (λ iter. length iter.rest.now) c.filter.ensures.source) c.iter.ensures.bound)
