-- The report of a turn.
use Rattle.std.specs.Prelude.{Option, Some, None, Ok, Result}
use Rattle.st_journal.specs.declared.journal_entry.JournalEntry.{JournalEntry}
use Rattle.st_answers.specs.declared.answer.Answer.{Answer}
use Rattle.st_answers.specs.declared.answer.Answer.TheVariants as answer
use Rattle.st_answers.specs.declared.report.Report.{Report}
use Rattle.st_answers.specs.declared.turned.Turned.TheVariants.{Reported}

-- the report in an answer, where it is that of a turn that was made
abbrev pub report_answered : {S C : Type 0} → Answer S C → Option (Report S)
report_answered (answer.Turn (Ok (Reported report))) = Some report
report_answered _ = None

-- the report in an entry
abbrev pub report_in : {S C : Type 0} → JournalEntry S C → Option (Report S)
report_in entry = report_answered entry.answer
