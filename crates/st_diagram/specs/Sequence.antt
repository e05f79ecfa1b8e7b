-- The sequence diagram of a journal: the machine is a participant, and each entry has its lines.
use Rattle.std.specs.Prelude.{ℕ, true, false, Option, Some, None, Ok, Err, List, [], ◌++◌, codes, decimal, flat_map}
use Rattle.st_events.specs.declared.machine_id.MachineId.{MachineId}
use Rattle.st_events.specs.declared.tag.Tag.{Tag}
use Rattle.st_requests.specs.declared.collected.Collected.TheVariants as collected
use Rattle.st_answers.specs.declared.answer.Answer.{Answer}
use Rattle.st_answers.specs.declared.answer.Answer.TheVariants as answer
use Rattle.st_answers.specs.declared.command.Command.{Command}
use Rattle.st_answers.specs.declared.command.Command.TheVariants as command
use Rattle.st_answers.specs.declared.done.Done.{Done}
use Rattle.st_answers.specs.declared.done.Done.TheVariants.{Started, Finished, PutOff, Ended}
use Rattle.st_answers.specs.declared.entry.Entry.{Entry}
use Rattle.st_answers.specs.declared.entry.Entry.TheVariants as entry
use Rattle.st_answers.specs.declared.report.Report.{Report}
use Rattle.st_answers.specs.declared.turned.Turned.TheVariants.{Reported}
use Rattle.st_journal.specs.declared.journal_entry.JournalEntry.{JournalEntry}
use Rattle.st_journal.specs.declared.source.Source.{Source}
use Rattle.st_journal.specs.declared.source.Source.TheVariants as source

-- the first words: the machine is the participant m, shown by this label
abbrev pub head_with : List ℕ → List ℕ
head_with label = codes "sequenceDiagram\n    participant m as " ++ (label ++ codes "\n")

-- another machine, as a participant
abbrev pub machine_name : MachineId → List ℕ
machine_name id = codes "machine" ++ (decimal id.slot ++ (codes "_" ++ decimal id.serial))

-- whoever posted an event, as a participant
abbrev pub source_name : Source → List ℕ
source_name source.Caller = codes "caller"
source_name (source.Port port) = codes "port" ++ decimal port
source_name (source.Message sender number) = machine_name sender

-- how an event was posted
abbrev pub entry_word : Entry → List ℕ
entry_word entry.Call = codes "call"
entry_word entry.Cast = codes "cast"
entry_word entry.Info = codes "info"

-- the note of a turn that handled the event of this number, by how it ended; there is none where there was no event
abbrev pub note_of : Option ℕ → List ℕ → List ℕ
note_of (Some number) done = codes "    Note over m: " ++ (decimal number ++ (codes " " ++ (done ++ codes "\n")))
note_of None done = []

-- the line of a request that a turn answered
abbrev pub reply_line : Tag → List ℕ
reply_line tag = codes "    m-->>caller: reply to " ++ (decimal tag.request ++ codes "\n")

module _ {S : Type 0} (states : S → List ℕ) where
  -- how a turn ended, by the states before and after it
  abbrev pub done_text : Done → S → S → List ℕ
  done_text Started before after = codes "started in " ++ states before
  done_text Finished before after = codes "handled in " ++ (states before ++ (codes ", then " ++ states after))
  done_text PutOff before after = codes "postponed in " ++ states before
  done_text (Ended reason word) before after =
      codes "ended with " ++ (decimal reason ++ (codes " in " ++ (states before ++ (codes ", word " ++ decimal word))))

  -- the lines of what a turn did: its note, and a line for each request that it answered
  abbrev pub report_lines : Report S → List ℕ
  report_lines report =
      note_of report.event (done_text report.done report.before report.after) ++ flat_map reply_line report.replied

  -- the lines of a turn that was answered so
  abbrev pub turn_lines : {C : Type 0} → Answer S C → List ℕ
  turn_lines (answer.Turn (Ok (Reported report))) = report_lines report
  turn_lines _ = []

-- the line of a tick: the moment, and how many time-outs expired
abbrev pub tick_line : {S C : Type 0} → ℕ → Answer S C → List ℕ
tick_line now (answer.Tick (Ok expired)) =
    codes "    Note over m: at " ++ (decimal now ++ (codes ", " ++ (decimal expired ++ codes " expired\n")))
tick_line now _ = []

-- the line of a stop: the reason, and the machine's last word
abbrev pub stop_line : {S C : Type 0} → ℕ → Answer S C → List ℕ
stop_line reason (answer.Stop (Ok word)) =
    codes "    caller-xm: stop " ++ (decimal reason ++ (codes ", word " ++ (decimal word ++ codes "\n")))
stop_line reason _ = []

module _ {C : Type 0} (contents : C → List ℕ) where
  -- the line of a post from there: the event's number, how it was posted, and its content; one that was refused has no
  -- number, and its arrow a cross
  abbrev pub post_line : {S : Type 0} → Source → Entry → C → Answer S C → List ℕ
  post_line from how content (answer.Post (Ok number)) =
      codes "    " ++ (source_name from ++ (codes "->>m: " ++ (decimal number ++ (codes " " ++ (entry_word how ++ (codes " " ++ (contents content ++ codes "\n")))))))
  post_line from how content (answer.Post (Err refused)) =
      codes "    " ++ (source_name from ++ (codes "-xm: " ++ (entry_word how ++ (codes " " ++ (contents content ++ codes "\n")))))
  post_line from how content _ = []

  -- the line of a reply from outside; the arrow of one that was not taken has a cross
  abbrev pub told_line : {S : Type 0} → Tag → C → Answer S C → List ℕ
  told_line tag content (answer.Reply true) =
      codes "    caller->>m: reply to " ++ (decimal tag.request ++ (codes " " ++ (contents content ++ codes "\n")))
  told_line tag content (answer.Reply false) =
      codes "    caller-xm: reply to " ++ (decimal tag.request ++ (codes " " ++ (contents content ++ codes "\n")))
  told_line tag content _ = []

  -- the line of a collect: the reply that was handed out, or the reason for which none comes; it has none where nothing was
  -- handed out
  abbrev pub collect_line : {S : Type 0} → Tag → Answer S C → List ℕ
  collect_line tag (answer.Collect (collected.Reply content)) =
      codes "    m->>caller: reply to " ++ (decimal tag.request ++ (codes " " ++ (contents content ++ codes "\n")))
  collect_line tag (answer.Collect (collected.Stopped reason)) =
      codes "    m-xcaller: no reply to " ++ (decimal tag.request ++ (codes ", ended with " ++ (decimal reason ++ codes "\n")))
  collect_line tag _ = []

  -- the line of a take-out: to whom the message goes, and its content
  abbrev pub out_line : {S : Type 0} → Answer S C → List ℕ
  out_line (answer.TakeOut (Some message)) =
      codes "    m->>" ++ (machine_name message.target ++ (codes ": " ++ (contents message.content ++ codes "\n")))
  out_line _ = []

module _ {S C : Type 0} (states : S → List ℕ) (contents : C → List ℕ) where
  -- the lines of a command that came from there and was answered so
  abbrev pub lines_by : Source → Command C → Answer S C → List ℕ
  lines_by from (command.Post how content) answered = post_line contents from how content answered
  lines_by from (command.Tick now) answered = tick_line now answered
  lines_by from (command.Turn now) answered = turn_lines states answered
  lines_by from (command.Reply tag content) answered = told_line contents tag content answered
  lines_by from (command.Collect tag) answered = collect_line contents tag answered
  lines_by from (command.Stop reason) answered = stop_line reason answered
  lines_by from command.TakeOut answered = out_line contents answered

  -- the lines of an entry
  abbrev pub entry_lines : JournalEntry S C → List ℕ
  entry_lines entry = lines_by entry.source entry.command entry.answer

  -- the sequence diagram of entries of a journal, with this label, and with these names of states and contents
  abbrev pub sequence_of : List ℕ → List (JournalEntry S C) → List ℕ
  sequence_of label entries = head_with label ++ flat_map entry_lines entries
