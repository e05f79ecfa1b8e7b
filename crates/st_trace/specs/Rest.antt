-- What stands at the end of an entry's line.
use Rattle.std.specs.Prelude.{ℕ, true, false, ◌==◌, if◌then◌else◌, Option, Some, None, Ok, Err, List, [], ◌∷◌, ◌++◌, codes, decimal, length}
use Rattle.st_events.specs.declared.kind.Kind.{Kind}
use Rattle.st_events.specs.declared.kind.Kind.TheVariants as kind
use Rattle.st_events.specs.declared.machine_id.MachineId.{MachineId}
use Rattle.st_events.specs.declared.timer.Timer.{Timer}
use Rattle.st_events.specs.declared.timer.Timer.TheVariants as timer
use Rattle.st_requests.specs.declared.collected.Collected.{Collected}
use Rattle.st_requests.specs.declared.collected.Collected.TheVariants as collected
use Rattle.st_answers.specs.declared.answer.Answer.{Answer}
use Rattle.st_answers.specs.declared.answer.Answer.TheVariants as answer
use Rattle.st_answers.specs.declared.call.Call.{Call}
use Rattle.st_answers.specs.declared.call.Call.TheVariants.{Handle, Enter, Terminate}
use Rattle.st_answers.specs.declared.command.Command.{Command}
use Rattle.st_answers.specs.declared.command.Command.TheVariants as command
use Rattle.st_answers.specs.declared.done.Done.{Done}
use Rattle.st_answers.specs.declared.done.Done.TheVariants.{Started, Finished, PutOff, Ended}
use Rattle.st_answers.specs.declared.entry.Entry.{Entry}
use Rattle.st_answers.specs.declared.entry.Entry.TheVariants as entry
use Rattle.st_answers.specs.declared.report.Report.{Report}
use Rattle.st_journal.specs.declared.journal_entry.JournalEntry.{JournalEntry}
use Rattle.st_journal.specs.declared.source.Source.{Source}
use Rattle.st_journal.specs.declared.source.Source.TheVariants as source
use Rattle.st_trace.specs.Columns.{hyphen}
use Rattle.st_trace.specs.Entries.{report_as}

-- how an event was posted
abbrev pub posted_text : Entry → List ℕ
posted_text entry.Call = codes "call"
posted_text entry.Cast = codes "cast"
posted_text entry.Info = codes "info"

-- which time-out an event is
abbrev pub timer_text : Timer → List ℕ
timer_text timer.Event = codes "timeout"
timer_text timer.State = codes "state_timeout"
timer_text (timer.Named name) = codes "timeout:" ++ decimal name

-- what kind of event it is
abbrev pub kind_text : Kind → List ℕ
kind_text (kind.Call tag) = codes "call"
kind_text kind.Cast = codes "cast"
kind_text kind.Info = codes "info"
kind_text (kind.Timeout timer) = timer_text timer
kind_text kind.Internal = codes "internal"

-- how a turn ended; that of a start is none of a turn
abbrev pub done_text : Done → List ℕ
done_text Started = hyphen
done_text Finished = codes "finished"
done_text PutOff = codes "put_off"
done_text (Ended reason word) = codes "ended:" ++ decimal reason

-- whether a reply was taken
abbrev pub taken_text : {S C : Type 0} → Answer S C → List ℕ
taken_text (answer.Post posted) = hyphen
taken_text (answer.Tick ticked) = hyphen
taken_text (answer.Turn turned) = hyphen
taken_text (answer.Reply true) = codes "yes"
taken_text (answer.Reply false) = codes "no"
taken_text (answer.Collect collected) = hyphen
taken_text (answer.Stop stopped) = hyphen
taken_text (answer.TakeOut message) = hyphen

-- what was handed out
abbrev pub collected_text : {C : Type 0} → Collected C → List ℕ
collected_text collected.Waiting = hyphen
collected_text (collected.Reply content) = codes "reply"
collected_text (collected.Stopped reason) = codes "stopped:" ++ decimal reason
collected_text collected.Gone = hyphen

-- what an answer says that was handed out
abbrev pub handed_text : {S C : Type 0} → Answer S C → List ℕ
handed_text (answer.Post posted) = hyphen
handed_text (answer.Tick ticked) = hyphen
handed_text (answer.Turn turned) = hyphen
handed_text (answer.Reply taken) = hyphen
handed_text (answer.Collect collected) = collected_text collected
handed_text (answer.Stop stopped) = hyphen
handed_text (answer.TakeOut message) = hyphen

-- a machine's last word
abbrev pub stopped_text : {S C : Type 0} → Answer S C → List ℕ
stopped_text (answer.Post posted) = hyphen
stopped_text (answer.Tick ticked) = hyphen
stopped_text (answer.Turn turned) = hyphen
stopped_text (answer.Reply taken) = hyphen
stopped_text (answer.Collect collected) = hyphen
stopped_text (answer.Stop (Ok word)) = codes "word:" ++ decimal word
stopped_text (answer.Stop (Err refusal)) = hyphen
stopped_text (answer.TakeOut message) = hyphen

-- which machine it is
abbrev pub id_text : MachineId → List ℕ
id_text id = decimal id.slot ++ (codes " " ++ decimal id.serial)

-- to whom the message goes that was taken out
abbrev pub out_text : {S C : Type 0} → Answer S C → List ℕ
out_text (answer.TakeOut (Some message)) = codes "to " ++ id_text message.target
out_text _ = hyphen

-- whose message it was that was posted, and which of its sender's: what no message was has nothing here
abbrev pub source_text : Source → List ℕ
source_text source.Caller = []
source_text (source.Port port) = []
source_text (source.Message sender number) =
    codes " from " ++ (decimal sender.slot ++ (codes " " ++ (decimal sender.serial ++ (codes " " ++ decimal number))))

-- how an event was posted, and whose message it was
abbrev pub delivered_text : Entry → Source → List ℕ
delivered_text how source = posted_text how ++ source_text source

-- how many messages a turn sent, if it sent some
abbrev pub sent_text : List ℕ → List ℕ
sent_text numbers = if length numbers == 0 then [] else codes " sent " ++ decimal (length numbers)

module _ {S : Type 0} where
  -- the kind of the event that a turn handled: its first callback was handed it
  abbrev pub handled_text : List (Call S) → List ℕ
  handled_text [] = hyphen
  handled_text (Handle number kind state ∷ calls) = kind_text kind
  handled_text (Enter left entered ∷ calls) = hyphen
  handled_text (Terminate reason state word ∷ calls) = hyphen

  -- how many requests a turn answered, how many events it inserted, and how many timers it set
  abbrev pub counts_text : Report S → List ℕ
  counts_text report =
      decimal (length report.replied) ++ (codes " " ++ (decimal (length report.inserted) ++ (codes " " ++ decimal (length report.set))))

  -- its counts, and how many messages it sent
  abbrev pub numbers_text : Report S → List ℕ
  numbers_text report = counts_text report ++ sent_text report.sent

  module _ (names : S → List ℕ) where
    -- what a turn did: the kind of its event, the states before and after it, how it ended, its counts, and how many
    -- messages it sent
    abbrev pub report_text : Report S → List ℕ
    report_text report =
        handled_text report.calls ++ (codes " " ++ (names report.before ++ (codes " " ++ (names report.after ++ (codes " " ++ (done_text report.done ++ (codes " " ++ numbers_text report)))))))

    -- what a turn did, if it did something
    abbrev pub turned_text : Option (Report S) → List ℕ
    turned_text (Some report) = report_text report
    turned_text None = hyphen

    module _ {C : Type 0} where
      -- the end of the line of a command that came from there and was answered so
      abbrev pub rest_by : Source → Command C → Answer S C → List ℕ
      rest_by source (command.Post how content) answered = delivered_text how source
      rest_by source (command.Tick now) answered = hyphen
      rest_by source (command.Turn now) answered = turned_text (report_as answered)
      rest_by source (command.Reply tag content) answered = taken_text answered
      rest_by source (command.Collect tag) answered = handed_text answered
      rest_by source (command.Stop reason) answered = stopped_text answered
      rest_by source command.TakeOut answered = out_text answered

      -- the end of an entry's line
      abbrev pub rest_of : JournalEntry S C → List ℕ
      rest_of entry = rest_by entry.source entry.command entry.answer
