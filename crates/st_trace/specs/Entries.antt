-- What an entry of a journal tells: which command it is, a moment, a number, and what its turn did.
use Rattle.std.specs.Prelude.{ℕ, max, Option, Some, None, Ok, Err, List, codes}
use Rattle.st_answers.specs.declared.answer.Answer.{Answer}
use Rattle.st_answers.specs.declared.answer.Answer.TheVariants as answer
use Rattle.st_answers.specs.declared.command.Command.{Command}
use Rattle.st_answers.specs.declared.command.Command.TheVariants as command
use Rattle.st_answers.specs.declared.report.Report.{Report}
use Rattle.st_answers.specs.declared.turned.Turned.TheVariants.{Reported, Idle}
use Rattle.st_journal.specs.declared.journal_entry.JournalEntry.{JournalEntry}
use Rattle.st_journal.specs.declared.source.Source.{Source}
use Rattle.st_journal.specs.declared.source.Source.TheVariants as source

module _ {C : Type 0} where
  -- the word of a command
  abbrev pub word_of : Command C → List ℕ
  word_of (command.Post entry content) = codes "post"
  word_of (command.Tick now) = codes "tick"
  word_of (command.Turn now) = codes "turn"
  word_of (command.Reply tag content) = codes "reply"
  word_of (command.Collect tag) = codes "collect"
  word_of (command.Stop reason) = codes "stop"
  word_of command.TakeOut = codes "take"

  -- the latest moment that a machine has seen after a command, by the latest before it: ticks and turns are handed one
  abbrev pub latest_after : ℕ → Command C → ℕ
  latest_after latest (command.Post entry content) = latest
  latest_after latest (command.Tick now) = max latest now
  latest_after latest (command.Turn now) = max latest now
  latest_after latest (command.Reply tag content) = latest
  latest_after latest (command.Collect tag) = latest
  latest_after latest (command.Stop reason) = latest
  latest_after latest command.TakeOut = latest

  -- the moment that stands in the line of a command: the latest after it, for ticks and turns alone
  abbrev pub moment_of : ℕ → Command C → Option ℕ
  moment_of latest (command.Post entry content) = None
  moment_of latest (command.Tick now) = Some latest
  moment_of latest (command.Turn now) = Some latest
  moment_of latest (command.Reply tag content) = None
  moment_of latest (command.Collect tag) = None
  moment_of latest (command.Stop reason) = None
  moment_of latest command.TakeOut = None

-- the port that stands in the line of what came from there
abbrev pub port_of : Source → Option ℕ
port_of source.Caller = None
port_of (source.Port port) = Some port
port_of (source.Message sender number) = None

module _ {S C : Type 0} where
  -- what an answer says that a turn did
  abbrev pub report_as : Answer S C → Option (Report S)
  report_as (answer.Post posted) = None
  report_as (answer.Tick ticked) = None
  report_as (answer.Turn (Ok (Reported report))) = Some report
  report_as (answer.Turn (Ok Idle)) = None
  report_as (answer.Turn (Err refusal)) = None
  report_as (answer.Reply taken) = None
  report_as (answer.Collect collected) = None
  report_as (answer.Stop stopped) = None
  report_as (answer.TakeOut message) = None

  -- the number that an answer tells: of a post that of its event, of a tick how many time-outs expired, of a turn that of the
  -- event that it handled, of a take-out that of the message
  abbrev pub number_as : Answer S C → Option ℕ
  number_as (answer.Post (Ok number)) = Some number
  number_as (answer.Post (Err refused)) = None
  number_as (answer.Tick (Ok expired)) = Some expired
  number_as (answer.Tick (Err refusal)) = None
  number_as (answer.Turn (Ok (Reported report))) = report.event
  number_as (answer.Turn (Ok Idle)) = None
  number_as (answer.Turn (Err refusal)) = None
  number_as (answer.Reply taken) = None
  number_as (answer.Collect collected) = None
  number_as (answer.Stop stopped) = None
  number_as (answer.TakeOut (Some message)) = Some message.number
  number_as (answer.TakeOut None) = None

  -- the number that stands in the line of a command that was answered so
  abbrev pub number_by : Command C → Answer S C → Option ℕ
  number_by (command.Post entry content) answered = number_as answered
  number_by (command.Tick now) answered = number_as answered
  number_by (command.Turn now) answered = number_as answered
  number_by (command.Reply tag content) answered = Some tag.request
  number_by (command.Collect tag) answered = Some tag.request
  number_by (command.Stop reason) answered = Some reason
  number_by command.TakeOut answered = number_as answered

  -- the number that stands in an entry's line
  abbrev pub number_of : JournalEntry S C → Option ℕ
  number_of entry = number_by entry.command entry.answer
