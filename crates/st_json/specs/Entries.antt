-- The JSON of an entry: where it came from, the command, and the answer.
use Rattle.std.specs.Prelude.{ℕ, List, codes}
use Rattle.serde_json.specs.Data.{Data, boolean, string, object, member, no_members}
use Rattle.st_answers.specs.declared.answer.Answer.{Answer}
use Rattle.st_answers.specs.declared.answer.Answer.TheVariants as answer
use Rattle.st_answers.specs.declared.command.Command.{Command}
use Rattle.st_answers.specs.declared.command.Command.TheVariants as command
use Rattle.st_answers.specs.declared.entry.Entry.{Entry}
use Rattle.st_answers.specs.declared.entry.Entry.TheVariants as entry
use Rattle.st_journal.specs.declared.journal_entry.JournalEntry.{JournalEntry}
use Rattle.st_journal.specs.declared.source.Source.{Source}
use Rattle.st_journal.specs.declared.source.Source.TheVariants as source
use Rattle.st_json.specs.Forms.{number_data, named_data, pair_data, option_data, result_data}
use Rattle.st_json.specs.Events.{id_data, tag_data, refusal_data, refused_data, message_data, collected_data}
use Rattle.st_json.specs.Reports.{turned_data}

-- how an event was posted
abbrev pub posted_data : Entry → Data
posted_data entry.Call = string (codes "Call")
posted_data entry.Cast = string (codes "Cast")
posted_data entry.Info = string (codes "Info")

-- where an entry came from
abbrev pub source_data : Source → Data
source_data source.Caller = string (codes "Caller")
source_data (source.Port port) = named_data (codes "Port") (number_data port)
source_data (source.Message sender number) = named_data (codes "Message") (pair_data (id_data sender) (number_data number))

module _ {C : Type 0} (content_data : C → Data) where
  -- a command
  abbrev pub command_data : Command C → Data
  command_data (command.Post how content) = named_data (codes "Post") (pair_data (posted_data how) (content_data content))
  command_data (command.Tick now) = named_data (codes "Tick") (number_data now)
  command_data (command.Turn now) = named_data (codes "Turn") (number_data now)
  command_data (command.Reply tag content) = named_data (codes "Reply") (pair_data (tag_data tag) (content_data content))
  command_data (command.Collect tag) = named_data (codes "Collect") (tag_data tag)
  command_data (command.Stop reason) = named_data (codes "Stop") (number_data reason)
  command_data command.TakeOut = string (codes "TakeOut")

module _ {S C : Type 0} (names : S → List ℕ) (content_data : C → Data) where
  -- what a command was answered
  abbrev pub answer_data : Answer S C → Data
  answer_data (answer.Post posted) = named_data (codes "Post") (result_data number_data (refused_data content_data) posted)
  answer_data (answer.Tick ticked) = named_data (codes "Tick") (result_data number_data refusal_data ticked)
  answer_data (answer.Turn turned) = named_data (codes "Turn") (result_data (turned_data names) refusal_data turned)
  answer_data (answer.Reply taken) = named_data (codes "Reply") (boolean taken)
  answer_data (answer.Collect collected) = named_data (codes "Collect") (collected_data content_data collected)
  answer_data (answer.Stop stopped) = named_data (codes "Stop") (result_data number_data refusal_data stopped)
  answer_data (answer.TakeOut message) = named_data (codes "TakeOut") (option_data (message_data content_data) message)

  -- an entry
  abbrev pub entry_data : JournalEntry S C → Data
  entry_data entry =
      object (member (codes "answer") (answer_data entry.answer)
      (member (codes "command") (command_data content_data entry.command)
      (member (codes "number") (number_data entry.number)
      (member (codes "source") (source_data entry.source) no_members))))
