-- Lines computed on examples, byte by byte.
use Rattle.std.proofs.Common.{◌≡◌, ℕ, Bool, true, false, Some, None, Ok, Err, List, [], ◌∷◌, ◌++◌, codes, refl}
use Rattle.std.specs.Fmt.{digits}
use Rattle.serde_json.specs.Written.{compact_text}
use Rattle.serde_json.proofs.OnLiterals.{serde_json_on_literals}
use Rattle.st_events.specs.declared.decision.Decision.TheVariants as decision
use Rattle.st_events.specs.declared.kind.Kind.TheVariants as kind
use Rattle.st_events.specs.declared.machine_id.MachineId.{MachineId}
use Rattle.st_events.specs.declared.refusal.Refusal.TheVariants.{Stopped}
use Rattle.st_events.specs.declared.tag.Tag.{Tag}
use Rattle.st_events.specs.declared.time.Time.TheVariants.{After}
use Rattle.st_events.specs.declared.timer.Timer.TheVariants as timer
use Rattle.st_answers.specs.declared.answer.Answer.{Answer}
use Rattle.st_answers.specs.declared.answer.Answer.TheVariants as answer
use Rattle.st_answers.specs.declared.call.Call.TheVariants.{Handle, Enter}
use Rattle.st_answers.specs.declared.command.Command.{Command}
use Rattle.st_answers.specs.declared.command.Command.TheVariants as command
use Rattle.st_answers.specs.declared.done.Done.TheVariants.{Finished}
use Rattle.st_answers.specs.declared.entry.Entry.TheVariants as entry
use Rattle.st_answers.specs.declared.turned.Turned.TheVariants.{Reported}
use Rattle.st_journal.specs.declared.journal_entry.JournalEntry.{JournalEntry}
use Rattle.st_journal.specs.declared.source.Source.{Source}
use Rattle.st_journal.specs.declared.source.Source.TheVariants as source
use Rattle.st_json.specs.Forms.{number_data}
use Rattle.st_json.specs.Entries.{entry_data}

-- a state is whether a door is open
abbrev names : Bool → List ℕ
names true = codes "open"
names false = codes "locked"

-- the text of an entry; a content is a number
abbrev text_of : JournalEntry Bool ℕ → List ℕ
text_of entry = compact_text (entry_data names number_data entry)

abbrev tells : ℕ → Source → Command ℕ → Answer Bool ℕ → JournalEntry Bool ℕ
tells place from told answered = record { number = place; source = from; command = told; answer = answered }

abbrev id : MachineId
id = record { slot = 0; serial = 1 }

abbrev tag : Tag
tag = record { machine = id; request = 3 }

-- ---- an event that a port posts, and one that is refused
posted_is : text_of (tells 1 (source.Port 2) (command.Post entry.Cast 7) (answer.Post (Ok 1)))
    ≡ codes "{\"answer\":{\"Post\":{\"Ok\":1}},\"command\":{\"Post\":[\"Cast\",7]},\"number\":1,\"source\":{\"Port\":2}}"
unfolding serde_json_on_literals digits
posted_is = refl

refused_is : text_of (tells 2 (source.Message id 5) (command.Post entry.Info 7) (answer.Post (Err (record { refusal = Stopped 9; value = 7 }))))
    ≡ codes "{\"answer\":{\"Post\":{\"Err\":{\"refusal\":{\"Stopped\":9},\"value\":7}}},\"command\":{\"Post\":[\"Info\",7]}"
    ++ codes ",\"number\":2,\"source\":{\"Message\":[{\"serial\":1,\"slot\":0},5]}}"
unfolding serde_json_on_literals digits
refused_is = refl

-- ---- a call of a locked door opens it
opened_is : text_of (tells 6 source.Caller (command.Turn 20) (answer.Turn (Ok (Reported (record {
  event = Some 3;
  done = Finished;
  calls = Handle 3 (kind.Call tag) false ∷ Enter false true ∷ [];
  before = false;
  after = true;
  replied = tag ∷ [];
  inserted = 4 ∷ 5 ∷ [];
  set = (timer.State, decision.Set (After 10000)) ∷ (timer.Named 7, decision.Cancel) ∷ [];
  sent = [];
})))))
    ≡ codes "{\"answer\":{\"Turn\":{\"Ok\":{\"Reported\":{\"after\":\"open\",\"before\":\"locked\""
    ++ codes ",\"calls\":[{\"Handle\":{\"kind\":{\"Call\":{\"machine\":{\"serial\":1,\"slot\":0},\"request\":3}},\"number\":3,\"state\":\"locked\"}}"
    ++ codes ",{\"Enter\":{\"old\":\"locked\",\"state\":\"open\"}}]"
    ++ codes ",\"done\":\"Finished\",\"event\":3,\"inserted\":[4,5]"
    ++ codes ",\"replied\":[{\"machine\":{\"serial\":1,\"slot\":0},\"request\":3}],\"sent\":[]"
    ++ codes ",\"set\":[[\"State\",{\"Set\":{\"After\":10000}}],[{\"Named\":7},\"Cancel\"]]}}}}"
    ++ codes ",\"command\":{\"Turn\":20},\"number\":6,\"source\":\"Caller\"}"
unfolding serde_json_on_literals digits
opened_is = refl

-- ---- a message is taken out, or none is there
taken_is : text_of (tells 9 source.Caller command.TakeOut (answer.TakeOut (Some (record {
  sender = id;
  number = 1;
  target = record { slot = 1; serial = 2 };
  content = 8;
}))))
    ≡ codes "{\"answer\":{\"TakeOut\":{\"content\":8,\"number\":1,\"sender\":{\"serial\":1,\"slot\":0},\"target\":{\"serial\":2,\"slot\":1}}}"
    ++ codes ",\"command\":\"TakeOut\",\"number\":9,\"source\":\"Caller\"}"
unfolding serde_json_on_literals digits
taken_is = refl

none_is_taken : text_of (tells 10 source.Caller command.TakeOut (answer.TakeOut None))
    ≡ codes "{\"answer\":{\"TakeOut\":null},\"command\":\"TakeOut\",\"number\":10,\"source\":\"Caller\"}"
unfolding serde_json_on_literals digits
none_is_taken = refl
