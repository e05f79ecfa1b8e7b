-- What calls do to a table, and what they write and answer. Of most the answer 0 says that it was done, and at any other
-- nothing changed and nothing was written. `id` is a machine's number; what a call writes stands behind what was there.
use Rattle.std.specs.Prelude.{◌≡◌, ◌≢◌, ◌⊎◌, ◌<◌, ℕ, ◌+◌, ◌&&◌, Bool, true, false, List, [], ◌∷◌, ◌++◌, length, map, Option, Some, None, Ok, Err, IsSome, nat_lt, slice_get}
use Rattle.std.specs.HashMap.{HashMap}
use Rattle.std.specs.List.{list_all}
use Rattle.st_answers.specs.declared.answer.Answer.TheVariants as answer
use Rattle.st_answers.specs.declared.command.Command.TheVariants as command
use Rattle.st_answers.specs.declared.report.Report.{Report}
use Rattle.st_answers.specs.declared.turned.Turned.TheVariants.{Reported}
use Rattle.st_core.specs.Callbacks.{Callbacks}
use Rattle.st_core.specs.Choice.{next_event_of}
use Rattle.st_core.specs.MachineState.{Machine}
use Rattle.st_core.specs.Replies.{peek_of}
use Rattle.st_core.specs.Run.{Does}
use Rattle.st_outbox.specs.Outbox.{first_message}
use Rattle.st_chart.specs.declared.chart.Chart.{Chart}
use Rattle.st_core.specs.UntilIdle.{HasStopped, HasTurned}
use Rattle.st_core.specs.declared.start.Start.TheVariants as start
use Rattle.st_core.specs.declared.turns.Turns.{Turns}
use Rattle.st_core.specs.declared.turns_end.TurnsEnd.{TurnsEnd}
use Rattle.st_core.specs.declared.turns_end.TurnsEnd.TheVariants as end
use Rattle.st_embedded.specs.Described.{Described, ComesTo, WhyNotBegun, described_callbacks}
use Rattle.st_embedded.specs.Hosted.{Hosted, IsStarted, WhyNotStarted, hosted_callbacks, answered_by, last_word}
use Rattle.st_embedded.specs.Table.{machine_at, lists_of, Changes, Same, Puts, Loses}
use Rattle.st_embedded.specs.declared.machines.Machines.{Machines}
use Rattle.st_events.specs.Refusal.{number_of}
use Rattle.st_events.specs.declared.event.Event.{Event}
use Rattle.st_events.specs.declared.message.Message.{Message}
use Rattle.st_events.specs.declared.refusal.Refusal.{Refusal}
use Rattle.st_events.specs.declared.refused.Refused.{Refused}
use Rattle.st_events.specs.declared.tag.Tag.{Tag}
use Rattle.st_hosted.specs.Turning.{IsNext, IsWhyNot}
use Rattle.st_hosted.specs.declared.payload.Payload.{Payload}
use Rattle.st_hosted.specs.declared.why_not.WhyNot.{WhyNot}
use Rattle.st_hosted.specs.declared.why_not.WhyNot.TheVariants as why
use Rattle.st_requests.specs.declared.collected.Collected.{Collected}
use Rattle.st_requests.specs.declared.collected.Collected.TheVariants as collected
use Rattle.zumelivon.specs.Exports.{OnlyHosted, OnlyDescribed}
use Rattle.zumelivon.specs.Reading.{Handed, is_entry, entry_in, is_action, is_answer, is_entered, answer_in, begin_in, first_answer_in}
use Rattle.st_table.specs.declared.interpreter.Interpreter.{Interpreter}
use Rattle.st_table.specs.declared.place.Place.{Place}
use Rattle.st_table.specs.declared.signal.Signal.{Signal}
use Rattle.zumelivon.specs.Signals.{HasValue, IsOf, OneHasNoValue, bytes_in, flat_signal, signal_in, value_in}
use Rattle.zumelivon.specs.Showing.{flag, flat_report_as, flat_content, flat_event, flat_machine, flat_message, flat_report, listed_at, written}
use Rattle.zumelivon.specs.declared.flat_action.FlatAction.{FlatAction}
use Rattle.zumelivon.specs.declared.flat_answer.FlatAnswer.{FlatAnswer}
use Rattle.zumelivon.specs.declared.flat_begin.FlatBegin.{FlatBegin}
use Rattle.zumelivon.specs.declared.flat_content.FlatContent.{FlatContent}
use Rattle.zumelivon.specs.declared.flat_event.FlatEvent.{FlatEvent}
use Rattle.zumelivon.specs.declared.flat_listed.FlatListed.{FlatListed}
use Rattle.zumelivon.specs.declared.flat_machine.FlatMachine.{FlatMachine}
use Rattle.zumelivon.specs.declared.flat_message.FlatMessage.{FlatMessage}
use Rattle.zumelivon.specs.declared.flat_report.FlatReport.{FlatReport}
use Rattle.zumelivon.specs.declared.flat_signal.FlatSignal.{FlatSignal}

-- the tag of a call of a machine, by its number
abbrev pub tag_of : {M S D C : Type 0} → Machine M S D C → ℕ → Tag
tag_of before request = record { machine = before.machine.id; request = request }

-- ---- calls of the machines of one family
module _ {M S D C K : Type 0} (callbacks : M → Callbacks S D C) where
  -- an event is posted, and gets a number
  abbrev pub Posts : ℕ → ℕ → C → ℕ → ℕ → ℕ → HashMap ℕ (Machine M S D C) K → HashMap ℕ (Machine M S D C) K → Type 0
  Posts id entry content result number_old number old new =
      (result ≡ 0 → (is_entry entry ≡ true) × Changes (λ before after. Does callbacks before (command.Post (entry_in entry) content) (answer.Post (Ok number)) after) old new id)
      × (result ≢ 0 → Same old new × (number ≡ number_old))
      × (machine_at old id ≡ None → (result ≡ 9) ⊎ (result ≡ 101) ⊎ (result ≡ 1))
      × (result ≢ 0 → result ≢ 101 → result ≢ 1 → (before : Machine M S D C) → machine_at old id ≡ Some before
      → (refused : Refused C) × (result ≡ number_of refused.refusal) × Does callbacks before (command.Post (entry_in entry) content) (answer.Post (Err refused)) before)

  -- a machine is told the moment, and so many time-outs expired
  abbrev pub Ticks : ℕ → ℕ → ℕ → ℕ → ℕ → HashMap ℕ (Machine M S D C) K → HashMap ℕ (Machine M S D C) K → Type 0
  Ticks id now result expired_old expired old new =
      (result ≡ 0 → Changes (λ before after. Does callbacks before (command.Tick now) (answer.Tick (Ok expired)) after) old new id)
      × (result ≢ 0 → Same old new × (expired ≡ expired_old))
      × (machine_at old id ≡ None → result ≡ 9)
      × (result ≢ 0 → (before : Machine M S D C) → machine_at old id ≡ Some before
      → (refusal : Refusal) × (result ≡ number_of refusal) × Does callbacks before (command.Tick now) (answer.Tick (Err refusal)) before)

  -- what is kept for a call is taken out, and what that is
  abbrev pub Collects : ℕ → ℕ → Collected C → HashMap ℕ (Machine M S D C) K → HashMap ℕ (Machine M S D C) K → Type 0
  Collects id number collected old new =
      Changes (λ before after. Does callbacks before (command.Collect (tag_of before number)) (answer.Collect collected) after) old new id

  -- the first message is taken out, if there is one
  abbrev pub Takes : ℕ → Option (Message C) → HashMap ℕ (Machine M S D C) K → HashMap ℕ (Machine M S D C) K → Type 0
  Takes id message old new = Changes (λ before after. Does callbacks before command.TakeOut (answer.TakeOut message) after) old new id

-- ---- hosted machines

-- an event with a content is posted, or 101 where there is no such way to post one
abbrev pub PostsHosted : ℕ → ℕ → Payload → ℕ → ℕ → ℕ → Machines → Machines → Type 0
PostsHosted id entry content result number_old number old new =
    Posts hosted_callbacks id entry content result number_old number old.hosted new.hosted
    × (result ≡ 101 → is_entry entry ≡ false) × OnlyHosted old new

-- the number of a turn that is not made
abbrev pub why_number : WhyNot → ℕ
why_number why.NotNext = 104
why_number (why.Refused refusal) = number_of refusal

-- a machine starts: its number, and what its start reports
abbrev pub StartsHosted : ℕ → FlatBegin → List FlatAction → FlatAnswer → List FlatAction → List ℕ → ℕ → ℕ → ℕ → FlatReport → FlatReport → Machines → Machines → Type 0
StartsHosted now begin actions entered enter_actions bytes result id_old id report_old report old new =
    (result ≡ 0 → (list_all (is_action bytes) actions ≡ true) × (is_entered bytes entered enter_actions ≡ true) × (id ≡ old.next_id)
    × ((reported : Report ℕ) × (after : Hosted)
    × IsStarted (first_answer_in bytes begin entered enter_actions) (begin_in bytes begin actions) id now reported after
    × Puts old.hosted new.hosted id after × (report ≡ flat_report reported)
    × (new ≡ record old { hosted = new.hosted; next_id = old.next_id + 1; lists = lists_of reported })))
    × (result ≢ 0 → Same old.hosted new.hosted × OnlyHosted old new × (id ≡ id_old) × (report ≡ report_old))
    × (result ≡ 101 → (list_all (is_action bytes) actions && is_entered bytes entered enter_actions) ≡ false)

-- why a start is refused that means something, where it is not for want of memory
abbrev pub WhyNoStart : ℕ → FlatBegin → List FlatAction → FlatAnswer → List FlatAction → List ℕ → ℕ → Machines → Type 0
WhyNoStart now begin actions entered enter_actions bytes result old =
    result ≢ 0 → result ≢ 101 → result ≢ 1
    → (refusal : Refusal) × (result ≡ number_of refusal) × WhyNotStarted (first_answer_in bytes begin entered enter_actions) (begin_in bytes begin actions) old.next_id now refusal

-- the next event of a machine is shown
abbrev pub ShowsOf : ℕ → FlatEvent → FlatEvent → List ℕ → List ℕ → Hosted → Type 0
ShowsOf result event_old event room_old room before =
    (result ≡ 0 → (it : Event Payload) × (next_event_of before.machine ≡ Some it) × (event ≡ flat_event before it) × (room ≡ written it.content.bytes room_old))
    × (result ≡ 102 → (it : Event Payload) × (next_event_of before.machine ≡ Some it) × (event ≡ flat_event before it) × (length room_old < length it.content.bytes))
    × (result ≡ 100 → next_event_of before.machine ≡ None)
    × (result ≢ 0 → room ≡ room_old)
    × (result ≢ 0 → result ≢ 102 → event ≡ event_old)
    × ((result ≡ 0) ⊎ (result ≡ 102) ⊎ (result ≡ 100))

-- so is that of the machine of a number
abbrev pub ShowsNext : ℕ → ℕ → FlatEvent → FlatEvent → List ℕ → List ℕ → Machines → Type 0
ShowsNext id result event_old event room_old room all =
    ((before : Hosted) → machine_at all.hosted id ≡ Some before → ShowsOf result event_old event room_old room before)
    × (machine_at all.hosted id ≡ None → (result ≡ 9) × (event ≡ event_old) × (room ≡ room_old))

-- the turn of an event is made with answers, and what it reports
abbrev pub MakesTurn : ℕ → ℕ → ℕ → Handed → ℕ → FlatReport → FlatReport → Machines → Machines → Type 0
MakesTurn id number now handed result report_old report old new =
    (result ≡ 0 → (is_answer handed ≡ true)
    × ((reported : Report ℕ)
    × Changes (λ before after. IsNext before.machine number × Does hosted_callbacks (answered_by (answer_in handed) before) (command.Turn now) (answer.Turn (Ok (Reported reported))) after) old.hosted new.hosted id
    × (report ≡ flat_report reported) × (new ≡ record old { hosted = new.hosted; lists = lists_of reported })))
    × (result ≢ 0 → Same old.hosted new.hosted × OnlyHosted old new × (report ≡ report_old))
    × (result ≡ 101 → is_answer handed ≡ false)
    × (machine_at old.hosted id ≡ None → (result ≡ 9) ⊎ (result ≡ 101) ⊎ (result ≡ 1))
    × (result ≢ 0 → result ≢ 101 → result ≢ 1 → (before : Hosted) → machine_at old.hosted id ≡ Some before
    → (why : WhyNot) × (result ≡ why_number why) × IsWhyNot hosted_callbacks (answered_by (answer_in handed) before) number now why)

-- a reply comes from outside; 100 where it was not taken
abbrev pub Replies : ℕ → ℕ → Payload → ℕ → Machines → Machines → Type 0
Replies id number content result old new =
    (result ≡ 0 → Changes (λ before after. Does hosted_callbacks before (command.Reply (tag_of before number) content) (answer.Reply true) after) old.hosted new.hosted id)
    × (result ≡ 100 → Changes (λ before after. Does hosted_callbacks before (command.Reply (tag_of before number) content) (answer.Reply false) after) old.hosted new.hosted id)
    × (result ≡ 9 → (machine_at old.hosted id ≡ None) × Same old.hosted new.hosted)
    × (result ≡ 1 → Same old.hosted new.hosted)
    × ((result ≡ 0) ⊎ (result ≡ 100) ⊎ (result ≡ 9) ⊎ (result ≡ 1))
    × OnlyHosted old new

-- a reply is taken out, with its bytes; or the reason for which none comes
abbrev pub CollectsContent : ℕ → ℕ → ℕ → FlatContent → FlatContent → List ℕ → List ℕ → Machines → Machines → Type 0
CollectsContent id number result content_old content room_old room old new =
    (result ≡ 0 → (reply : Payload) × Collects hosted_callbacks id number (collected.Reply reply) old.hosted new.hosted
    × (content ≡ flat_content reply) × (room ≡ written reply.bytes room_old))
    × (result ≡ 103 → (reason : ℕ) × Collects hosted_callbacks id number (collected.Stopped reason) old.hosted new.hosted
    × (content ≡ record { code = 0; length = 0; reason = reason; unused = 0 }))
    × (result ≡ 100 → Collects hosted_callbacks id number collected.Waiting old.hosted new.hosted)
    × (result ≡ 107 → Collects hosted_callbacks id number collected.Gone old.hosted new.hosted)
    × (result ≡ 102 → (before : Hosted) × (reply : Payload) × (machine_at old.hosted id ≡ Some before) × (peek_of before.machine (tag_of before number) ≡ Some reply)
    × (content ≡ flat_content reply) × (length room_old < length reply.bytes) × Same old.hosted new.hosted)
    × (result ≡ 9 → (machine_at old.hosted id ≡ None) × Same old.hosted new.hosted)
    × (result ≢ 0 → room ≡ room_old)
    × (result ≢ 0 → result ≢ 103 → result ≢ 102 → content ≡ content_old)
    × ((result ≡ 0) ⊎ (result ≡ 103) ⊎ (result ≡ 100) ⊎ (result ≡ 107) ⊎ (result ≡ 102) ⊎ (result ≡ 9))
    × OnlyHosted old new

-- the first message is taken out, with its bytes
abbrev pub TakesMessage : ℕ → ℕ → FlatMessage → FlatMessage → List ℕ → List ℕ → Machines → Machines → Type 0
TakesMessage id result message_old message room_old room old new =
    (result ≡ 0 → (it : Message Payload) × Takes hosted_callbacks id (Some it) old.hosted new.hosted
    × (message ≡ flat_message it) × (room ≡ written it.content.bytes room_old))
    × (result ≡ 102 → (before : Hosted) × (it : Message Payload) × (machine_at old.hosted id ≡ Some before) × (first_message before.machine.outbox.messages ≡ Some it)
    × (message ≡ flat_message it) × (length room_old < length it.content.bytes) × Same old.hosted new.hosted)
    × (result ≡ 100 → (before : Hosted) × (machine_at old.hosted id ≡ Some before) × (first_message before.machine.outbox.messages ≡ None) × Same old.hosted new.hosted)
    × (result ≡ 9 → (machine_at old.hosted id ≡ None) × Same old.hosted new.hosted)
    × (result ≢ 0 → room ≡ room_old)
    × (result ≢ 0 → result ≢ 102 → message ≡ message_old)
    × ((result ≡ 0) ⊎ (result ≡ 102) ⊎ (result ≡ 100) ⊎ (result ≡ 9))
    × OnlyHosted old new

-- ---- descriptions

-- a description is read and kept, and its number is how many there were; or nothing is kept
abbrev pub Describes : ℕ → ℕ → ℕ → Machines → Machines → Type 0
Describes result description_old description old new =
    (result ≡ 0 → (description ≡ length old.charts.items) × ((chart : Chart) × (new.charts.items ≡ old.charts.items ++ (chart ∷ []))))
    × (result ≢ 0 → (new.charts.items ≡ old.charts.items) × (description ≡ description_old))
    × ((result ≡ 0) ⊎ (result ≡ 111) ⊎ (result ≡ 1))
    × (new ≡ record old { charts = new.charts })

-- why a name, or its number, is not there: there is no such description, or no such kind of names
abbrev pub WhyNoName : ℕ → ℕ → ℕ → Machines → Type 0
WhyNoName description kind result all =
    (result ≡ 112 → slice_get all.charts.items description ≡ None)
    × (slice_get all.charts.items description ≡ None → result ≡ 112)
    × (result ≡ 101 → nat_lt kind 3 ≡ false)
    × ((result ≡ 0) ⊎ (result ≡ 112) ⊎ (result ≡ 101) ⊎ (result ≡ 8) ⊎ (result ≡ 102))

-- ---- described machines

-- a machine of a description starts with the values of signals: its number, and what its start reports; or the
-- description made none
abbrev pub StartsDescribed : ℕ → ℕ → List FlatSignal → List ℕ → ℕ → ℕ → ℕ → FlatReport → FlatReport → Machines → Machines → Type 0
StartsDescribed description now values bytes result id_old id report_old report old new =
    (result ≡ 0 → (it : Interpreter) × IsOf old description it × (id ≡ old.next_id)
    × ((reported : Report Place) × (after : Described) × ComesTo it (map (value_in bytes) values) id now (start.Running after reported)
    × Puts old.described new.described id after × (report ≡ flat_report_as reported.before.number reported.after.number reported)
    × (new ≡ record old { described = new.described; next_id = old.next_id + 1; lists = lists_of reported })))
    × (result ≡ 110 → (it : Interpreter) × IsOf old description it × ComesTo it (map (value_in bytes) values) old.next_id now start.Ignored)
    × (result ≡ 103 → (it : Interpreter) × IsOf old description it
    × ((reason : ℕ) × ComesTo it (map (value_in bytes) values) old.next_id now (start.Stopped reason) × (report ≡ record report_old { reason = reason })))
    × (result ≢ 0 → Same old.described new.described × OnlyDescribed old new × (id ≡ id_old))
    × (result ≢ 0 → result ≢ 103 → report ≡ report_old)
    × (result ≡ 112 → slice_get old.charts.items description ≡ None)
    × (result ≡ 101 → OneHasNoValue bytes values)

-- why a start is refused that means something, where it is not for want of memory
abbrev pub WhyNoBegin : ℕ → ℕ → List FlatSignal → List ℕ → ℕ → Machines → Type 0
WhyNoBegin description now values bytes result old =
    result ≢ 0 → result ≢ 110 → result ≢ 103 → result ≢ 112 → result ≢ 101 → result ≢ 1
    → (it : Interpreter) × IsOf old description it × ((refusal : Refusal) × (result ≡ number_of refusal) × WhyNotBegun it (map (value_in bytes) values) old.next_id now refusal)

-- an event with a signal is posted, or 101 where there is no such way, or the signal has no value
abbrev pub PostsSignal : ℕ → ℕ → FlatSignal → List ℕ → ℕ → ℕ → ℕ → Machines → Machines → Type 0
PostsSignal id entry signal bytes result number_old number old new =
    Posts described_callbacks id entry (signal_in bytes signal) result number_old number old.described new.described
    × (result ≡ 0 → HasValue bytes signal)
    × (result ≡ 101 → (is_entry entry ≡ false) ⊎ (HasValue bytes signal → ⊥))
    × OnlyDescribed old new

-- what a run answers where its machine had not ended
abbrev pub end_number : TurnsEnd → ℕ
end_number (end.Refused refusal) = number_of refusal
end_number other = 0

-- whether an event is left where its turns have come to this
abbrev pub is_left : TurnsEnd → Bool
is_left end.AtMost = true
is_left (end.Refused refusal) = true
is_left other = false

-- turns are made; of a machine that has ended none are
abbrev pub RunsDescribed : ℕ → ℕ → ℕ → ℕ → ℕ → ℕ → ℕ → ℕ → Machines → Machines → Type 0
RunsDescribed id now at_most result turns_old turns more_old more old new =
    ((before : Described) → machine_at old.described id ≡ Some before → before.machine.ended ≡ None
    → (made : Turns) × Changes (λ before after. HasTurned described_callbacks now before made after × HasStopped at_most made after.machine) old.described new.described id
    × (turns ≡ made.reported) × (more ≡ flag (is_left made.end)) × (result ≡ end_number made.end))
    × ((before : Described) → machine_at old.described id ≡ Some before → IsSome before.machine.ended
    → (result ≡ 2) × Same old.described new.described × (turns ≡ turns_old) × (more ≡ more_old))
    × (machine_at old.described id ≡ None → (result ≡ 9) × Same old.described new.described × (turns ≡ turns_old) × (more ≡ more_old))
    × OnlyDescribed old new

-- a reply is taken out, with the bytes of its text; or the reason for which none comes
abbrev pub CollectsSignal : ℕ → ℕ → ℕ → FlatSignal → FlatSignal → ℕ → ℕ → List ℕ → List ℕ → Machines → Machines → Type 0
CollectsSignal id number result signal_old signal reason_old reason room_old room old new =
    (result ≡ 0 → (reply : Signal) × Collects described_callbacks id number (collected.Reply reply) old.described new.described
    × (signal ≡ flat_signal reply) × (room ≡ written (bytes_in reply) room_old))
    × (result ≡ 103 → Collects described_callbacks id number (collected.Stopped reason) old.described new.described)
    × (result ≡ 100 → Collects described_callbacks id number collected.Waiting old.described new.described)
    × (result ≡ 107 → Collects described_callbacks id number collected.Gone old.described new.described)
    × (result ≡ 102 → (before : Described) × (reply : Signal) × (machine_at old.described id ≡ Some before) × (peek_of before.machine (tag_of before number) ≡ Some reply)
    × (signal ≡ flat_signal reply) × (length room_old < length (bytes_in reply)) × Same old.described new.described)
    × (result ≡ 9 → (machine_at old.described id ≡ None) × Same old.described new.described)
    × (result ≢ 0 → room ≡ room_old)
    × (result ≢ 103 → reason ≡ reason_old)
    × (result ≢ 0 → result ≢ 102 → signal ≡ signal_old)
    × ((result ≡ 0) ⊎ (result ≡ 103) ⊎ (result ≡ 100) ⊎ (result ≡ 107) ⊎ (result ≡ 102) ⊎ (result ≡ 9))
    × OnlyDescribed old new

-- the first message is taken out, with the bytes of its text
abbrev pub TakesSignal : ℕ → ℕ → FlatSignal → FlatSignal → ℕ → ℕ → ℕ → ℕ → List ℕ → List ℕ → Machines → Machines → Type 0
TakesSignal id result signal_old signal target_old target number_old number room_old room old new =
    (result ≡ 0 → (it : Message Signal) × Takes described_callbacks id (Some it) old.described new.described
    × (signal ≡ flat_signal it.content) × (target ≡ it.target.serial) × (number ≡ it.number) × (room ≡ written (bytes_in it.content) room_old))
    × (result ≡ 102 → (before : Described) × (it : Message Signal) × (machine_at old.described id ≡ Some before) × (first_message before.machine.outbox.messages ≡ Some it)
    × (signal ≡ flat_signal it.content) × (length room_old < length (bytes_in it.content)) × Same old.described new.described)
    × (result ≡ 100 → (before : Described) × (machine_at old.described id ≡ Some before) × (first_message before.machine.outbox.messages ≡ None) × Same old.described new.described)
    × (result ≡ 9 → (machine_at old.described id ≡ None) × Same old.described new.described)
    × (result ≢ 0 → (room ≡ room_old) × (target ≡ target_old) × (number ≡ number_old))
    × (result ≢ 0 → result ≢ 102 → signal ≡ signal_old)
    × ((result ≡ 0) ⊎ (result ≡ 102) ⊎ (result ≡ 100) ⊎ (result ≡ 9))
    × OnlyDescribed old new

-- ---- machines of either family

-- a machine is told the moment
abbrev pub TicksEither : ℕ → ℕ → ℕ → ℕ → ℕ → Machines → Machines → Type 0
TicksEither id now result expired_old expired old new =
    (IsSome (machine_at old.hosted id) → Ticks hosted_callbacks id now result expired_old expired old.hosted new.hosted × OnlyHosted old new)
    × (machine_at old.hosted id ≡ None → Ticks described_callbacks id now result expired_old expired old.described new.described × OnlyDescribed old new)

-- a hosted machine ends with a last word
abbrev pub StopsHosted : ℕ → ℕ → ℕ → ℕ → Machines → Machines → Type 0
StopsHosted id reason word result old new =
    (result ≡ 0 → (said : ℕ) × Changes (λ before after. Does hosted_callbacks (answered_by (last_word word) before) (command.Stop reason) (answer.Stop (Ok said)) after) old.hosted new.hosted id)
    × (result ≢ 0 → Same old.hosted new.hosted)
    × (result ≢ 0 → (before : Hosted) → machine_at old.hosted id ≡ Some before
    → (refusal : Refusal) × (result ≡ number_of refusal) × Does hosted_callbacks (answered_by (last_word word) before) (command.Stop reason) (answer.Stop (Err refusal)) (answered_by (last_word word) before))
    × OnlyHosted old new

-- a described machine ends
abbrev pub StopsDescribed : ℕ → ℕ → ℕ → Machines → Machines → Type 0
StopsDescribed id reason result old new =
    (result ≡ 0 → (said : ℕ) × Changes (λ before after. Does described_callbacks before (command.Stop reason) (answer.Stop (Ok said)) after) old.described new.described id)
    × (result ≢ 0 → Same old.described new.described)
    × (machine_at old.described id ≡ None → result ≡ 9)
    × (result ≢ 0 → (before : Described) → machine_at old.described id ≡ Some before
    → (refusal : Refusal) × (result ≡ number_of refusal) × Does described_callbacks before (command.Stop reason) (answer.Stop (Err refusal)) before)
    × OnlyDescribed old new

-- a machine ends for a reason
abbrev pub StopsEither : ℕ → ℕ → ℕ → ℕ → Machines → Machines → Type 0
StopsEither id reason word result old new =
    (IsSome (machine_at old.hosted id) → StopsHosted id reason word result old new)
    × (machine_at old.hosted id ≡ None → StopsDescribed id reason result old new)

-- a machine is dropped
abbrev pub Removes : ℕ → ℕ → Machines → Machines → Type 0
Removes id result old new =
    Loses old.hosted new.hosted id
    × (IsSome (machine_at old.hosted id) → (result ≡ 0) × OnlyHosted old new)
    × (machine_at old.hosted id ≡ None → Loses old.described new.described id)
    × (machine_at old.hosted id ≡ None → IsSome (machine_at old.described id) → result ≡ 0)
    × (machine_at old.hosted id ≡ None → machine_at old.described id ≡ None → result ≡ 9)
    × (new ≡ record old { hosted = new.hosted; described = new.described })

-- a machine is shown
abbrev pub Looks : ℕ → ℕ → FlatMachine → FlatMachine → Machines → Type 0
Looks id result machine_old machine all =
    ((before : Hosted) → machine_at all.hosted id ≡ Some before → (result ≡ 0) × (machine ≡ flat_machine before.machine.state before.machine.«data» before))
    × (machine_at all.hosted id ≡ None → (before : Described) → machine_at all.described id ≡ Some before → (result ≡ 0) × (machine ≡ flat_machine before.machine.state.number 0 before))
    × (machine_at all.hosted id ≡ None → machine_at all.described id ≡ None → (result ≡ 9) × (machine ≡ machine_old))

-- a list is read
abbrev pub ReadsList : ℕ → ℕ → ℕ → FlatListed → FlatListed → Machines → Type 0
ReadsList list index result listed_old listed all =
    (result ≡ 0 → (nat_lt list 4 ≡ true) × (listed_at all.lists list index ≡ Some listed))
    × (result ≡ 100 → (nat_lt list 4 ≡ true) × (listed_at all.lists list index ≡ None))
    × (result ≡ 101 → nat_lt list 4 ≡ false)
    × (result ≢ 0 → listed ≡ listed_old)
    × ((result ≡ 0) ⊎ (result ≡ 100) ⊎ (result ≡ 101))
