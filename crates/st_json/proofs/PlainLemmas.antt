-- An entry has no float but in its contents, and nests little around them.
use Rattle.std.proofs.Common.{◌≡◌, ℕ, ◌<◌, ◌≤◌, false, Option, Some, None, Result, Ok, Err, List, [], ◌∷◌, map, refl, arith}
use Rattle.std.proofs.Math.Nat.{max-le}
use Rattle.serde_json.specs.Data.{Data, string, object, Members, no_members, member, depth, items_depth, members_depth}
use Rattle.serde_json.specs.Read.{max_depth}
use Rattle.serde_json.specs.View.{items_of}
use Rattle.serde_json.specs.Written.{has_float, items_have_float, members_have_float}
use Rattle.st_events.specs.declared.decision.Decision.{Decision}
use Rattle.st_events.specs.declared.decision.Decision.TheVariants as decision
use Rattle.st_events.specs.declared.kind.Kind.{Kind}
use Rattle.st_events.specs.declared.kind.Kind.TheVariants as kind
use Rattle.st_events.specs.declared.machine_id.MachineId.{MachineId}
use Rattle.st_events.specs.declared.message.Message.{Message}
use Rattle.st_events.specs.declared.refusal.Refusal.{Refusal}
use Rattle.st_events.specs.declared.refusal.Refusal.TheVariants as refusal
use Rattle.st_events.specs.declared.refused.Refused.{Refused}
use Rattle.st_events.specs.declared.tag.Tag.{Tag}
use Rattle.st_events.specs.declared.time.Time.{Time}
use Rattle.st_events.specs.declared.time.Time.TheVariants.{After, Infinity}
use Rattle.st_events.specs.declared.timer.Timer.{Timer}
use Rattle.st_events.specs.declared.timer.Timer.TheVariants as timer
use Rattle.st_requests.specs.declared.collected.Collected.{Collected}
use Rattle.st_requests.specs.declared.collected.Collected.TheVariants as collected
use Rattle.st_answers.specs.declared.answer.Answer.{Answer}
use Rattle.st_answers.specs.declared.answer.Answer.TheVariants as answer
use Rattle.st_answers.specs.declared.call.Call.{Call}
use Rattle.st_answers.specs.declared.call.Call.TheVariants.{Handle, Enter, Terminate}
use Rattle.st_answers.specs.declared.command.Command.{Command}
use Rattle.st_answers.specs.declared.command.Command.TheVariants as command
use Rattle.st_answers.specs.declared.done.Done.{Done}
use Rattle.st_answers.specs.declared.done.Done.TheVariants.{Started, Finished, PutOff, Ended}
use Rattle.st_answers.specs.declared.entry.Entry.{Entry}
use Rattle.st_answers.specs.declared.entry.Entry.TheVariants as entry
use Rattle.st_answers.specs.declared.report.Report.{Report}
use Rattle.st_answers.specs.declared.turned.Turned.{Turned}
use Rattle.st_answers.specs.declared.turned.Turned.TheVariants.{Reported, Idle}
use Rattle.st_journal.specs.declared.journal_entry.JournalEntry.{JournalEntry}
use Rattle.st_journal.specs.declared.source.Source.{Source}
use Rattle.st_journal.specs.declared.source.Source.TheVariants as source
use Rattle.st_json.specs.Forms.{number_data, named_data, pair_data, list_data, option_data, result_data}
use Rattle.st_json.specs.Events.{id_data, tag_data, timer_data, time_data, decision_data, kind_data, refusal_data, refused_data, message_data, collected_data}
use Rattle.st_json.specs.Reports.{done_data, setting_data, call_data, last_members, report_data, turned_data}
use Rattle.st_json.specs.Entries.{posted_data, source_data, command_data, answer_data, entry_data}
use Rattle.st_json.specs.Lines.{IsPlain, ArePlain}

-- ---- forms
-- members whose values are plain
record PlainMembers (limit : ℕ) (members : Members) : Type 0 where
  no_float : members_have_float members ≡ false
  nests : members_depth members ≤ limit

no_more : {limit : ℕ} → PlainMembers limit no_members
no_more {limit} = record { no_float = refl; nests = omega arith }

one_more : {limit : ℕ} {key : List ℕ} {value : Data} {members : Members}
    → IsPlain limit value → PlainMembers limit members → PlainMembers limit (member key value members)
one_more one others = record { no_float = rw (one.no_float, others.no_float); nests = max-le one.nests others.nests }

-- an object nests one deeper than its members
around : {members : Members} (within limit : ℕ) → within < limit → PlainMembers within members → IsPlain limit (object members)
around within limit less are = record { no_float = are.no_float; nests = omega (arith, are.nests, less) }

-- what has no value inside
flat_string : {limit : ℕ} {text : List ℕ} → IsPlain limit (string text)
flat_string {limit} = record { no_float = refl; nests = omega arith }

flat_number : {limit n : ℕ} → IsPlain limit (number_data n)
flat_number {limit} = record { no_float = refl; nests = omega arith }

named : {name : List ℕ} {value : Data} (within limit : ℕ) → within < limit → IsPlain within value → IsPlain limit (named_data name value)
named within limit less one = around within limit less (one_more one no_more)

pair : {first second : Data} (within limit : ℕ) → within < limit → IsPlain within first → IsPlain within second → IsPlain limit (pair_data first second)
pair within limit less one other =
    let none : 0 ≤ within = omega arith in
    let both = max-le one.nests (max-le other.nests none) in
    record { no_float = rw (one.no_float, other.no_float); nests = omega (arith, both, less) }

module _ {T : Type 0} (data_of : T → Data) where
  elements_have_none : ((value : T) → has_float (data_of value) ≡ false) → (elements : List T) → items_have_float (items_of (map data_of elements)) ≡ false
  elements_have_none are [] = refl
  elements_have_none are (first ∷ elements) = rw (are first, elements_have_none are elements)

  elements_nest : (within : ℕ) → ((value : T) → depth (data_of value) ≤ within) → (elements : List T) → items_depth (items_of (map data_of elements)) ≤ within
  elements_nest within are [] = omega arith
  elements_nest within are (first ∷ elements) = max-le (are first) (elements_nest within are elements)

  plain_list : (within limit : ℕ) → within < limit → ((value : T) → IsPlain within (data_of value)) → (elements : List T) → IsPlain limit (list_data data_of elements)
  plain_list within limit less are elements =
      let nest = elements_nest within (λ value. (are value).nests) elements in
      record { no_float = elements_have_none (λ value. (are value).no_float) elements; nests = omega (arith, nest, less) }

  plain_option : (limit : ℕ) → ((value : T) → IsPlain limit (data_of value)) → (value : Option T) → IsPlain limit (option_data data_of value)
  plain_option limit are None = record { no_float = refl; nests = omega arith }
  plain_option limit are (Some value) = are value

  plain_result : {E : Type 0} (error_of : E → Data) (within limit : ℕ) → within < limit → ((value : T) → IsPlain within (data_of value))
      → ((error : E) → IsPlain within (error_of error)) → (result : Result T E) → IsPlain limit (result_data data_of error_of result)
  plain_result error_of within limit less are errors_are (Ok value) = named within limit less (are value)
  plain_result error_of within limit less are errors_are (Err error) = named within limit less (errors_are error)

-- ---- events
plain_id : (limit : ℕ) → 1 ≤ limit → (id : MachineId) → IsPlain limit (id_data id)
plain_id limit less id = around 0 limit (omega arith) (one_more flat_number (one_more flat_number no_more))

plain_tag : (limit : ℕ) → 2 ≤ limit → (tag : Tag) → IsPlain limit (tag_data tag)
plain_tag limit less tag = around 1 limit (omega arith) (one_more (plain_id 1 (omega arith) tag.machine) (one_more flat_number no_more))

plain_timer : (limit : ℕ) → 1 ≤ limit → (which : Timer) → IsPlain limit (timer_data which)
plain_timer limit less timer.Event = flat_string
plain_timer limit less timer.State = flat_string
plain_timer limit less (timer.Named name) = named 0 limit (omega arith) flat_number

plain_time : (time : Time) → IsPlain 1 (time_data time)
plain_time (After span) = named 0 1 (omega arith) flat_number
plain_time Infinity = flat_string

plain_decision : (asked : Decision) → IsPlain 2 (decision_data asked)
plain_decision (decision.Set time) = named 1 2 (omega arith) (plain_time time)
plain_decision decision.Cancel = flat_string
plain_decision decision.Update = flat_string

plain_setting : (setting : Timer × Decision) → IsPlain 3 (setting_data setting)
plain_setting setting = pair 2 3 (omega arith) (plain_timer 2 (omega arith) setting.0) (plain_decision setting.1)

plain_kind : (which : Kind) → IsPlain 3 (kind_data which)
plain_kind (kind.Call tag) = named 2 3 (omega arith) (plain_tag 2 (omega arith) tag)
plain_kind kind.Cast = flat_string
plain_kind kind.Info = flat_string
plain_kind (kind.Timeout timer) = named 2 3 (omega arith) (plain_timer 2 (omega arith) timer)
plain_kind kind.Internal = flat_string

plain_refusal : (limit : ℕ) → 2 ≤ limit → (why : Refusal) → IsPlain limit (refusal_data why)
plain_refusal limit less refusal.NoMemory = flat_string
plain_refusal limit less (refusal.Stopped reason) = named 0 limit (omega arith) flat_number
plain_refusal limit less refusal.Exhausted = flat_string
plain_refusal limit less refusal.Moment = flat_string
plain_refusal limit less refusal.NotPossible = flat_string
plain_refusal limit less refusal.NotQueued = flat_string
plain_refusal limit less (refusal.AlreadyStarted id) = named 1 limit (omega arith) (plain_id 1 (omega arith) id)
plain_refusal limit less refusal.NoSuchName = flat_string
plain_refusal limit less refusal.NoSuchMachine = flat_string
plain_refusal limit less refusal.NotStopped = flat_string
plain_refusal limit less refusal.Full = flat_string
plain_refusal limit less refusal.BadName = flat_string

module _ {C : Type 0} (content_data : C → Data) (are : ArePlain content_data) where
  plain_refused : (refused : Refused C) → IsPlain 124 (refused_data content_data refused)
  plain_refused refused =
      around 123 124 (omega arith) (one_more (plain_refusal 123 (omega arith) refused.refusal) (one_more (are refused.value) no_more))

  plain_message : (message : Message C) → IsPlain 124 (message_data content_data message)
  plain_message message =
      around 123 124 (omega arith)
      (one_more (are message.content)
      (one_more flat_number
      (one_more (plain_id 123 (omega arith) message.sender)
      (one_more (plain_id 123 (omega arith) message.target) no_more))))

  plain_collected : (handed : Collected C) → IsPlain 124 (collected_data content_data handed)
  plain_collected collected.Waiting = flat_string
  plain_collected (collected.Reply content) = named 123 124 (omega arith) (are content)
  plain_collected (collected.Stopped reason) = named 0 124 (omega arith) flat_number
  plain_collected collected.Gone = flat_string

-- ---- reports
plain_done : (limit : ℕ) → 2 ≤ limit → (done : Done) → IsPlain limit (done_data done)
plain_done limit less Started = flat_string
plain_done limit less Finished = flat_string
plain_done limit less PutOff = flat_string
plain_done limit less (Ended reason word) = named 1 limit (omega arith) (pair 0 1 (omega arith) flat_number flat_number)

module _ {S : Type 0} where
  plain_last_members : (report : Report S) → PlainMembers 6 (last_members report)
  plain_last_members report =
      one_more (plain_list number_data 0 6 (omega arith) (λ n. flat_number) report.inserted)
      (one_more (plain_list tag_data 2 6 (omega arith) (plain_tag 2 (omega arith)) report.replied)
      (one_more (plain_list number_data 0 6 (omega arith) (λ n. flat_number) report.sent)
      (one_more (plain_list setting_data 3 6 (omega arith) plain_setting report.set) no_more)))

  module _ (names : S → List ℕ) where
    plain_call : (call : Call S) → IsPlain 5 (call_data names call)
    plain_call (Handle number kind state) =
        named 4 5 (omega arith) (around 3 4 (omega arith) (one_more (plain_kind kind) (one_more flat_number (one_more flat_string no_more))))
    plain_call (Enter old state) = named 4 5 (omega arith) (around 3 4 (omega arith) (one_more flat_string (one_more flat_string no_more)))
    plain_call (Terminate reason state word) =
        named 4 5 (omega arith) (around 3 4 (omega arith) (one_more flat_number (one_more flat_string (one_more flat_number no_more))))

    plain_report : (report : Report S) → IsPlain 7 (report_data names report)
    plain_report report =
        around 6 7 (omega arith)
        (one_more flat_string
        (one_more flat_string
        (one_more (plain_list (call_data names) 5 6 (omega arith) plain_call report.calls)
        (one_more (plain_done 6 (omega arith) report.done)
        (one_more (plain_option number_data 6 (λ n. flat_number) report.event) (plain_last_members report))))))

    plain_turned : (turned : Turned S) → IsPlain 124 (turned_data names turned)
    plain_turned (Reported report) = named 7 124 (omega arith) (plain_report report)
    plain_turned Idle = flat_string

-- ---- entries
plain_posted : (limit : ℕ) (how : Entry) → IsPlain limit (posted_data how)
plain_posted limit entry.Call = flat_string
plain_posted limit entry.Cast = flat_string
plain_posted limit entry.Info = flat_string

plain_source : (from : Source) → IsPlain 126 (source_data from)
plain_source source.Caller = flat_string
plain_source (source.Port port) = named 0 126 (omega arith) flat_number
plain_source (source.Message sender number) = named 2 126 (omega arith) (pair 1 2 (omega arith) (plain_id 1 (omega arith) sender) flat_number)

module _ {C : Type 0} (content_data : C → Data) (are : ArePlain content_data) where
  plain_command : (told : Command C) → IsPlain 126 (command_data content_data told)
  plain_command (command.Post how content) = named 124 126 (omega arith) (pair 123 124 (omega arith) (plain_posted 123 how) (are content))
  plain_command (command.Tick now) = named 0 126 (omega arith) flat_number
  plain_command (command.Turn now) = named 0 126 (omega arith) flat_number
  plain_command (command.Reply tag content) = named 124 126 (omega arith) (pair 123 124 (omega arith) (plain_tag 123 (omega arith) tag) (are content))
  plain_command (command.Collect tag) = named 2 126 (omega arith) (plain_tag 2 (omega arith) tag)
  plain_command (command.Stop reason) = named 0 126 (omega arith) flat_number
  plain_command command.TakeOut = flat_string

  module _ {S : Type 0} (names : S → List ℕ) where
    plain_answer : (answered : Answer S C) → IsPlain 126 (answer_data names content_data answered)
    plain_answer (answer.Post posted) =
        named 125 126 (omega arith)
        (plain_result number_data (refused_data content_data) 124 125 (omega arith) (λ n. flat_number) (plain_refused content_data are) posted)
    plain_answer (answer.Tick ticked) =
        named 125 126 (omega arith) (plain_result number_data refusal_data 124 125 (omega arith) (λ n. flat_number) (plain_refusal 124 (omega arith)) ticked)
    plain_answer (answer.Turn turned) =
        named 125 126 (omega arith)
        (plain_result (turned_data names) refusal_data 124 125 (omega arith) (plain_turned names) (plain_refusal 124 (omega arith)) turned)
    plain_answer (answer.Reply taken) = named 0 126 (omega arith) (record { no_float = refl; nests = omega arith })
    plain_answer (answer.Collect collected) = named 124 126 (omega arith) (plain_collected content_data are collected)
    plain_answer (answer.Stop stopped) =
        named 125 126 (omega arith) (plain_result number_data refusal_data 124 125 (omega arith) (λ n. flat_number) (plain_refusal 124 (omega arith)) stopped)
    plain_answer (answer.TakeOut message) =
        named 124 126 (omega arith) (plain_option (message_data content_data) 124 (plain_message content_data are) message)

    -- an entry with plain contents is plain
    pub plain_entry : (entry : JournalEntry S C) → IsPlain max_depth (entry_data names content_data entry)
    plain_entry entry =
        around 126 127 (omega arith)
        (one_more (plain_answer entry.answer)
        (one_more (plain_command entry.command)
        (one_more flat_number
        (one_more (plain_source entry.source) no_more))))
