-- The definitions computed on examples, whole answers in order and the whole machine in the end.
use Rattle.std.proofs.Common.{◌≡◌, ℕ, ◌+◌, ◌==◌, Some, None, Result, Ok, Err, List, [], ◌∷◌, true, false, refl, inr}
use Rattle.st_events.specs.declared.decision.Decision.{Decision}
use Rattle.st_events.specs.declared.decision.Decision.TheVariants as decision
use Rattle.st_events.specs.declared.event.Event.{Event}
use Rattle.st_events.specs.declared.kind.Kind.{Kind}
use Rattle.st_events.specs.declared.kind.Kind.TheVariants as kind
use Rattle.st_events.specs.declared.machine_id.MachineId.{MachineId}
use Rattle.st_events.specs.declared.message.Message.{Message}
use Rattle.st_events.specs.declared.refusal.Refusal.{Refusal}
use Rattle.st_events.specs.declared.time.Time.TheVariants.{After, Infinity}
use Rattle.st_events.specs.declared.timer.Timer.{Timer}
use Rattle.st_events.specs.declared.timer.Timer.TheVariants as timer
use Rattle.st_events.specs.declared.refusal.Refusal.TheVariants.{NoMemory, Exhausted, Moment}
use Rattle.st_events.specs.declared.refusal.Refusal.TheVariants as refusal
use Rattle.st_events.specs.declared.refused.Refused.{Refused}
use Rattle.st_events.specs.declared.tag.Tag.{Tag}
use Rattle.st_requests.specs.declared.collected.Collected.TheVariants as collected
use Rattle.st_answers.specs.declared.entry.Entry.TheVariants.{Call, Cast, Info}
use Rattle.st_answers.specs.declared.call.Call.TheVariants.{Handle, Enter, Terminate}
use Rattle.st_answers.specs.declared.done.Done.{Done}
use Rattle.st_answers.specs.declared.done.Done.TheVariants.{Started, Finished, PutOff, Ended}
use Rattle.st_answers.specs.declared.report.Report.{Report}
use Rattle.st_core.specs.declared.start.Start.{Start}
use Rattle.st_core.specs.declared.start.Start.TheVariants.{Running, Ignored, Stopped}
use Rattle.st_answers.specs.declared.turned.Turned.TheVariants.{Reported, Idle}
use Rattle.st_answers.specs.declared.command.Command.{Command}
use Rattle.st_answers.specs.declared.command.Command.TheVariants as command
use Rattle.st_answers.specs.declared.answer.Answer.{Answer}
use Rattle.st_answers.specs.declared.answer.Answer.TheVariants as answer
use Rattle.st_timeouts.specs.declared.due.Due.{Due}
use Rattle.st_timeouts.specs.declared.due.Due.TheVariants.{Zero, At}
use Rattle.st_timeouts.specs.declared.running.Running.{Running as RunningTimeout}
use Rattle.st_agenda.specs.declared.item.Item.{Item}
use Rattle.st_agenda.specs.declared.item.Item.TheVariants.{Received, Posted, Expiry}
use Rattle.st_outbox.specs.Outbox.{first_outbox}
use Rattle.st_core.specs.declared.machine_state.MachineState.{MachineState}
use Rattle.st_core.specs.MachineState.{Machine}
use Rattle.st_core.specs.Callbacks.{Callbacks}
use Rattle.st_core.specs.Choice.{has_event_of, is_ready_of, waiting_of, timers_of}
use Rattle.st_core.specs.Start.{start_of, start_refused, Starts}
use Rattle.st_core.specs.Stop.{stop_of}
use Rattle.st_core.specs.Run.{takes_memory, step_of, Runs}
use Rattle.st_core.specs.Accounting.{accepted_in, finished_in}
use Rattle.st_core_tests.specs.WorkedTable.{foreign_tag, other_machine, third_machine, handled_by_table, enters_by_table, entered_by_table, begun_by_table}
use Rattle.st_core.proofs.RunLemmas.{answers_of, runs_with_memory}

-- the callbacks of the module with this number
abbrev table_of : ℕ → Callbacks ℕ ℕ ℕ
table_of number = record {
  handle_is = λ kind content state held. handled_by_table content state held;
  enters_is = enters_by_table number;
  enter_is = λ old state held. entered_by_table number old state held;
  terminate_is = λ reason state held. held;
  same_state = λ state other. state == other;
}

-- that of most examples has no enter calls
abbrev table : Callbacks ℕ ℕ ℕ
table = table_of 50

abbrev id : MachineId
id = record { slot = 0; serial = 1 }

-- a machine of the module with this number
abbrev with_table : ℕ → MachineState ℕ ℕ ℕ → Machine ℕ ℕ ℕ ℕ
with_table number machine = record { module_ = number; machine = machine }

-- a run of it
abbrev RunsOf : ℕ → MachineState ℕ ℕ ℕ → List (Command ℕ) → List (Answer ℕ ℕ) → MachineState ℕ ℕ ℕ → Type 0
RunsOf number before commands answers after = Runs table_of (with_table number before) commands answers (with_table number after)

-- that finds all the memory that it wants
runs_of : (number : ℕ) (before : MachineState ℕ ℕ ℕ) (commands : List (Command ℕ))
    → Runs table_of (with_table number before) commands (answers_of table_of (with_table number before) commands).0 (answers_of table_of (with_table number before) commands).1
runs_of number before commands = runs_with_memory table_of (with_table number before) commands

-- a machine in which nothing waits, and which has sent nothing: its state and data, the latest moment and the next
-- number
abbrev at_rest : ℕ → ℕ → ℕ → ℕ → MachineState ℕ ℕ ℕ
at_rest state held latest next = record {
  id = id;
  state = state;
  «data» = held;
  schedule = record { pending = []; postponed = []; running = []; next_number = next };
  requests = [];
  outbox = first_outbox;
  latest = latest;
  ended = None;
}

-- a machine at which these items wait, and these numbers are postponed
abbrev with_items : MachineState ℕ ℕ ℕ → List (Item ℕ) → List ℕ → MachineState ℕ ℕ ℕ
with_items machine items postponed = record machine { schedule = record machine.schedule { pending = items; postponed = postponed } }

-- a machine at which these time-outs run
abbrev with_timers : MachineState ℕ ℕ ℕ → List (RunningTimeout ℕ) → MachineState ℕ ℕ ℕ
with_timers machine running = record machine { schedule = record machine.schedule { running = running } }

-- the machine of most examples, before its first event
abbrev fresh : MachineState ℕ ℕ ℕ
fresh = at_rest 0 7 0 1

-- a machine that has ended
abbrev at_end : MachineState ℕ ℕ ℕ → ℕ → ℕ → MachineState ℕ ℕ ℕ
at_end machine reason word = record machine { ended = Some (reason, word) }

abbrev cast_event : ℕ → ℕ → Event ℕ
cast_event number content = record { number = number; kind = kind.Cast; content = content }

-- the report of an event, by how it ended and with the numbers of what was inserted
abbrev report : ℕ → Kind → ℕ → ℕ → Done → List ℕ → Report ℕ
report number kind before after done inserted = record {
  event = Some number;
  done = done;
  calls = Handle number kind before ∷ [];
  before = before;
  after = after;
  replied = [];
  inserted = inserted;
  set = [];
  sent = [];
}

abbrev cast : ℕ → Command ℕ
cast content = command.Post Cast content

abbrev turn : ℕ → Command ℕ
turn now = command.Turn now

abbrev posted : ℕ → Answer ℕ ℕ
posted number = answer.Post (Ok number)

abbrev not_posted : Refusal → ℕ → Answer ℕ ℕ
not_posted refusal content = answer.Post (Err (record { refusal = refusal; value = content }))

abbrev reported : Report ℕ → Answer ℕ ℕ
reported report = answer.Turn (Ok (Reported report))

-- an event of a kind is finished, and nothing is inserted
abbrev finished_as : Kind → ℕ → ℕ → ℕ → Answer ℕ ℕ
finished_as kind number before after = reported (report number kind before after Finished [])

-- a cast is finished, and nothing is inserted
abbrev finished : ℕ → ℕ → ℕ → Answer ℕ ℕ
finished number before after = finished_as kind.Cast number before after

-- a cast is postponed, and events are inserted
abbrev put_off : ℕ → ℕ → ℕ → List ℕ → Answer ℕ ℕ
put_off number before after inserted = reported (report number kind.Cast before after PutOff inserted)

-- at a cast in the first state the machine ends for the reason 9, with a word
abbrev ended : ℕ → ℕ → Answer ℕ ℕ
ended number word = reported (record (report number kind.Cast 0 0 (Ended 9 word) []) {
  calls = Handle number kind.Cast 0 ∷ Terminate 9 0 word ∷ [];
})

abbrev idle : Answer ℕ ℕ
idle = answer.Turn (Ok Idle)

abbrev not_turned : Refusal → Answer ℕ ℕ
not_turned refusal = answer.Turn (Err refusal)

-- two casts, of which the first changes the state, and three turns: the casts come in the order in
-- which they were posted, and then there is none; an earlier moment counts as the latest
abbrev casts_and_turns : List (Command ℕ)
casts_and_turns = cast 3 ∷ cast 5 ∷ turn 20 ∷ turn 10 ∷ turn 30 ∷ []

two_casts : RunsOf 50 fresh casts_and_turns
    (posted 1 ∷ posted 2 ∷ finished 1 0 1 ∷ finished 2 1 1 ∷ idle ∷ [])
    (at_rest 1 7 30 3)
two_casts = runs_of 50 fresh casts_and_turns

-- an info that keeps both, with a reply that no request waits for and a hibernation, and a cast that
-- keeps the state and gives new data
abbrev info_and_cast : List (Command ℕ)
info_and_cast = command.Post Info 5 ∷ cast 4 ∷ turn 0 ∷ turn 0 ∷ []

data_changes : RunsOf 50 fresh info_and_cast
    (posted 1 ∷ posted 2 ∷ finished_as kind.Info 1 0 0 ∷ finished 2 0 0 ∷ [])
    (at_rest 0 9 0 3)
data_changes = runs_of 50 fresh info_and_cast

-- the last number is given, and the next post is refused and gives its content back
abbrev last_number : MachineState ℕ ℕ ℕ
last_number = at_rest 0 7 0 9223372036854775807

abbrev two_posts : List (Command ℕ)
two_posts = cast 5 ∷ cast 6 ∷ turn 0 ∷ turn 0 ∷ []

numbers_end : RunsOf 50 last_number two_posts
    (posted 9223372036854775807 ∷ not_posted Exhausted 6 ∷ finished 9223372036854775807 0 0 ∷ idle ∷ [])
    (at_rest 0 7 0 9223372036854775808)
numbers_end = runs_of 50 last_number two_posts

-- moments end too: a refused turn does not raise the latest moment, with an event or without
abbrev late_turns : List (Command ℕ)
late_turns = turn 9223372036854775808 ∷ cast 3 ∷ turn 9223372036854775808 ∷ turn 9223372036854775807 ∷ []

moments_end : RunsOf 50 fresh late_turns
    (not_turned Moment ∷ posted 1 ∷ not_turned Moment ∷ finished 1 0 1 ∷ [])
    (at_rest 1 7 9223372036854775807 2)
moments_end = runs_of 50 fresh late_turns

-- a post that finds no memory gives its content back and takes no number; an idle turn never does
no_memory : RunsOf 50 fresh
    (cast 5 ∷ cast 6 ∷ [])
    (not_posted NoMemory 5 ∷ posted 1 ∷ [])
    (with_items (at_rest 0 7 0 2) (Posted (cast_event 1 6) ∷ []) [])
no_memory = (with_table 50 fresh, inr (refl, refl, refl), runs_of 50 fresh (cast 6 ∷ []))

idle_takes_no_memory : takes_memory (step_of table fresh (turn 0)).0 ≡ false
idle_takes_no_memory = refl

-- two casts are postponed, the third changes the state, and then all come in the order in which they
-- were posted, before the fourth
abbrev posts_and_turns : List (Command ℕ)
posts_and_turns =
    cast 10 ∷ cast 10 ∷ cast 3 ∷ cast 0
    ∷ turn 0 ∷ turn 0 ∷ turn 0 ∷ turn 0 ∷ turn 0 ∷ turn 0 ∷ turn 0 ∷ []

postponed_casts_keep_their_places : RunsOf 50 fresh posts_and_turns
    (posted 1 ∷ posted 2 ∷ posted 3 ∷ posted 4
    ∷ put_off 1 0 0 [] ∷ put_off 2 0 0 [] ∷ finished 3 0 1
    ∷ finished 1 1 1 ∷ finished 2 1 1 ∷ finished 4 1 1 ∷ idle ∷ [])
    (at_rest 1 7 0 5)
postponed_casts_keep_their_places = runs_of 50 fresh posts_and_turns

-- while they are postponed, they keep their places and their numbers
abbrev first_turns : List (Command ℕ)
first_turns = cast 10 ∷ cast 10 ∷ cast 3 ∷ cast 0 ∷ turn 0 ∷ turn 0 ∷ []

casts_are_postponed : RunsOf 50 fresh first_turns
    (posted 1 ∷ posted 2 ∷ posted 3 ∷ posted 4 ∷ put_off 1 0 0 [] ∷ put_off 2 0 0 [] ∷ [])
    (with_items (at_rest 0 7 0 5) (Received (cast_event 1 10) ∷ Received (cast_event 2 10) ∷ Posted (cast_event 3 3) ∷ Posted (cast_event 4 0) ∷ []) (1 ∷ 2 ∷ []))
casts_are_postponed = runs_of 50 fresh first_turns

-- a machine with one event postponed, and another that was posted
abbrev one_postponed : ℕ → MachineState ℕ ℕ ℕ
one_postponed content = with_items (at_rest 0 7 0 3) (Received (cast_event 1 10) ∷ Posted (cast_event 2 content) ∷ []) (1 ∷ [])

abbrev first_of_two : ℕ → List (Command ℕ)
first_of_two content = cast 10 ∷ cast content ∷ turn 0 ∷ []

one_is_postponed : RunsOf 50 fresh (first_of_two 11)
    (posted 1 ∷ posted 2 ∷ put_off 1 0 0 [] ∷ [])
    (one_postponed 11)
one_is_postponed = runs_of 50 fresh (first_of_two 11)

abbrev six_turns : List (Command ℕ)
six_turns = turn 0 ∷ turn 0 ∷ turn 0 ∷ turn 0 ∷ turn 0 ∷ turn 0 ∷ []

abbrev retried_after_inserted : List (Answer ℕ ℕ)
retried_after_inserted =
    put_off 2 0 1 (3 ∷ 4 ∷ [])
    ∷ finished_as kind.Internal 3 1 1 ∷ finished 4 1 1 ∷ finished 1 1 1 ∷ finished 2 1 1 ∷ idle ∷ []

-- the second changes the state, is postponed itself and inserts two events: these come first, and then
-- the two that were postponed
inserted_come_before_retried : RunsOf 50 fresh (cast 10 ∷ cast 11 ∷ turn 0 ∷ six_turns)
    (posted 1 ∷ posted 2 ∷ put_off 1 0 0 [] ∷ retried_after_inserted)
    (at_rest 1 7 0 5)
inserted_come_before_retried = runs_of 50 fresh (cast 10 ∷ cast 11 ∷ turn 0 ∷ six_turns)

-- right after the second turn
inserted_are_placed : RunsOf 50 (one_postponed 11) (turn 0 ∷ [])
    (put_off 2 0 1 (3 ∷ 4 ∷ []) ∷ [])
    (with_items (at_rest 1 7 0 5) (Received (record { number = 3; kind = kind.Internal; content = 20 }) ∷ Received (cast_event 4 21)
    ∷ Received (cast_event 1 10) ∷ Received (cast_event 2 11) ∷ []) [])
inserted_are_placed = runs_of 50 (one_postponed 11) (turn 0 ∷ [])

-- a growth of the second turn is refused: the machine is as it was, and the turn tried again
-- answers the same
refused_growth : RunsOf 50 (one_postponed 11) (turn 0 ∷ six_turns)
    (not_turned NoMemory ∷ retried_after_inserted)
    (at_rest 1 7 0 5)
refused_growth = (with_table 50 (one_postponed 11), inr (refl, refl, refl), runs_of 50 (one_postponed 11) six_turns)

-- the same where both are kept: the two that are postponed go on waiting, the inserted ones come
abbrev five_turns : List (Command ℕ)
five_turns = turn 0 ∷ turn 0 ∷ turn 0 ∷ turn 0 ∷ turn 0 ∷ []

postponed_stay_without_a_change : RunsOf 50 fresh (cast 10 ∷ cast 12 ∷ five_turns)
    (posted 1 ∷ posted 2 ∷ put_off 1 0 0 [] ∷ put_off 2 0 0 (3 ∷ 4 ∷ [])
    ∷ finished_as kind.Internal 3 0 0 ∷ finished 4 0 0 ∷ idle ∷ [])
    (with_items (at_rest 0 7 0 5) (Received (cast_event 1 10) ∷ Received (cast_event 2 12) ∷ []) (1 ∷ 2 ∷ []))
postponed_stay_without_a_change = runs_of 50 fresh (cast 10 ∷ cast 12 ∷ five_turns)

-- events are inserted behind the postponed ones and before those that were posted
inserted_stand_behind_postponed : RunsOf 50 (one_postponed 12) (cast 0 ∷ turn 0 ∷ [])
    (posted 3 ∷ put_off 2 0 0 (4 ∷ 5 ∷ []) ∷ [])
    (with_items (at_rest 0 7 0 6) (Received (cast_event 1 10) ∷ Received (cast_event 2 12)
    ∷ Received (record { number = 4; kind = kind.Internal; content = 20 }) ∷ Received (cast_event 5 21)
    ∷ Posted (cast_event 3 0) ∷ []) (1 ∷ 2 ∷ []))
inserted_stand_behind_postponed = runs_of 50 (one_postponed 12) (cast 0 ∷ turn 0 ∷ [])

-- a NextState with the same state is no state change, and retries nothing
the_same_state_retries_nothing : RunsOf 50 (one_postponed 9) (turn 0 ∷ turn 0 ∷ [])
    (finished 2 0 0 ∷ idle ∷ [])
    (with_items (at_rest 0 7 0 3) (Received (cast_event 1 10) ∷ []) (1 ∷ []))
the_same_state_retries_nothing = runs_of 50 (one_postponed 9) (turn 0 ∷ turn 0 ∷ [])

-- of several Postpone actions the last decides, both ways
abbrev two_lists : List (Command ℕ)
two_lists = cast 13 ∷ cast 14 ∷ turn 0 ∷ turn 0 ∷ turn 0 ∷ []

the_last_postpone_decides : RunsOf 50 fresh two_lists
    (posted 1 ∷ posted 2 ∷ put_off 1 0 0 [] ∷ finished 2 0 0 ∷ idle ∷ [])
    (with_items (at_rest 0 7 0 3) (Received (cast_event 1 13) ∷ []) (1 ∷ []))
the_last_postpone_decides = runs_of 50 fresh two_lists

-- inserted events come before posted ones, whether these were posted before the insertion or after it
abbrev posts_round_inserts : List (Command ℕ)
posts_round_inserts =
    cast 7 ∷ cast 0 ∷ turn 0 ∷ cast 0 ∷ turn 0 ∷ turn 0 ∷ turn 0 ∷ turn 0 ∷ turn 0 ∷ []

inserted_come_before_posted : RunsOf 50 fresh posts_round_inserts
    (posted 1 ∷ posted 2 ∷ reported (report 1 kind.Cast 0 0 Finished (3 ∷ 4 ∷ [])) ∷ posted 5
    ∷ finished_as kind.Internal 3 0 0 ∷ finished 4 0 0 ∷ finished 2 0 0 ∷ finished 5 0 0 ∷ idle ∷ [])
    (at_rest 0 7 0 6)
inserted_come_before_posted = runs_of 50 fresh posts_round_inserts

-- what an inserted event inserts comes before what was inserted with it
abbrev nested_inserts : List (Command ℕ)
nested_inserts = cast 8 ∷ turn 0 ∷ turn 0 ∷ turn 0 ∷ turn 0 ∷ turn 0 ∷ turn 0 ∷ []

inserted_come_before_inserted : RunsOf 50 fresh nested_inserts
    (posted 1 ∷ reported (report 1 kind.Cast 0 0 Finished (2 ∷ 3 ∷ []))
    ∷ reported (report 2 kind.Internal 0 0 Finished (4 ∷ 5 ∷ []))
    ∷ finished_as kind.Internal 4 0 0 ∷ finished 5 0 0 ∷ finished 3 0 0 ∷ idle ∷ [])
    (at_rest 0 7 0 6)
inserted_come_before_inserted = runs_of 50 fresh nested_inserts

-- a stop from outside acts at once, while an event is postponed and others wait; from then on all is
-- refused with its reason, also at a moment out of range
abbrev stop_and_more : List (Command ℕ)
stop_and_more =
    cast 10 ∷ cast 0 ∷ cast 0 ∷ turn 5 ∷ command.Stop 9
    ∷ cast 6 ∷ turn 8 ∷ turn 9223372036854775808 ∷ command.Stop 4 ∷ []

stopped_from_outside : RunsOf 50 fresh stop_and_more
    (posted 1 ∷ posted 2 ∷ posted 3 ∷ put_off 1 0 0 [] ∷ answer.Stop (Ok 7)
    ∷ not_posted (refusal.Stopped 9) 6 ∷ not_turned (refusal.Stopped 9) ∷ not_turned (refusal.Stopped 9)
    ∷ answer.Stop (Err (refusal.Stopped 9)) ∷ [])
    (at_end (at_rest 0 7 5 4) 9 7)
stopped_from_outside = runs_of 50 fresh stop_and_more

-- a machine is ready where it runs and an event is not postponed; once it has ended nothing waits
posted_is_ready : is_ready_of (one_postponed 0) ≡ true
posted_is_ready = refl

abbrev only_postponed : MachineState ℕ ℕ ℕ
only_postponed = with_items (at_rest 0 7 0 2) (Received (cast_event 1 10) ∷ []) (1 ∷ [])

postponed_is_not_ready : is_ready_of only_postponed ≡ false
postponed_is_not_ready = refl

postponed_waits : waiting_of only_postponed ≡ 1
postponed_waits = refl

ended_is_not_ready : is_ready_of (stop_of table (one_postponed 0) 9).1 ≡ false
ended_is_not_ready = refl

nothing_waits_at_the_end : waiting_of (stop_of table (one_postponed 0) 9).1 ≡ 0
nothing_waits_at_the_end = refl

-- a stop takes no memory
stop_takes_no_memory : takes_memory (step_of table (one_postponed 0) (command.Stop 9)).0 ≡ false
stop_takes_no_memory = refl

-- a machine that has ended says so also where no number is left
abbrev post_stop_post : List (Command ℕ)
post_stop_post = cast 0 ∷ command.Stop 9 ∷ cast 6 ∷ []

stopped_before_exhausted : RunsOf 50 last_number post_stop_post
    (posted 9223372036854775807 ∷ answer.Stop (Ok 7) ∷ not_posted (refusal.Stopped 9) 6 ∷ [])
    (at_end (at_rest 0 7 0 9223372036854775808) 9 7)
stopped_before_exhausted = runs_of 50 last_number post_stop_post

-- a callback stops, with the old data and with new ones, and with a reply: what waits is dropped, and
-- the word is that of the data after it
abbrev stopping : ℕ → List (Command ℕ)
stopping content = cast 10 ∷ cast content ∷ cast 0 ∷ turn 5 ∷ turn 6 ∷ turn 8 ∷ command.Stop 4 ∷ []

abbrev stopping_answers : ℕ → List (Answer ℕ ℕ)
stopping_answers word =
    posted 1 ∷ posted 2 ∷ posted 3 ∷ put_off 1 0 0 [] ∷ ended 2 word
    ∷ not_turned (refusal.Stopped 9) ∷ answer.Stop (Err (refusal.Stopped 9)) ∷ []

stopped_with_old_data : RunsOf 50 fresh (stopping 15) (stopping_answers 7) (at_end (at_rest 0 7 6 4) 9 7)
stopped_with_old_data = runs_of 50 fresh (stopping 15)

stopped_with_new_data : RunsOf 50 fresh (stopping 16) (stopping_answers 8) (at_end (at_rest 0 8 6 4) 9 8)
stopped_with_new_data = runs_of 50 fresh (stopping 16)

stopped_with_a_reply : RunsOf 50 fresh (stopping 17) (stopping_answers 8) (at_end (at_rest 0 8 6 4) 9 8)
stopped_with_a_reply = runs_of 50 fresh (stopping 17)

-- a turn that inserts two events where one number is left: it is refused and all is as it was, the
-- latest moment included; a moment out of range is told first; the last number can still be given
abbrev one_number_too_few : MachineState ℕ ℕ ℕ
one_number_too_few = at_rest 0 7 3 9223372036854775806

abbrev too_many_inserts : List (Command ℕ)
too_many_inserts = cast 7 ∷ turn 20 ∷ turn 9223372036854775808 ∷ turn 30 ∷ cast 0 ∷ turn 40 ∷ []

inserts_need_numbers : RunsOf 50 one_number_too_few too_many_inserts
    (posted 9223372036854775806 ∷ not_turned Exhausted ∷ not_turned Moment ∷ not_turned Exhausted
    ∷ posted 9223372036854775807 ∷ not_turned Exhausted ∷ [])
    (with_items (at_rest 0 7 3 9223372036854775808) (Posted (cast_event 9223372036854775806 7) ∷ Posted (cast_event 9223372036854775807 0) ∷ []) [])
inserts_need_numbers = runs_of 50 one_number_too_few too_many_inserts

-- where two are left, they are the last
abbrev numbers_enough : MachineState ℕ ℕ ℕ
numbers_enough = at_rest 0 7 3 9223372036854775805

abbrev last_inserts : List (Command ℕ)
last_inserts = cast 7 ∷ turn 20 ∷ cast 6 ∷ turn 20 ∷ turn 20 ∷ turn 20 ∷ []

the_last_numbers_are_inserted : RunsOf 50 numbers_enough last_inserts
    (posted 9223372036854775805
    ∷ reported (report 9223372036854775805 kind.Cast 0 0 Finished (9223372036854775806 ∷ 9223372036854775807 ∷ []))
    ∷ not_posted Exhausted 6
    ∷ finished_as kind.Internal 9223372036854775806 0 0 ∷ finished 9223372036854775807 0 0 ∷ idle ∷ [])
    (at_rest 0 7 20 9223372036854775808)
the_last_numbers_are_inserted = runs_of 50 numbers_enough last_inserts

-- starts: running with a report, ignored, stopped, and refused at the first moment out of range
abbrev started : ℕ → ℕ → ℕ → Result (Start ℕ ℕ ℕ ℕ ℕ) (Refused ℕ)
started arg now first = start_of table 50 id (begun_by_table arg) now first

abbrev start_report : List ℕ → List (Timer × Decision) → Report ℕ
start_report inserted set = record {
  event = None;
  done = Started;
  calls = [];
  before = 0;
  after = 0;
  replied = [];
  inserted = inserted;
  set = set;
  sent = [];
}

start_runs : started 0 12 1 ≡ Ok (Running (record { module_ = 50; machine = at_rest 0 7 12 1 }) (start_report [] []))
start_runs = refl

start_stops : started 4 9223372036854775807 1 ≡ Ok (Stopped 4)
start_stops = refl

start_ignored : started 1 0 1 ≡ Ok Ignored
start_ignored = refl

start_too_late : started 4 9223372036854775808 1 ≡ Err (record { refusal = Moment; value = 50 })
start_too_late = refl

-- a start whose actions insert two events, which get numbers from the first one on; its Postpone is
-- ignored
abbrev two_received : ℕ → List (Item ℕ)
two_received first =
    Received (record { number = first; kind = kind.Internal; content = 20 }) ∷ Received (cast_event (first + 1) 21) ∷ []

start_inserts : started 3 12 5
    ≡ Ok (Running (record { module_ = 50; machine = with_items (at_rest 0 7 12 7) (two_received 5) [] }) (start_report (5 ∷ 6 ∷ []) []))
start_inserts = refl

-- they come before what is posted
abbrev after_start : List (Command ℕ)
after_start = cast 0 ∷ turn 0 ∷ turn 0 ∷ turn 0 ∷ turn 0 ∷ []

inserted_at_the_start_come_first : RunsOf 50 (with_items (at_rest 0 7 12 7) (two_received 5) []) after_start
    (posted 7 ∷ finished_as kind.Internal 5 0 0 ∷ finished 6 0 0 ∷ finished 7 0 0 ∷ idle ∷ [])
    (at_rest 0 7 12 8)
inserted_at_the_start_come_first = runs_of 50 (with_items (at_rest 0 7 12 7) (two_received 5) []) after_start

-- such a start needs two numbers; a moment out of range is told first
start_takes_the_last_numbers : started 3 12 9223372036854775806
    ≡ Ok (Running
    (record { module_ = 50; machine = with_items (at_rest 0 7 12 9223372036854775808) (two_received 9223372036854775806) [] })
    (start_report (9223372036854775806 ∷ 9223372036854775807 ∷ []) []))
start_takes_the_last_numbers = refl

start_without_numbers : started 3 12 9223372036854775807 ≡ Err (record { refusal = Exhausted; value = 50 })
start_without_numbers = refl

start_too_late_without_numbers : started 3 9223372036854775808 9223372036854775807 ≡ Err (record { refusal = Moment; value = 50 })
start_too_late_without_numbers = refl

-- want of memory may come before want of numbers, for `init` is called first
start_without_memory : Starts 50 (start_refused 50 NoMemory) (started 3 12 9223372036854775807)
start_without_memory = inr (refl, refl)

-- ---- time-outs
-- a time-out that runs, whose event has the content 0
abbrev runs : Timer → ℕ → Due → RunningTimeout ℕ
runs timer number due = record { timer = timer; number = number; due = due; content = 0 }

abbrev tick : ℕ → Command ℕ
tick now = command.Tick now

abbrev ticked : ℕ → Answer ℕ ℕ
ticked count = answer.Tick (Ok count)

-- a cast in the first state is finished, and timers are set
abbrev setting : ℕ → List (Timer × Decision) → Answer ℕ ℕ
setting number set = reported (record (report number kind.Cast 0 0 Finished []) { set = set })

-- the event of a timer is finished
abbrev lapsed : Timer → ℕ → ℕ → Answer ℕ ℕ
lapsed timer number state = finished_as (kind.Timeout timer) number state state

-- two time-outs that are due at once: the first that was requested comes, and it cancels that of the
-- event; the other way round both come
abbrev two_zero_set : List (Timer × Decision)
two_zero_set = (timer.State, decision.Set (After 0)) ∷ (timer.Event, decision.Set (After 0)) ∷ []

the_first_zero_cancels : RunsOf 50 fresh (cast 22 ∷ turn 0 ∷ turn 0 ∷ turn 0 ∷ [])
    (posted 1 ∷ setting 1 two_zero_set ∷ lapsed timer.State 2 0 ∷ idle ∷ [])
    (at_rest 0 7 0 4)
the_first_zero_cancels = runs_of 50 fresh (cast 22 ∷ turn 0 ∷ turn 0 ∷ turn 0 ∷ [])

both_zero_come : RunsOf 50 fresh (cast 23 ∷ turn 0 ∷ turn 0 ∷ turn 0 ∷ turn 0 ∷ [])
    (posted 1 ∷ setting 1 ((timer.Event, decision.Set (After 0)) ∷ (timer.State, decision.Set (After 0)) ∷ []) ∷ lapsed timer.Event 2 0 ∷ lapsed timer.State 3 0 ∷ idle ∷ [])
    (at_rest 0 7 0 4)
both_zero_come = runs_of 50 fresh (cast 23 ∷ turn 0 ∷ turn 0 ∷ turn 0 ∷ turn 0 ∷ [])

-- they run until they come, in the order of their requests, and no moment makes them expire
two_zero_run : RunsOf 50 fresh (cast 22 ∷ turn 4 ∷ tick 9 ∷ [])
    (posted 1 ∷ setting 1 two_zero_set ∷ ticked 0 ∷ [])
    (with_timers (at_rest 0 7 9 4) (runs timer.State 2 Zero ∷ runs timer.Event 3 Zero ∷ []))
two_zero_run = runs_of 50 fresh (cast 22 ∷ turn 4 ∷ tick 9 ∷ [])

-- a time-out that was set at the start has expired, and is stopped by an event before its expiry: the
-- expiry is gone, and the machine is not ready
abbrev one_timer : MachineState ℕ ℕ ℕ
one_timer = with_timers (at_rest 0 7 0 2) (runs (timer.Named 5) 1 (At 5) ∷ [])

start_sets : started 5 0 1
    ≡ Ok (Running (record { module_ = 50; machine = one_timer }) (start_report [] ((timer.Named 5, decision.Set (After 5)) ∷ [])))
start_sets = refl

expired_waits : RunsOf 50 one_timer (cast 24 ∷ tick 5 ∷ [])
    (posted 2 ∷ ticked 1 ∷ [])
    (with_timers (with_items (at_rest 0 7 5 3) (Posted (cast_event 2 24) ∷ Expiry (timer.Named 5) ∷ []) []) (runs (timer.Named 5) 1 (At 5) ∷ []))
expired_waits = runs_of 50 one_timer (cast 24 ∷ tick 5 ∷ [])

expired_is_stopped : RunsOf 50 one_timer (cast 24 ∷ tick 5 ∷ turn 5 ∷ turn 5 ∷ [])
    (posted 2 ∷ ticked 1 ∷ setting 2 ((timer.Named 5, decision.Set Infinity) ∷ []) ∷ idle ∷ [])
    (at_rest 0 7 5 3)
expired_is_stopped = runs_of 50 one_timer (cast 24 ∷ tick 5 ∷ turn 5 ∷ turn 5 ∷ [])

-- it is cancelled as it is stopped
expired_is_cancelled : RunsOf 50 one_timer (cast 46 ∷ tick 5 ∷ turn 5 ∷ turn 5 ∷ [])
    (posted 2 ∷ ticked 1 ∷ setting 2 ((timer.Named 5, decision.Cancel) ∷ []) ∷ idle ∷ [])
    (at_rest 0 7 5 3)
expired_is_cancelled = runs_of 50 one_timer (cast 46 ∷ tick 5 ∷ turn 5 ∷ turn 5 ∷ [])

-- its content is replaced: its number, its moment and its expiry stay, and its event has the content 4, at which the
-- data become 9
abbrev updated : Timer → ℕ → Due → RunningTimeout ℕ
updated timer number due = record { timer = timer; number = number; due = due; content = 4 }

expired_is_updated : RunsOf 50 one_timer (cast 43 ∷ tick 5 ∷ turn 5 ∷ [])
    (posted 2 ∷ ticked 1 ∷ setting 2 ((timer.Named 5, decision.Update) ∷ []) ∷ [])
    (with_timers (with_items (at_rest 0 7 5 3) (Expiry (timer.Named 5) ∷ []) []) (updated (timer.Named 5) 1 (At 5) ∷ []))
expired_is_updated = runs_of 50 one_timer (cast 43 ∷ tick 5 ∷ turn 5 ∷ [])

updated_comes : RunsOf 50 one_timer (cast 43 ∷ tick 5 ∷ turn 5 ∷ turn 5 ∷ [])
    (posted 2 ∷ ticked 1 ∷ setting 2 ((timer.Named 5, decision.Update) ∷ []) ∷ lapsed (timer.Named 5) 1 0 ∷ [])
    (at_rest 0 9 5 3)
updated_comes = runs_of 50 one_timer (cast 43 ∷ tick 5 ∷ turn 5 ∷ turn 5 ∷ [])

-- one that does not run is set for no time
none_is_updated : RunsOf 50 fresh (cast 43 ∷ turn 0 ∷ [])
    (posted 1 ∷ setting 1 ((timer.Named 5, decision.Update) ∷ []) ∷ [])
    (with_timers (at_rest 0 7 0 3) (updated (timer.Named 5) 2 Zero ∷ []))
none_is_updated = runs_of 50 fresh (cast 43 ∷ turn 0 ∷ [])

-- of a setting and an update the later decides
set_and_updated : RunsOf 50 fresh (cast 47 ∷ turn 0 ∷ cast 44 ∷ turn 0 ∷ [])
    (posted 1 ∷ setting 1 ((timer.Named 5, decision.Set (After 10)) ∷ []) ∷ posted 3 ∷ setting 3 ((timer.Named 5, decision.Update) ∷ []) ∷ [])
    (with_timers (at_rest 0 7 0 4) (updated (timer.Named 5) 2 (At 10) ∷ []))
set_and_updated = runs_of 50 fresh (cast 47 ∷ turn 0 ∷ cast 44 ∷ turn 0 ∷ [])

updated_and_set : RunsOf 50 fresh (cast 47 ∷ turn 0 ∷ cast 45 ∷ turn 0 ∷ [])
    (posted 1 ∷ setting 1 ((timer.Named 5, decision.Set (After 10)) ∷ []) ∷ posted 3 ∷ setting 3 ((timer.Named 5, decision.Set (After 20)) ∷ []) ∷ [])
    (with_timers (at_rest 0 7 0 5) (runs (timer.Named 5) 4 (At 20) ∷ []))
updated_and_set = runs_of 50 fresh (cast 47 ∷ turn 0 ∷ cast 45 ∷ turn 0 ∷ [])

-- the event's time-out runs no more when it is updated, nor does the state's at a state change
event_is_updated : RunsOf 50 fresh (cast 29 ∷ turn 0 ∷ cast 48 ∷ turn 0 ∷ [])
    (posted 1 ∷ setting 1 ((timer.Event, decision.Set (After 5)) ∷ []) ∷ posted 3 ∷ setting 3 ((timer.Event, decision.Update) ∷ []) ∷ [])
    (with_timers (at_rest 0 7 0 5) (updated timer.Event 4 Zero ∷ []))
event_is_updated = runs_of 50 fresh (cast 29 ∷ turn 0 ∷ cast 48 ∷ turn 0 ∷ [])

state_is_updated : RunsOf 50 fresh (cast 28 ∷ turn 0 ∷ cast 50 ∷ turn 0 ∷ [])
    (posted 1 ∷ setting 1 ((timer.State, decision.Set (After 5)) ∷ []) ∷ posted 3
    ∷ reported (record (report 3 kind.Cast 0 1 Finished []) { set = (timer.State, decision.Update) ∷ [] }) ∷ [])
    (with_timers (at_rest 1 7 0 5) (updated timer.State 4 Zero ∷ []))
state_is_updated = runs_of 50 fresh (cast 28 ∷ turn 0 ∷ cast 50 ∷ turn 0 ∷ [])

-- an update of a time-out that runs takes no number, and one that sets takes one
abbrev last_numbers : ℕ → MachineState ℕ ℕ ℕ
last_numbers next = with_timers (at_rest 0 7 0 next) (runs (timer.Named 5) 9223372036854775806 (At 5) ∷ [])

the_last_number_updates : RunsOf 50 (last_numbers 9223372036854775807) (cast 43 ∷ turn 0 ∷ [])
    (posted 9223372036854775807 ∷ setting 9223372036854775807 ((timer.Named 5, decision.Update) ∷ []) ∷ [])
    (with_timers (at_rest 0 7 0 9223372036854775808) (updated (timer.Named 5) 9223372036854775806 (At 5) ∷ []))
the_last_number_updates = runs_of 50 (last_numbers 9223372036854775807) (cast 43 ∷ turn 0 ∷ [])

no_number_for_an_update : RunsOf 50 (at_rest 0 7 0 9223372036854775807) (cast 43 ∷ turn 0 ∷ [])
    (posted 9223372036854775807 ∷ answer.Turn (Err Exhausted) ∷ [])
    (with_items (at_rest 0 7 0 9223372036854775808) (Posted (cast_event 9223372036854775807 43) ∷ []) [])
no_number_for_an_update = runs_of 50 (at_rest 0 7 0 9223372036854775807) (cast 43 ∷ turn 0 ∷ [])

-- an expiry does not count as waiting
expiry_is_no_event : waiting_of (with_items one_timer (Expiry (timer.Named 5) ∷ []) []) ≡ 0
expiry_is_no_event = refl

expiry_is_ready : is_ready_of (with_items one_timer (Expiry (timer.Named 5) ∷ []) []) ≡ true
expiry_is_ready = refl

-- the latest moment and the greatest time: the time-out is due beyond the last moment; the moment after
-- the last is refused
abbrev last_moment : MachineState ℕ ℕ ℕ
last_moment = with_timers (at_rest 0 7 9223372036854775807 2) (runs (timer.Named 1) 1 (At 9223372041149743102) ∷ [])

start_sets_late : started 6 9223372036854775807 1
    ≡ Ok (Running (record { module_ = 50; machine = last_moment }) (start_report [] ((timer.Named 1, decision.Set (After 4294967295)) ∷ [])))
start_sets_late = refl

timers_are_shown : timers_of last_moment ≡ (timer.Named 1, 1, At 9223372041149743102) ∷ []
timers_are_shown = refl

last_ticks : RunsOf 50 last_moment (tick 9223372036854775807 ∷ tick 9223372036854775808 ∷ [])
    (ticked 0 ∷ answer.Tick (Err Moment) ∷ [])
    last_moment
last_ticks = runs_of 50 last_moment (tick 9223372036854775807 ∷ tick 9223372036854775808 ∷ [])

-- three time-outs, two of them due at one moment: they come by moment and then by number
abbrev three_timers : MachineState ℕ ℕ ℕ
three_timers = with_timers (at_rest 0 7 0 4)
    (runs (timer.Named 1) 1 (At 20) ∷ runs (timer.Named 2) 2 (At 10) ∷ runs (timer.Named 3) 3 (At 20) ∷ [])

abbrev three_turns : List (Command ℕ)
three_turns = tick 20 ∷ turn 20 ∷ turn 20 ∷ turn 20 ∷ []

by_moment_and_number : RunsOf 50 three_timers three_turns
    (ticked 3 ∷ lapsed (timer.Named 2) 2 0 ∷ lapsed (timer.Named 1) 1 0 ∷ lapsed (timer.Named 3) 3 0 ∷ [])
    (at_rest 0 7 20 4)
by_moment_and_number = runs_of 50 three_timers three_turns

-- a state change cancels the old state time-out, and the one of the same actions runs
abbrev change_and_set : List (Command ℕ)
change_and_set = cast 28 ∷ cast 27 ∷ turn 0 ∷ turn 0 ∷ tick 5 ∷ []

the_new_state_time_out_runs : RunsOf 50 fresh change_and_set
    (posted 1 ∷ posted 2 ∷ setting 1 ((timer.State, decision.Set (After 5)) ∷ [])
    ∷ reported (record (report 2 kind.Cast 0 1 Finished []) { set = (timer.State, decision.Set (After 10)) ∷ [] }) ∷ ticked 0 ∷ [])
    (with_timers (at_rest 1 7 5 5) (runs timer.State 4 (At 10) ∷ []))
the_new_state_time_out_runs = runs_of 50 fresh change_and_set

-- the event of a zero time-out is postponed: it is an event from then on, in its place
abbrev lapsed_event : Event ℕ
lapsed_event = record { number = 2; kind = kind.Timeout (timer.Named 2); content = 10 }

a_zero_time_out_is_postponed : RunsOf 50 fresh (cast 30 ∷ cast 0 ∷ turn 0 ∷ turn 0 ∷ [])
    (posted 1 ∷ posted 2 ∷ setting 1 ((timer.Named 2, decision.Set (After 0)) ∷ []) ∷ reported (report 3 (kind.Timeout (timer.Named 2)) 0 0 PutOff []) ∷ [])
    (with_items (at_rest 0 7 0 4) (Received (record lapsed_event { number = 3 }) ∷ Posted (cast_event 2 0) ∷ []) (3 ∷ []))
a_zero_time_out_is_postponed = runs_of 50 fresh (cast 30 ∷ cast 0 ∷ turn 0 ∷ turn 0 ∷ [])

-- want of memory at a tick changes nothing; where nothing expires a tick takes none
tick_without_memory : RunsOf 50 one_timer (tick 5 ∷ tick 5 ∷ [])
    (answer.Tick (Err NoMemory) ∷ ticked 1 ∷ [])
    (with_items (with_timers (at_rest 0 7 5 2) (runs (timer.Named 5) 1 (At 5) ∷ [])) (Expiry (timer.Named 5) ∷ []) [])
tick_without_memory = (with_table 50 one_timer, inr (refl, refl, refl), runs_of 50 one_timer (tick 5 ∷ []))

tick_takes_no_memory : takes_memory (step_of table one_timer (tick 4)).0 ≡ false
tick_takes_no_memory = refl

-- once it has ended, no time-out runs, and a tick is refused
tick_after_the_end : RunsOf 50 one_timer (command.Stop 9 ∷ tick 5 ∷ [])
    (answer.Stop (Ok 7) ∷ answer.Tick (Err (refusal.Stopped 9)) ∷ [])
    (at_end (at_rest 0 7 0 2) 9 7)
tick_after_the_end = runs_of 50 one_timer (command.Stop 9 ∷ tick 5 ∷ [])

-- time-outs that begin need numbers, one that is stopped does not
two_numbers_are_lacking : RunsOf 50 (at_rest 0 7 0 9223372036854775806) (cast 22 ∷ turn 4 ∷ [])
    (posted 9223372036854775806 ∷ not_turned Exhausted ∷ [])
    (with_items (at_rest 0 7 0 9223372036854775807) (Posted (cast_event 9223372036854775806 22) ∷ []) [])
two_numbers_are_lacking = runs_of 50 (at_rest 0 7 0 9223372036854775806) (cast 22 ∷ turn 4 ∷ [])

-- ---- enter calls and repeated states
-- a start with enter calls: the first state is entered, with itself as the old one
abbrev started_as : ℕ → Result (Start ℕ ℕ ℕ ℕ ℕ) (Refused ℕ)
started_as number = start_of (table_of number) number id (begun_by_table 0) 0 1

first_entered : started_as 60
    ≡ Ok (Running (record { module_ = 60; machine = fresh }) (record (start_report [] []) { calls = Enter 0 0 ∷ [] }))
first_entered = refl

-- the first enter call stops: there is a machine, which has ended
first_stops : started_as 70
    ≡ Ok (Running (record { module_ = 70; machine = at_end fresh 4 7 })
    (record (start_report [] []) { done = Ended 4 7; calls = Enter 0 0 ∷ Terminate 4 0 7 ∷ [] }))
first_stops = refl

-- its actions follow those of `init`
first_sets : started_as 62
    ≡ Ok (Running (record { module_ = 62; machine = with_timers (at_rest 0 7 0 3) (runs timer.State 1 (At 20) ∷ runs (timer.Named 1) 2 (At 9) ∷ []) })
    (record (start_report [] ((timer.State, decision.Set (After 20)) ∷ (timer.Named 1, decision.Set (After 9)) ∷ [])) { calls = Enter 0 0 ∷ [] }))
first_sets = refl

-- a cast is finished, and its state entered
abbrev entered : ℕ → ℕ → ℕ → Answer ℕ ℕ
entered number before after = reported (record (report number kind.Cast before after Finished []) {
  calls = Handle number kind.Cast before ∷ Enter before after ∷ [];
})

-- a state that is the same is not entered, and nothing is retried
abbrev same_again : List (Command ℕ)
same_again = cast 10 ∷ turn 0 ∷ cast 9 ∷ turn 0 ∷ turn 0 ∷ []

same_state_not_entered : RunsOf 60 fresh same_again
    (posted 1 ∷ put_off 1 0 0 [] ∷ posted 2 ∷ finished 2 0 0 ∷ idle ∷ [])
    (with_items (at_rest 0 7 0 3) (Received (cast_event 1 10) ∷ []) (1 ∷ []))
same_state_not_entered = runs_of 60 fresh same_again

-- a state that is repeated is entered, and nothing is retried
abbrev repeated : List (Command ℕ)
repeated = cast 10 ∷ turn 0 ∷ cast 32 ∷ turn 0 ∷ cast 33 ∷ turn 0 ∷ turn 0 ∷ []

repeated_state_entered : RunsOf 60 fresh repeated
    (posted 1 ∷ put_off 1 0 0 [] ∷ posted 2 ∷ entered 2 0 0 ∷ posted 3 ∷ entered 3 0 0 ∷ idle ∷ [])
    (with_items (at_rest 0 9 0 4) (Received (cast_event 1 10) ∷ []) (1 ∷ []))
repeated_state_entered = runs_of 60 fresh repeated

-- without enter calls it is kept
repeated_state_kept : RunsOf 50 fresh repeated
    (posted 1 ∷ put_off 1 0 0 [] ∷ posted 2 ∷ finished 2 0 0 ∷ posted 3 ∷ finished 3 0 0 ∷ idle ∷ [])
    (with_items (at_rest 0 9 0 4) (Received (cast_event 1 10) ∷ []) (1 ∷ []))
repeated_state_kept = runs_of 50 fresh repeated

-- its time-out runs on
repeated_state_times_out : RunsOf 60 fresh (cast 28 ∷ turn 0 ∷ cast 32 ∷ turn 3 ∷ tick 5 ∷ [])
    (posted 1 ∷ setting 1 ((timer.State, decision.Set (After 5)) ∷ []) ∷ posted 3 ∷ entered 3 0 0 ∷ ticked 1 ∷ [])
    (with_timers (with_items (at_rest 0 7 5 4) (Expiry timer.State ∷ []) []) (runs timer.State 2 (At 5) ∷ []))
repeated_state_times_out = runs_of 60 fresh (cast 28 ∷ turn 0 ∷ cast 32 ∷ turn 3 ∷ tick 5 ∷ [])

-- the enter call is handed the old state and then the new one
entered_from : RunsOf 61 fresh (cast 3 ∷ turn 0 ∷ cast 9 ∷ turn 0 ∷ [])
    (posted 1 ∷ entered 1 0 1 ∷ posted 2 ∷ entered 2 1 0 ∷ [])
    (at_rest 0 32 0 3)
entered_from = runs_of 61 fresh (cast 3 ∷ turn 0 ∷ cast 9 ∷ turn 0 ∷ [])

-- it is handed the new data
entered_with_new_data : RunsOf 64 fresh (cast 34 ∷ turn 0 ∷ [])
    (posted 1 ∷ entered 1 0 2 ∷ [])
    (at_rest 2 40 0 2)
entered_with_new_data = runs_of 64 fresh (cast 34 ∷ turn 0 ∷ [])

-- its actions follow those of the event, as if in one list: the event is postponed, and of a timer the
-- later request decides
both_lists : RunsOf 62 fresh (cast 35 ∷ turn 4 ∷ [])
    (posted 1
    ∷ reported (record (report 1 kind.Cast 0 1 PutOff []) {
      calls = Handle 1 kind.Cast 0 ∷ Enter 0 1 ∷ [];
      set = (timer.Named 2, decision.Set (After 5)) ∷ (timer.State, decision.Set (After 20)) ∷ (timer.Named 1, decision.Set (After 9)) ∷ [];
    }) ∷ [])
    (with_timers (with_items (at_rest 1 7 4 5) (Received (cast_event 1 35) ∷ []) [])
    (runs (timer.Named 2) 2 (At 9) ∷ runs timer.State 3 (At 24) ∷ runs (timer.Named 1) 4 (At 13) ∷ []))
both_lists = runs_of 62 fresh (cast 35 ∷ turn 4 ∷ [])

-- it stops: the new state stands, with the data of the enter call or else of `handle`
abbrev stops_at : ℕ → Answer ℕ ℕ
stops_at held = reported (record (report 1 kind.Cast 0 2 (Ended 4 held) []) {
  calls = Handle 1 kind.Cast 0 ∷ Enter 0 2 ∷ Terminate 4 2 held ∷ [];
})

entering_stops_with_data : RunsOf 71 fresh (cast 34 ∷ turn 0 ∷ []) (posted 1 ∷ stops_at 8 ∷ []) (at_end (at_rest 2 8 0 2) 4 8)
entering_stops_with_data = runs_of 71 fresh (cast 34 ∷ turn 0 ∷ [])

entering_stops : RunsOf 72 fresh (cast 34 ∷ turn 0 ∷ []) (posted 1 ∷ stops_at 9 ∷ []) (at_end (at_rest 2 9 0 2) 4 9)
entering_stops = runs_of 72 fresh (cast 34 ∷ turn 0 ∷ [])

-- ---- requests
abbrev call : ℕ → Command ℕ
call content = command.Post Call content

-- the tag of the call whose event has this number
abbrev tag_of : ℕ → Tag
tag_of request = record { machine = id; request = request }

abbrev reply : ℕ → ℕ → Command ℕ
reply request content = command.Reply (tag_of request) content

abbrev collect : ℕ → Command ℕ
collect request = command.Collect (tag_of request)

abbrev collected_reply : ℕ → Answer ℕ ℕ
collected_reply content = answer.Collect (collected.Reply content)

-- a call is handled in a state that leads to another, and these requests are answered
abbrev replying : ℕ → ℕ → ℕ → List Tag → Report ℕ
replying number before after replied = record (report number (kind.Call (tag_of number)) before after Finished []) { replied = replied }

-- three calls wait, and the second is answered from outside; the first stops with a reply to itself and
-- one to the second, which is answered; the third is closed. What is kept is collected once
abbrev three_calls : List (Command ℕ)
three_calls = call 37 ∷ call 0 ∷ call 0 ∷ reply 2 50 ∷ turn 0 ∷ collect 1 ∷ collect 2 ∷ collect 3 ∷ collect 3 ∷ []

a_stop_answers_some_and_closes_the_others : RunsOf 50 fresh three_calls
    (posted 1 ∷ posted 2 ∷ posted 3 ∷ answer.Reply true
    ∷ reported (record (replying 1 0 0 (tag_of 1 ∷ [])) {
      done = Ended 9 7;
      calls = Handle 1 (kind.Call (tag_of 1)) 0 ∷ Terminate 9 0 7 ∷ [];
    })
    ∷ collected_reply 40 ∷ collected_reply 50 ∷ answer.Collect (collected.Stopped 9) ∷ answer.Collect collected.Gone ∷ [])
    (at_end (at_rest 0 7 0 4) 9 7)
a_stop_answers_some_and_closes_the_others = runs_of 50 fresh three_calls

-- a request waits until it is answered; the second reply, from the same list or later, is not taken
abbrev two_replies : List (Command ℕ)
two_replies = call 39 ∷ collect 1 ∷ turn 0 ∷ reply 1 8 ∷ collect 1 ∷ collect 1 ∷ reply 1 9 ∷ []

the_first_reply_counts : RunsOf 50 fresh two_replies
    (posted 1 ∷ answer.Collect collected.Waiting ∷ reported (replying 1 0 0 (tag_of 1 ∷ [])) ∷ answer.Reply false ∷ collected_reply 50
    ∷ answer.Collect collected.Gone ∷ answer.Reply false ∷ [])
    (at_rest 0 7 0 2)
the_first_reply_counts = runs_of 50 fresh two_replies

-- a tag that is that of a cast, one that was not given, one of another machine
abbrev strays : List (Command ℕ)
strays = cast 0 ∷ reply 1 5 ∷ reply 3 5 ∷ command.Reply foreign_tag 5 ∷ collect 1 ∷ command.Collect foreign_tag ∷ []

strays_do_nothing : RunsOf 50 fresh strays
    (posted 1 ∷ answer.Reply false ∷ answer.Reply false ∷ answer.Reply false ∷ answer.Collect collected.Gone ∷ answer.Collect collected.Gone ∷ [])
    (with_items (at_rest 0 7 0 2) (Posted (cast_event 1 0) ∷ []) [])
strays_do_nothing = runs_of 50 fresh strays

-- the replies of `handle` come before those of `enter`, also where the enter call stops
abbrev both_reply : List (Command ℕ)
both_reply = call 38 ∷ call 0 ∷ turn 0 ∷ collect 1 ∷ collect 2 ∷ []

enter_replies_later : RunsOf 65 fresh both_reply
    (posted 1 ∷ posted 2
    ∷ reported (record (replying 1 0 1 (tag_of 2 ∷ tag_of 1 ∷ [])) { calls = Handle 1 (kind.Call (tag_of 1)) 0 ∷ Enter 0 1 ∷ [] })
    ∷ collected_reply 62 ∷ collected_reply 52 ∷ [])
    (with_items (at_rest 1 7 0 3) (Posted (record { number = 2; kind = kind.Call (tag_of 2); content = 0 }) ∷ []) [])
enter_replies_later = runs_of 65 fresh both_reply

enter_stops_with_replies : RunsOf 71 fresh both_reply
    (posted 1 ∷ posted 2
    ∷ reported (record (replying 1 0 1 (tag_of 2 ∷ tag_of 1 ∷ [])) {
      done = Ended 4 8;
      calls = Handle 1 (kind.Call (tag_of 1)) 0 ∷ Enter 0 1 ∷ Terminate 4 1 8 ∷ [];
    })
    ∷ collected_reply 61 ∷ collected_reply 52 ∷ [])
    (at_end (at_rest 1 8 0 3) 4 8)
enter_stops_with_replies = runs_of 71 fresh both_reply

-- a stop from outside closes the request that is open, and keeps the reply that is there; it takes no memory
abbrev calls_and_stop : List (Command ℕ)
calls_and_stop = call 0 ∷ call 0 ∷ reply 1 6 ∷ command.Stop 5 ∷ reply 2 6 ∷ collect 2 ∷ collect 1 ∷ []

a_stop_keeps_what_is_kept : RunsOf 50 fresh calls_and_stop
    (posted 1 ∷ posted 2 ∷ answer.Reply true ∷ answer.Stop (Ok 7) ∷ answer.Reply false ∷ answer.Collect (collected.Stopped 5) ∷ collected_reply 6 ∷ [])
    (at_end (at_rest 0 7 0 3) 5 7)
a_stop_keeps_what_is_kept = runs_of 50 fresh calls_and_stop

a_reply_takes_no_memory : takes_memory (step_of table fresh (reply 1 6)).0 ≡ false
a_reply_takes_no_memory = refl

a_collect_takes_no_memory : takes_memory (step_of table fresh (collect 1)).0 ≡ false
a_collect_takes_no_memory = refl

-- ---- messages
abbrev take_out : Command ℕ
take_out = command.TakeOut

-- a message of the machine
abbrev message : ℕ → MachineId → ℕ → Message ℕ
message number target content = record { sender = id; number = number; target = target; content = content }

-- it is taken out
abbrev taken : ℕ → MachineId → ℕ → Answer ℕ ℕ
taken number target content = answer.TakeOut (Some (message number target content))

abbrev none_taken : Answer ℕ ℕ
none_taken = answer.TakeOut None

-- a cast in the first state is finished, and messages with these numbers are sent
abbrev sending : ℕ → List ℕ → Answer ℕ ℕ
sending number sent = reported (record (report number kind.Cast 0 0 Finished []) { sent = sent })

-- a machine with messages that were not taken out yet, and the number that its next message gets
abbrev with_outbox : MachineState ℕ ℕ ℕ → List (Message ℕ) → ℕ → MachineState ℕ ℕ ℕ
with_outbox machine messages next = record machine { outbox = record { messages = messages; next_number = next } }

-- two messages are sent, in the order of their actions
abbrev two_messages : List (Message ℕ)
two_messages = message 1 other_machine 5 ∷ message 2 third_machine 6 ∷ []

abbrev with_two : MachineState ℕ ℕ ℕ → MachineState ℕ ℕ ℕ
with_two machine = with_outbox machine two_messages 3

messages_are_sent : RunsOf 50 fresh (cast 52 ∷ turn 0 ∷ []) (posted 1 ∷ sending 1 (1 ∷ 2 ∷ []) ∷ []) (with_two (at_rest 0 7 0 2))
messages_are_sent = runs_of 50 fresh (cast 52 ∷ turn 0 ∷ [])

-- one is taken out, the other after the end, and then there is none
abbrev sent_and_taken : List (Command ℕ)
sent_and_taken = cast 52 ∷ turn 0 ∷ take_out ∷ command.Stop 4 ∷ turn 0 ∷ take_out ∷ take_out ∷ []

messages_are_taken_out : RunsOf 50 fresh sent_and_taken
    (posted 1 ∷ sending 1 (1 ∷ 2 ∷ []) ∷ taken 1 other_machine 5 ∷ answer.Stop (Ok 7)
    ∷ not_turned (refusal.Stopped 4) ∷ taken 2 third_machine 6 ∷ none_taken ∷ [])
    (at_end (with_outbox (at_rest 0 7 0 2) [] 3) 4 7)
messages_are_taken_out = runs_of 50 fresh sent_and_taken

-- a machine is ready while it has a message, also after its end, though a turn finds no event; without one it rests
message_is_ready : is_ready_of (with_two (at_rest 0 7 0 2)) ≡ true
message_is_ready = refl

message_is_ready_after_the_end : is_ready_of (at_end (with_two (at_rest 0 7 0 2)) 4 7) ≡ true
message_is_ready_after_the_end = refl

message_is_no_event : has_event_of (with_two (at_rest 0 7 0 2)) ≡ false
message_is_no_event = refl

message_does_not_wait : waiting_of (with_two (at_rest 0 7 0 2)) ≡ 0
message_does_not_wait = refl

rests_without_message : is_ready_of (with_outbox (at_rest 0 7 0 2) [] 3) ≡ false
rests_without_message = refl

a_turn_finds_no_message : RunsOf 50 (with_two (at_rest 0 7 0 2)) (turn 4 ∷ []) (idle ∷ []) (with_two (at_rest 0 7 4 2))
a_turn_finds_no_message = runs_of 50 (with_two (at_rest 0 7 0 2)) (turn 4 ∷ [])

-- with an event, a time-out and a message, whatever their order in the list
one_of_each_is_sent : RunsOf 50 fresh (cast 53 ∷ turn 3 ∷ [])
    (posted 1
    ∷ reported (record (report 1 kind.Cast 0 1 Finished (2 ∷ [])) {
      set = (timer.Named 5, decision.Set (After 5)) ∷ [];
      sent = 1 ∷ [];
    }) ∷ [])
    (with_outbox
    (with_timers (with_items (at_rest 1 7 3 4) (Received (record { number = 2; kind = kind.Internal; content = 20 }) ∷ []) [])
    (runs (timer.Named 5) 3 (At 8) ∷ []))
    (message 1 other_machine 7 ∷ [])
    2)
one_of_each_is_sent = runs_of 50 fresh (cast 53 ∷ turn 3 ∷ [])

-- a turn that stops sends nothing, and what was sent stays; nor does one whose enter call stops
a_stop_sends_nothing : RunsOf 50 (with_two fresh) (cast 15 ∷ turn 0 ∷ []) (posted 1 ∷ ended 1 7 ∷ []) (at_end (with_two (at_rest 0 7 0 2)) 9 7)
a_stop_sends_nothing = runs_of 50 (with_two fresh) (cast 15 ∷ turn 0 ∷ [])

entering_stops_and_sends_nothing : RunsOf 72 (with_two fresh) (cast 53 ∷ turn 0 ∷ [])
    (posted 1
    ∷ reported (record (report 1 kind.Cast 0 1 (Ended 4 7) []) {
      calls = Handle 1 kind.Cast 0 ∷ Enter 0 1 ∷ Terminate 4 1 7 ∷ [];
    }) ∷ [])
    (at_end (with_two (at_rest 1 7 0 2)) 4 7)
entering_stops_and_sends_nothing = runs_of 72 (with_two fresh) (cast 53 ∷ turn 0 ∷ [])

-- the messages of a start are numbered from 1 on
start_sends : started 12 0 1
    ≡ Ok (Running
    (record { module_ = 50; machine = with_outbox (at_rest 0 7 0 1) (message 1 other_machine 5 ∷ []) 2 })
    (record (start_report [] []) { sent = 1 ∷ [] }))
start_sends = refl

-- one message number is left: a turn that sends two is refused, and all is as it was; one that sends one is not
abbrev one_message_left : MachineState ℕ ℕ ℕ
one_message_left = with_outbox fresh [] 9223372036854775807

message_numbers_end : RunsOf 50 one_message_left (cast 52 ∷ turn 4 ∷ take_out ∷ [])
    (posted 1 ∷ not_turned Exhausted ∷ none_taken ∷ [])
    (with_items (with_outbox (at_rest 0 7 0 2) [] 9223372036854775807) (Posted (cast_event 1 52) ∷ []) [])
message_numbers_end = runs_of 50 one_message_left (cast 52 ∷ turn 4 ∷ take_out ∷ [])

the_last_message_is_sent : RunsOf 50 one_message_left (cast 55 ∷ turn 4 ∷ take_out ∷ cast 55 ∷ turn 5 ∷ [])
    (posted 1 ∷ sending 1 (9223372036854775807 ∷ []) ∷ taken 9223372036854775807 other_machine 8 ∷ posted 2 ∷ not_turned Exhausted ∷ [])
    (with_items (with_outbox (at_rest 0 7 4 3) [] 9223372036854775808) (Posted (cast_event 2 55) ∷ []) [])
the_last_message_is_sent = runs_of 50 one_message_left (cast 55 ∷ turn 4 ∷ take_out ∷ cast 55 ∷ turn 5 ∷ [])

-- a take-out takes no memory
a_take_out_takes_no_memory : takes_memory (step_of table (with_two fresh) take_out).0 ≡ false
a_take_out_takes_no_memory = refl

-- a turn that sends and finds no memory sends nothing, and tried again it sends the same
abbrev about_to_send : MachineState ℕ ℕ ℕ
about_to_send = with_items (at_rest 0 7 0 2) (Posted (cast_event 1 52) ∷ []) []

sent_once : RunsOf 50 about_to_send (turn 0 ∷ turn 0 ∷ [])
    (not_turned NoMemory ∷ sending 1 (1 ∷ 2 ∷ []) ∷ [])
    (with_two (at_rest 0 7 0 2))
sent_once = (with_table 50 about_to_send, inr (refl, refl, refl), runs_of 50 about_to_send (turn 0 ∷ []))

-- ---- the accounting
-- a postponed cast, one that inserts two and is postponed, a time-out: what is accepted and what is finished
abbrev counted : List (Answer ℕ ℕ)
counted = posted 1 ∷ posted 2 ∷ put_off 1 0 0 [] ∷ put_off 2 0 1 (3 ∷ 4 ∷ []) ∷ finished_as kind.Internal 3 1 1 ∷ answer.Tick (Ok 1) ∷ finished_as (kind.Timeout timer.State) 5 1 1 ∷ idle ∷ []

accepted_numbers : accepted_in counted ≡ 1 ∷ 2 ∷ 1 ∷ 2 ∷ 3 ∷ 4 ∷ 3 ∷ 5 ∷ []
accepted_numbers = refl

finished_numbers : finished_in counted ≡ 3 ∷ 5 ∷ []
finished_numbers = refl
