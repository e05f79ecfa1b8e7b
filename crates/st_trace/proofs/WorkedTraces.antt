-- Traces computed on examples, byte by byte.
use Rattle.std.proofs.Common.{◌≡◌, ℕ, Bool, true, false, Some, Ok, List, [], ◌∷◌, ◌++◌, codes, length, ◌+◌, refl}
use Rattle.std.specs.Fmt.{digits}
use Rattle.st_events.specs.declared.kind.Kind.{Kind}
use Rattle.st_events.specs.declared.kind.Kind.TheVariants as kind
use Rattle.st_events.specs.declared.machine_id.MachineId.{MachineId}
use Rattle.st_events.specs.declared.tag.Tag.{Tag}
use Rattle.st_events.specs.declared.decision.Decision.{Decision}
use Rattle.st_events.specs.declared.decision.Decision.TheVariants as decision
use Rattle.st_events.specs.declared.time.Time.TheVariants.{After}
use Rattle.st_events.specs.declared.timer.Timer.{Timer}
use Rattle.st_events.specs.declared.timer.Timer.TheVariants as timer
use Rattle.st_requests.specs.declared.collected.Collected.TheVariants as collected
use Rattle.st_answers.specs.declared.answer.Answer.{Answer}
use Rattle.st_answers.specs.declared.answer.Answer.TheVariants as answer
use Rattle.st_answers.specs.declared.call.Call.TheVariants.{Handle}
use Rattle.st_answers.specs.declared.command.Command.{Command}
use Rattle.st_answers.specs.declared.command.Command.TheVariants as command
use Rattle.st_answers.specs.declared.done.Done.{Done}
use Rattle.st_answers.specs.declared.done.Done.TheVariants.{Finished, PutOff, Ended}
use Rattle.st_answers.specs.declared.entry.Entry.{Entry}
use Rattle.st_answers.specs.declared.entry.Entry.TheVariants as entry
use Rattle.st_answers.specs.declared.turned.Turned.TheVariants.{Reported}
use Rattle.st_journal.specs.declared.journal_entry.JournalEntry.{JournalEntry}
use Rattle.st_journal.specs.declared.source.Source.TheVariants as source
use Rattle.st_trace.specs.Trace.{entry_line, trace_of}
use Rattle.st_trace.specs.Totals.{totals_of}

-- a state is whether a door is open
abbrev names : Bool → List ℕ
names true = codes "open"
names false = codes "locked"

abbrev locked : Bool
locked = false

abbrev opened : Bool
opened = true

abbrev id : MachineId
id = record { slot = 0; serial = 1 }

-- an entry, by its number, of an event that port 1 posted, which got a number
abbrev posts : ℕ → Entry → ℕ → JournalEntry Bool ℕ
posts place how number = record { number = place; source = source.Port 1; command = command.Post how 7; answer = answer.Post (Ok number) }

-- the event time-out is set
abbrev event_timer : List (Timer × Decision)
event_timer = (timer.Event, decision.Set (After 30000)) ∷ []

-- the state time-out is set
abbrev state_timer : List (Timer × Decision)
state_timer = (timer.State, decision.Set (After 10000)) ∷ []

-- an entry of a turn at a moment, by its number: the event's number and kind, the states before and after it, how it ended, and
-- the timers that it set
abbrev turns : ℕ → ℕ → ℕ → Kind → Bool → Bool → Done → List (Timer × Decision) → JournalEntry Bool ℕ
turns place now number kind before after done set = record {
  number = place;
  source = source.Caller;
  command = command.Turn now;
  answer = answer.Turn (Ok (Reported (record {
    event = Some number;
    done = done;
    calls = Handle number kind before ∷ [];
    before = before;
    after = after;
    replied = [];
    inserted = [];
    set = set;
    sent = [];
  })));
}

-- an entry that is no post and no turn
abbrev tells : ℕ → Command ℕ → Answer Bool ℕ → JournalEntry Bool ℕ
tells place told answered = record { number = place; source = source.Caller; command = told; answer = answered }

-- ---- one button of a door with a code of two
abbrev one_button : List (JournalEntry Bool ℕ)
one_button = posts 1 entry.Cast 1 ∷ turns 2 0 1 kind.Cast locked locked Finished event_timer ∷ []

one_button_is : trace_of id (codes "front") 0 one_button names
    ≡ codes "machine 0 1 front\n"
    ++ codes "         1      1 post                      -          1 cast\n"
    ++ codes "         2      - turn                      0          1 cast locked locked finished 0 0 1\n"
    ++ codes "summary posts 1 turns 1 finished 1 put_off 0\n"
unfolding digits
one_button_is = refl

-- ---- two buttons open it, and after ten seconds it is locked again
abbrev two_buttons : List (JournalEntry Bool ℕ)
two_buttons =
    posts 1 entry.Cast 1
    ∷ turns 2 0 1 kind.Cast locked locked Finished event_timer
    ∷ posts 3 entry.Cast 3
    ∷ turns 4 0 3 kind.Cast locked opened Finished state_timer
    ∷ tells 5 (command.Tick 10000) (answer.Tick (Ok 1))
    ∷ turns 6 10000 4 (kind.Timeout timer.State) opened locked Finished [] ∷ []

two_buttons_are : trace_of id (codes "front") 0 two_buttons names
    ≡ codes "machine 0 1 front\n"
    ++ codes "         1      1 post                      -          1 cast\n"
    ++ codes "         2      - turn                      0          1 cast locked locked finished 0 0 1\n"
    ++ codes "         3      1 post                      -          3 cast\n"
    ++ codes "         4      - turn                      0          3 cast locked open finished 0 0 1\n"
    ++ codes "         5      - tick                  10000          1 -\n"
    ++ codes "         6      - turn                  10000          4 state_timeout open locked finished 0 0 0\n"
    ++ codes "summary posts 2 turns 3 finished 3 put_off 0\n"
unfolding digits
two_buttons_are = refl

-- ---- what is left of it after a cut: the numbers go on
abbrev after_a_cut : List (JournalEntry Bool ℕ)
after_a_cut =
    tells 5 (command.Tick 10000) (answer.Tick (Ok 1))
    ∷ turns 6 10000 4 (kind.Timeout timer.State) opened locked Finished [] ∷ []

after_a_cut_is : trace_of id (codes "front") 0 after_a_cut names
    ≡ codes "machine 0 1 front\n"
    ++ codes "         5      - tick                  10000          1 -\n"
    ++ codes "         6      - turn                  10000          4 state_timeout open locked finished 0 0 0\n"
    ++ codes "summary posts 0 turns 1 finished 1 put_off 0\n"
unfolding digits
after_a_cut_is = refl

-- ---- single lines
-- a line whose rest has four bytes has 61
length_of_a_line : length (entry_line names 0 (posts 1 entry.Cast 1)) ≡ 61 + 1
unfolding digits
length_of_a_line = refl

-- a moment that goes back is not shown: the latest is
goes_back : trace_of id (codes "front") 20 (tells 7 (command.Tick 10) (answer.Tick (Ok 0)) ∷ []) names
    ≡ codes "machine 0 1 front\n"
    ++ codes "         7      - tick                     20          0 -\n"
    ++ codes "summary posts 0 turns 0 finished 0 put_off 0\n"
unfolding digits
goes_back = refl

-- a number that is longer than its column takes the bytes that it needs
long_number : entry_line names 0 (posts 12345678901 entry.Info 2) ≡ codes "12345678901      1 post                      -          2 info\n"
unfolding digits
long_number = refl

-- an event that is put off, and a turn that ends the machine
put_off_is : entry_line names 5 (turns 8 5 3 (kind.Timeout (timer.Named 12)) opened opened PutOff [])
    ≡ codes "         8      - turn                      5          3 timeout:12 open open put_off 0 0 0\n"
unfolding digits
put_off_is = refl

ended_is : entry_line names 5 (turns 9 5 4 kind.Internal opened opened (Ended 70 2) [])
    ≡ codes "         9      - turn                      5          4 internal open open ended:70 0 0 0\n"
unfolding digits
ended_is = refl

-- only turns that finished their event, or put it off, count as such
counts : totals_of (turns 8 5 3 kind.Info opened opened PutOff [] ∷ turns 9 5 4 kind.Internal opened opened (Ended 70 2) [] ∷ [])
    ≡ record { posts = 0; turns = 2; finished = 0; put_off = 1 }
counts = refl

-- replies, collects and a stop
abbrev tag : Tag
tag = record { machine = id; request = 3 }

replied_is : entry_line names 5 (tells 10 (command.Reply tag 7) (answer.Reply false))
    ≡ codes "        10      - reply                     -          3 no\n"
unfolding digits
replied_is = refl

collected_is : entry_line names 5 (tells 11 (command.Collect tag) (answer.Collect (collected.Stopped 70)))
    ≡ codes "        11      - collect                   -          3 stopped:70\n"
unfolding digits
collected_is = refl

stopped_is : entry_line names 5 (tells 12 (command.Stop 70) (answer.Stop (Ok 2)))
    ≡ codes "        12      - stop                      -         70 word:2\n"
unfolding digits
stopped_is = refl

-- a turn that sends two messages, and a take-out of the first
abbrev other_id : MachineId
other_id = record { slot = 1; serial = 2 }

sent_is : entry_line names 5 (tells 13 (command.Turn 5) (answer.Turn (Ok (Reported (record {
  event = Some 6;
  done = Finished;
  calls = Handle 6 kind.Cast locked ∷ [];
  before = locked;
  after = locked;
  replied = [];
  inserted = [];
  set = [];
  sent = 1 ∷ 2 ∷ [];
})))))
    ≡ codes "        13      - turn                      5          6 cast locked locked finished 0 0 0 sent 2\n"
unfolding digits
sent_is = refl

taken_out_is : entry_line names 5 (tells 14 command.TakeOut (answer.TakeOut (Some (record { sender = id; number = 1; target = other_id; content = 7 }))))
    ≡ codes "        14      - take                      -          1 to 1 2\n"
unfolding digits
taken_out_is = refl

-- ---- a machine sends a message to another, and it is delivered there
-- an entry of a turn that handled the event of this number and kind in the locked state, set these timers and sent these
-- messages
abbrev sends : ℕ → ℕ → Kind → List (Timer × Decision) → List ℕ → JournalEntry Bool ℕ
sends place number kind set sent = record {
  number = place;
  source = source.Caller;
  command = command.Turn 0;
  answer = answer.Turn (Ok (Reported (record {
    event = Some number;
    done = Finished;
    calls = Handle number kind locked ∷ [];
    before = locked;
    after = locked;
    replied = [];
    inserted = [];
    set = set;
    sent = sent;
  })));
}

-- the sender: its message is taken out
abbrev of_the_sender : List (JournalEntry Bool ℕ)
of_the_sender =
    posts 1 entry.Cast 1
    ∷ sends 2 1 kind.Cast [] (1 ∷ [])
    ∷ tells 3 command.TakeOut (answer.TakeOut (Some (record { sender = id; number = 1; target = other_id; content = 3 })))
    ∷ []

sender_is : trace_of id (codes "a") 0 of_the_sender names
    ≡ codes "machine 0 1 a\n"
    ++ codes "         1      1 post                      -          1 cast\n"
    ++ codes "         2      - turn                      0          1 cast locked locked finished 0 0 0 sent 1\n"
    ++ codes "         3      - take                      -          1 to 1 2\n"
    ++ codes "summary posts 1 turns 1 finished 1 put_off 0\n"
unfolding digits
sender_is = refl

-- the target: the message is posted as an info, with its sender and its number in the entry
abbrev of_the_target : List (JournalEntry Bool ℕ)
of_the_target =
    record { number = 1; source = source.Message id 1; command = command.Post entry.Info 3; answer = answer.Post (Ok 1) }
    ∷ sends 2 1 kind.Info event_timer []
    ∷ []

target_is : trace_of other_id (codes "b") 0 of_the_target names
    ≡ codes "machine 1 2 b\n"
    ++ codes "         1      - post                      -          1 info from 0 1 1\n"
    ++ codes "         2      - turn                      0          1 info locked locked finished 0 0 1\n"
    ++ codes "summary posts 1 turns 1 finished 1 put_off 0\n"
unfolding digits
target_is = refl
