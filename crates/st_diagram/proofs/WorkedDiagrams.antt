-- Diagrams computed on examples, byte by byte.
use Rattle.std.proofs.Common.{◌≡◌, ℕ, ◌-◌, Bool, true, false, Some, None, Ok, Err, List, [], ◌∷◌, ◌++◌, codes, refl}
use Rattle.std.specs.Fmt.{digits}
use Rattle.st_events.specs.declared.action.Action.TheVariants.{Postpone, Set}
use Rattle.st_events.specs.declared.kind.Kind.{Kind}
use Rattle.st_events.specs.declared.kind.Kind.TheVariants as kind
use Rattle.st_events.specs.declared.outcome.Outcome.{Outcome}
use Rattle.st_events.specs.declared.outcome.Outcome.TheVariants.{NextState, KeepState, KeepStateAndData, RepeatStateAndData, Stop, StopAndReply}
use Rattle.st_events.specs.declared.refusal.Refusal.TheVariants.{NoMemory}
use Rattle.st_events.specs.declared.tag.Tag.{Tag}
use Rattle.st_events.specs.declared.time.Time.TheVariants.{After}
use Rattle.st_events.specs.declared.timer.Timer.TheVariants as timer
use Rattle.st_requests.specs.declared.collected.Collected.TheVariants as collected
use Rattle.st_answers.specs.declared.answer.Answer.{Answer}
use Rattle.st_answers.specs.declared.answer.Answer.TheVariants as answer
use Rattle.st_answers.specs.declared.command.Command.{Command}
use Rattle.st_answers.specs.declared.command.Command.TheVariants as command
use Rattle.st_answers.specs.declared.done.Done.{Done}
use Rattle.st_answers.specs.declared.done.Done.TheVariants.{Finished, PutOff, Ended}
use Rattle.st_answers.specs.declared.entry.Entry.TheVariants as entry
use Rattle.st_answers.specs.declared.turned.Turned.TheVariants.{Reported, Idle}
use Rattle.st_journal.specs.declared.journal_entry.JournalEntry.{JournalEntry}
use Rattle.st_journal.specs.declared.source.Source.{Source}
use Rattle.st_journal.specs.declared.source.Source.TheVariants as source
use Rattle.st_diagram.specs.Diagram.{mermaid_of, dot_of}
use Rattle.st_diagram.specs.Sequence.{sequence_of}

-- a state is whether a door is open
abbrev states : Bool → List ℕ
states true = codes "Open"
states false = codes "Shut"

-- all contents have one name
abbrev contents : ℕ → List ℕ
contents content = codes "push"

-- a cast opens the door for ten seconds, a call waits until it is open, a second cast tries the hinges, an info ends it;
-- the data are new where the named time-out comes, and all else is ignored
abbrev handle : Kind → ℕ → Bool → ℕ → Outcome Bool ℕ ℕ
handle kind.Cast content false held = NextState true held (Set timer.State (After 10000) 0 ∷ [])
handle kind.Cast content true held = RepeatStateAndData []
handle (kind.Call tag) content false held = KeepStateAndData (Postpone true ∷ [])
handle (kind.Call tag) content true held = StopAndReply 0 ((tag, content) ∷ []) None
handle kind.Info content false held = Stop 0 None
handle (kind.Timeout (timer.Named name)) content state held = KeepState (held - 1) []
handle (kind.Timeout timer.State) content true held = NextState false held []
handle _ _ _ _ = KeepStateAndData []

abbrev tag : Tag
tag = record { machine = record { slot = 0; serial = 1 }; request = 1 }

abbrev events : List (Kind × ℕ)
events =
    (kind.Cast, 1) ∷ (kind.Call tag, 1) ∷ (kind.Info, 1) ∷ (kind.Timeout timer.State, 1) ∷ (kind.Timeout (timer.Named 12), 1) ∷ (kind.Internal, 1) ∷ []

in_mermaid : mermaid_of states contents handle 7 (false ∷ true ∷ []) events
    ≡ codes "stateDiagram-v2\n"
    ++ codes "    [*] --> Shut\n"
    ++ codes "    Shut --> Open: cast push / timer\n"
    ++ codes "    Shut --> Shut: call push / postpone\n"
    ++ codes "    Shut --> [*]: info push / stop\n"
    ++ codes "    Shut --> Shut: timeout 12 push / data\n"
    ++ codes "    Open --> Open: cast push / repeat\n"
    ++ codes "    Open --> [*]: call push / reply / stop\n"
    ++ codes "    Open --> Shut: state_timeout push\n"
    ++ codes "    Open --> Open: timeout 12 push / data\n"
unfolding digits
in_mermaid = refl

in_dot : dot_of states contents handle 7 (false ∷ true ∷ []) ((kind.Cast, 1) ∷ (kind.Info, 1) ∷ [])
    ≡ codes "digraph {\n"
    ++ codes "    start -> \"Shut\";\n"
    ++ codes "    \"Shut\" -> \"Open\" [label=\"cast push / timer\"];\n"
    ++ codes "    \"Shut\" -> \"end\" [label=\"info push / stop\"];\n"
    ++ codes "    \"Open\" -> \"Open\" [label=\"cast push / repeat\"];\n"
    ++ codes "}\n"
unfolding digits
in_dot = refl

-- where no state is listed, nothing is drawn
of_no_state : mermaid_of states contents handle 7 [] events ≡ codes "stateDiagram-v2\n"
of_no_state = refl

-- ---- a journal
-- an entry of what came from there
abbrev comes : Source → Command ℕ → Answer Bool ℕ → JournalEntry Bool ℕ
comes from what answered = record { number = 1; source = from; command = what; answer = answered }

-- an entry of a call of the machine itself
abbrev told : Command ℕ → Answer Bool ℕ → JournalEntry Bool ℕ
told what answered = comes source.Caller what answered

-- an entry of a turn, by the number of its event, how it ended, the state after it, and the requests that it answered; the
-- door was shut before it
abbrev turns : ℕ → Done → Bool → List Tag → JournalEntry Bool ℕ
turns number done after replied = told (command.Turn 5) (answer.Turn (Ok (Reported (record {
  event = Some number;
  done = done;
  calls = [];
  before = false;
  after = after;
  replied = replied;
  inserted = [];
  set = [];
  sent = [];
}))))

abbrev entries : List (JournalEntry Bool ℕ)
entries =
    comes (source.Port 1) (command.Post entry.Call 7) (answer.Post (Ok 1))
    ∷ turns 1 PutOff false []
    ∷ comes (source.Message (record { slot = 0; serial = 2 }) 4) (command.Post entry.Info 7) (answer.Post (Ok 2))
    ∷ turns 2 Finished true (tag ∷ [])
    ∷ told (command.Turn 5) (answer.Turn (Ok Idle))
    ∷ told (command.Collect tag) (answer.Collect (collected.Reply 7))
    ∷ told (command.Collect tag) (answer.Collect collected.Gone)
    ∷ told (command.Post entry.Cast 7) (answer.Post (Err (record { refusal = NoMemory; value = 7 })))
    ∷ told (command.Reply tag 7) (answer.Reply false)
    ∷ told (command.Tick 1000) (answer.Tick (Ok 2))
    ∷ told command.TakeOut (answer.TakeOut (Some (record { sender = tag.machine; number = 1; target = record { slot = 0; serial = 2 }; content = 7 })))
    ∷ turns 3 (Ended 9 4) false []
    ∷ told (command.Collect tag) (answer.Collect (collected.Stopped 9))
    ∷ told (command.Stop 7) (answer.Stop (Ok 3))
    ∷ []

in_sequence : sequence_of states contents (codes "door") entries
    ≡ codes "sequenceDiagram\n"
    ++ codes "    participant m as door\n"
    ++ codes "    port1->>m: 1 call push\n"
    ++ codes "    Note over m: 1 postponed in Shut\n"
    ++ codes "    machine0_2->>m: 2 info push\n"
    ++ codes "    Note over m: 2 handled in Shut, then Open\n"
    ++ codes "    m-->>caller: reply to 1\n"
    ++ codes "    m->>caller: reply to 1 push\n"
    ++ codes "    caller-xm: cast push\n"
    ++ codes "    caller-xm: reply to 1 push\n"
    ++ codes "    Note over m: at 1000, 2 expired\n"
    ++ codes "    m->>machine0_2: push\n"
    ++ codes "    Note over m: 3 ended with 9 in Shut, word 4\n"
    ++ codes "    m-xcaller: no reply to 1, ended with 9\n"
    ++ codes "    caller-xm: stop 7, word 3\n"
unfolding digits
in_sequence = refl
