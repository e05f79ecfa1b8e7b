-- The calls of a machine with a journal: what each answers, and what it leaves.
use Rattle.std.specs.Prelude.{◌≡◌, ℕ, ◌+◌, ◌-◌, Bool, true, false, not, ◌&&◌, ◌||◌, if◌then◌else◌, Option, Some, None, is_some, Result, Ok, Err, List, [], ◌∷◌, ◌++◌, length, slice_index, slice_set, string_bytes}
use Rattle.st_events.specs.declared.message.Message.{Message}
use Rattle.st_events.specs.declared.refusal.Refusal.{Refusal}
use Rattle.st_events.specs.declared.refusal.Refusal.TheVariants.{NoMemory, NotQueued}
use Rattle.st_events.specs.declared.refused.Refused.{Refused}
use Rattle.st_events.specs.declared.token.Token.{Token}
use Rattle.st_answers.specs.declared.answer.Answer.{Answer}
use Rattle.st_answers.specs.declared.command.Command.{Command}
use Rattle.st_answers.specs.declared.command.Command.TheVariants as command
use Rattle.st_answers.specs.declared.entry.Entry.{Entry}
use Rattle.st_answers.specs.declared.entry.Entry.TheVariants.{Info}
use Rattle.st_core.specs.Callbacks.{Callbacks}
use Rattle.st_core.specs.Choice.{waiting_of}
use Rattle.st_core.specs.Run.{Meets}
use Rattle.st_scheduled.specs.declared.posted.Posted.{Posted}
use Rattle.st_scheduled.specs.declared.step_answer.StepAnswer.{StepAnswer}
use Rattle.st_scheduled.specs.declared.step_answer.StepAnswer.TheVariants as step
use Rattle.st_scheduled.specs.Answered.{answered_by, is_counted, wants_numbers}
use Rattle.st_scheduled.specs.ScheduledMachine.{ScheduledMachine, is_token_of, has_message}
use Rattle.st_scheduled.specs.Serving.{content_of, refused_with, told_on, served_on}
use Rattle.st_cell.specs.declared.journal.Journal.{Journal}
use Rattle.st_journal.specs.declared.journal_entry.JournalEntry.{JournalEntry}
use Rattle.st_cell.specs.declared.look.Look.{Look}
use Rattle.st_scheduled.specs.declared.next.Next.{Next}
use Rattle.st_scheduled.specs.declared.next.Next.TheVariants.{Again, Rest}
use Rattle.st_journal.specs.declared.source.Source.{Source}
use Rattle.st_journal.specs.declared.source.Source.TheVariants as source
use Rattle.st_cell.specs.Cell.{CellState, count_for}
use Rattle.st_journal.specs.Journal.{posts_of, numbers_of}

-- ---- entries
-- the answer that the journal keeps: that of a command that was counted
abbrev pub kept_answer : {S C : Type 0} → StepAnswer S C → Option (Answer S C)
kept_answer answer = if is_counted answer then answered_by answer else None

-- the entry of a command that was answered so, if it has one
abbrev pub entry_of : {S C : Type 0} → ℕ → Source → Command C → Option (Answer S C) → List (JournalEntry S C)
entry_of number source command None = []
entry_of number source command (Some answer) =
    record { number = number; source = source; command = command; answer = answer } ∷ []

-- whether a call that is answered so takes memory: where it has an entry, but a stop, whose place is reserved; and a turn
-- may want it also where too few numbers are left
abbrev pub call_takes_memory : {S C : Type 0} → Command C → StepAnswer S C → Bool
call_takes_memory (command.Post entry content) answer = is_counted answer
call_takes_memory (command.Tick now) answer = is_counted answer
call_takes_memory (command.Turn now) answer = is_counted answer || wants_numbers answer
call_takes_memory (command.Reply tag content) answer = is_counted answer
call_takes_memory (command.Collect tag) answer = is_counted answer
call_takes_memory (command.Stop reason) answer = false
call_takes_memory command.TakeOut answer = is_counted answer

-- a port that posted an event has posted one more
abbrev pub counted_at : ℕ → Bool → List ℕ → List ℕ
counted_at port posted counts = if posted then slice_set counts (port - 1) (slice_index counts (port - 1) + 1) else counts

-- whether it was refused that the machine is served, or done
abbrev pub done_as : {S C : Type 0} → StepAnswer S C → Result (Unit {0}) Refusal
done_as (step.Refused refused) = Err refused.refusal
done_as _ = Ok tt

-- what a turn answers whose machine was served so, and has a token still, or has none
abbrev pub next_as : {S C : Type 0} → Token → StepAnswer S C → Bool → Result Next (Refused Token)
next_as token (step.Refused refused) keeps = Err (record { refusal = refused.refusal; value = token })
next_as token _ keeps = Ok (if keeps then Again token else Rest)

-- what a take-out by a token answered, as a step's answer
abbrev pub given_as : {S C : Type 0} → Result (Option (Message C)) (Refused Token) → StepAnswer S C
given_as (Ok message) = step.TakenOut message
given_as (Err refused) = refused_with refused.refusal None

-- what a delivery answered, as a step's answer
abbrev pub delivered_as : {S C : Type 0} → Result Posted (Refused (Message C)) → StepAnswer S C
delivered_as (Ok posted) = step.Posted posted.number posted.wake
delivered_as (Err refused) = refused_with refused.refusal (Some refused.value.content)

module _ {M S D C : Type 0} where
  -- ---- commands
  -- the machine is what it is after a command, and the journal has its entry
  abbrev pub with_entry : CellState M S D C → Source → Command C → StepAnswer S C × ScheduledMachine M S D C → StepAnswer S C × CellState M S D C
  with_entry cell source command told = (
    told.0,
    record cell {
      scheduled = told.1;
      journal = cell.journal ++ entry_of told.1.count source command (kept_answer told.0);
    },
  )

  -- a call was made: answer and cell are those of the definition; or it found no memory, and changed nothing
  abbrev pub MeetsCall : Command C → StepAnswer S C → CellState M S D C → CellState M S D C → StepAnswer S C × CellState M S D C → Type 0
  MeetsCall command answer old new definition =
      Meets (call_takes_memory command) (refused_with NoMemory (content_of command)) answer old new definition

  module _ (callbacks : M → Callbacks S D C) where
    -- the machine is told a command that came from there
    abbrev pub told_by : CellState M S D C → Source → Command C → StepAnswer S C × CellState M S D C
    told_by cell source command = with_entry cell source command (told_on callbacks cell.scheduled command)

    -- a port posts an event
    abbrev pub post_by : CellState M S D C → ℕ → Entry → C → StepAnswer S C × CellState M S D C
    post_by cell port entry content =
        let told = told_by cell (source.Port port) (command.Post entry content) in
        (told.0, record told.1 { ports = counted_at port (is_counted told.0) cell.ports })

    -- the machine is served
    abbrev pub served_at : CellState M S D C → ℕ → StepAnswer S C × CellState M S D C
    served_at cell now = with_entry cell source.Caller (command.Turn now) (served_on callbacks cell.scheduled now)

    -- a port posted an event
    abbrev pub Posts : CellState M S D C → ℕ → Entry → C → StepAnswer S C → CellState M S D C → Type 0
    Posts old port entry content answer new =
        MeetsCall (command.Post entry content) answer old new (post_by old port entry content)

    -- the machine was told a command that came from there
    abbrev pub IsToldBy : CellState M S D C → Source → Command C → StepAnswer S C → CellState M S D C → Type 0
    IsToldBy old source command answer new = MeetsCall command answer old new (told_by old source command)

    -- the machine was told a command by a call that is no post and no turn
    abbrev pub IsTold : CellState M S D C → Command C → StepAnswer S C → CellState M S D C → Type 0
    IsTold old command answer new = IsToldBy old source.Caller command answer new

    -- the machine was served
    abbrev pub IsServed : CellState M S D C → ℕ → StepAnswer S C → CellState M S D C → Type 0
    IsServed old now answer new = MeetsCall (command.Turn now) answer old new (served_at old now)

    -- ---- turns
    -- a turn by a token that is the machine's outstanding one, or is not
    abbrev pub TurnsBy : Bool → CellState M S D C → Token → ℕ → Result Next (Refused Token) → CellState M S D C → Type 0
    TurnsBy false old token now result new =
        (result ≡ Err (record { refusal = NotQueued; value = token })) × (new ≡ old)
    TurnsBy true old token now result new =
        (answer : StepAnswer S C) × IsServed old now answer new × (result ≡ next_as token answer (is_some new.scheduled.token))

    -- a turn: by another token it is refused; else the machine is served, and the token is kept as long as there is work
    abbrev pub Turns : CellState M S D C → Token → ℕ → Result Next (Refused Token) → CellState M S D C → Type 0
    Turns old token now result new = TurnsBy (is_token_of token old.scheduled) old token now result new

    -- ---- messages
    -- a take-out by a token that is the machine's outstanding one, or is not
    abbrev pub TakesOutBy : Bool → CellState M S D C → Token → Result (Option (Message C)) (Refused Token) → CellState M S D C → Type 0
    TakesOutBy false old token result new =
        (result ≡ Err (record { refusal = NotQueued; value = token })) × (new ≡ old)
    TakesOutBy true old token result new = IsTold old command.TakeOut (given_as result) new

    -- a take-out: by another token it is refused; else the first message leaves the machine, if there is one, and has an entry
    abbrev pub TakesOut : CellState M S D C → Token → Result (Option (Message C)) (Refused Token) → CellState M S D C → Type 0
    TakesOut old token result new = TakesOutBy (is_token_of token old.scheduled) old token result new

    -- a message was delivered: its content is posted as an info, and the entry has its sender and its number
    abbrev pub Delivers : CellState M S D C → Message C → Result Posted (Refused (Message C)) → CellState M S D C → Type 0
    Delivers old message result new =
        IsToldBy old (source.Message message.sender message.number) (command.Post Info message.content) (delivered_as result) new

  -- ---- ports, looks, journals and truncation
  -- the next port is opened: its number, and the cell after it
  abbrev pub opened : CellState M S D C → ℕ × CellState M S D C
  opened cell = (length cell.ports + 1, record cell { ports = cell.ports ++ 0 ∷ [] })

  -- what is seen of a cell by a port
  abbrev pub look_of : ℕ → CellState M S D C → Look S D
  look_of port cell =
      let core = cell.scheduled.core.machine in
      record {
        state = core.state;
        held = core.data;
        waiting = waiting_of core;
        entries = cell.scheduled.count;
        mine = count_for port cell;
        numbers = numbers_of (posts_of port cell.journal);
        ended = core.ended;
      }

  -- the machine as it is becomes the base, and the journal is empty
  abbrev pub cut : CellState M S D C → CellState M S D C
  cut cell = record cell { base = cell.scheduled.core.machine; journal = [] }

  -- the journal of a cell, with a label: the machine's id, the latest moment before the first entry, and the entries
  pub record IsJournalOf (cell : CellState M S D C) (label : List ℕ) (journal : Journal S C) : Type 0 where
    pub id : journal.id ≡ cell.scheduled.core.machine.id
    pub labelled : string_bytes journal.label ≡ label
    pub from : journal.from ≡ cell.base.latest
    pub entries : journal.entries ≡ cell.journal

  -- whether a machine can be removed: it has ended, and no message of it is left
  abbrev pub is_removable : CellState M S D C → Bool
  is_removable cell = is_some cell.scheduled.core.machine.ended && not (has_message cell.scheduled.core)
