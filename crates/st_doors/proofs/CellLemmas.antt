-- What the cell of a door answers, and what its calls leave of the door's machine: what the definition says.
use Rattle.std.proofs.Common.{◌≡◌, ◌≢◌, ℕ, ◌+◌, Bool, true, false, ◌&&◌, List, ◌++◌, length, append_assoc, length-append, Option, Some, None, refl, ap, sym, ◌∙◌, arith, inl, inr}
use Rattle.std.specs.Prelude.{Result, Ok, Err, OnOk, OnErr, is_some}
use Rattle.std.specs.Option.{option_map}
use Rattle.std.proofs.lemmas.Bool.{cases_Bool}
use Rattle.st_core.specs.Choice.{has_event_of}
use Rattle.st_core.specs.Callbacks.{Callbacks, callbacks_of}
use Rattle.st_core.specs.Run.{step_of}
use Rattle.st_answers.specs.declared.answer.Answer.TheVariants as answer
use Rattle.st_answers.specs.declared.command.Command.{Command}
use Rattle.st_answers.specs.declared.command.Command.TheVariants as command
use Rattle.st_answers.specs.declared.turned.Turned.TheVariants.{Reported, Idle}
use Rattle.st_events.specs.declared.machine_id.MachineId.{MachineId}
use Rattle.st_events.specs.declared.refusal.Refusal.{Refusal}
use Rattle.st_events.specs.declared.refusal.Refusal.TheVariants.{NoMemory}
use Rattle.st_events.specs.declared.refused.Refused.{Refused}
use Rattle.st_events.specs.declared.token.Token.{Token}
use Rattle.st_scheduled.specs.declared.outstanding.Outstanding.{Outstanding}
use Rattle.st_scheduled.specs.declared.step_answer.StepAnswer.{StepAnswer}
use Rattle.st_scheduled.specs.ScheduledMachine.{id_of, has_message, token_of, is_token_of, same_id, has_wake}
use Rattle.st_scheduled.specs.Serving.{content_of, refused_with, hands_out, is_full, told_as, told_on}
use Rattle.st_events.proofs.ComparedLemmas.{same_number}
use Rattle.st_scheduled.proofs.TokensCompared.{some_is, same_id_self}
use Rattle.st_cell.specs.Calls.{MeetsCall, Turns, entry_of, kept_answer, next_as, served_at}
use Rattle.st_scheduled.specs.declared.next.Next.{Next}
use Rattle.st_journal.specs.declared.source.Source.{Source}
use Rattle.st_journal.specs.declared.source.Source.TheVariants as source
use Rattle.st_doors.specs.contracts.door.DoorModule.TheImpl.{ghosts}
use Rattle.st_doors.specs.contracts.door_state.DoorStatePartialEq.TheImpl.{eq-value}
use Rattle.st_doors.specs.declared.door_content.DoorContent.{DoorContent}
use Rattle.st_doors.specs.declared.door_state.DoorState.{DoorState}
use Rattle.st_doors.specs.declared.door.Door.{Door}
use Rattle.st_doors.specs.declared.door_data.DoorData.{DoorData}
use Rattle.st_doors.specs.Doors.{DoorAnswer, DoorEntry, DoorMachine, History, door_callbacks, history_told, kept_told_by, recorded, refusal_in}
use Rattle.st_doors.specs.Past.{with_entries}
use Rattle.st_doors.specs.Entries.{DoorCore, ScheduledDoor, DoorCellState, HasTold, HasToldBy, IsDoorCell, IsWhole, door_in, history_in, machine_in, recorded_in, told_in}
use Rattle.st_doors.proofs.ToldLemmas.{given-callbacks, told-refused}

-- what a door's cell answers to a command
abbrev DoorStep : Type 0
DoorStep = StepAnswer DoorState DoorContent

-- the door after it
abbrev pub core_after : DoorCellState → Command DoorContent → DoorCore
core_after cell command = record { module_ = cell.scheduled.core.module_; machine = (told_in cell command).1 }

-- ---- the machine
-- what a machine that is to be served is told leaves it as its core is left, where a refusal changes nothing
told-left : (old : ScheduledDoor) (said : DoorAnswer) (core : DoorCore) → ((refusal : Refusal) → refusal_in said ≡ Some refusal → core ≡ old.core)
    → (told_as old said core).1.core ≡ core
told-left old (answer.Post (Ok number)) core stays = refl
told-left old (answer.Post (Err refused)) core stays = sym (stays refused.refusal refl)
told-left old (answer.Tick (Ok expired)) core stays = refl
told-left old (answer.Tick (Err refusal)) core stays = sym (stays refusal refl)
told-left old (answer.Turn (Ok (Reported report))) core stays = refl
told-left old (answer.Turn (Ok Idle)) core stays = elim (cases_Bool (has_message core)) [
  | inl sending ↦ rw sending refl
  | inr none ↦ rw none refl
]
told-left old (answer.Turn (Err refusal)) core stays = sym (stays refusal refl)
told-left old (answer.Reply taken) core stays = refl
told-left old (answer.Collect shown) core stays = elim (cases_Bool (hands_out shown)) [
  | inl given ↦ rw given refl
  | inr kept ↦ rw kept refl
]
told-left old (answer.Stop (Ok word)) core stays = refl
told-left old (answer.Stop (Err refusal)) core stays = sym (stays refusal refl)
told-left old (answer.TakeOut None) core stays = refl
told-left old (answer.TakeOut (Some message)) core stays = refl

-- a refusal changes nothing
stays-refused : (cell : DoorCellState) (command : Command DoorContent) (refusal : Refusal) → refusal_in (told_in cell command).0 ≡ Some refusal
    → core_after cell command ≡ cell.scheduled.core
stays-refused cell command refusal refused =
    ap (λ (machine : DoorMachine). record { module_ = cell.scheduled.core.module_; machine = machine }) (told-refused (machine_in cell) command refusal refused)

-- where the count of commands is not full, the cell's answer is made of the definition's
told-on : (cell : DoorCellState) (command : Command DoorContent) → is_full cell.scheduled ≡ false
    → told_on (callbacks_of ghosts eq-value.it) cell.scheduled command ≡ told_as cell.scheduled (told_in cell command).0 (core_after cell command)
told-on cell command ready =
    rw ready (ap (λ callbacks.
    let done = step_of callbacks (machine_in cell) command in
    told_as cell.scheduled done.0 (record { module_ = cell.scheduled.core.module_; machine = done.1 }))
    (given-callbacks cell.scheduled.core.module_))

-- the entry of what is told, and the count of commands: it has one where the definition's answer is recorded
entry-told : (old : ScheduledDoor) (source : Source) (command : Command DoorContent) (said : DoorAnswer) (core : DoorCore)
    → (entry_of (told_as old said core).1.count source command (kept_answer (told_as old said core).0) ≡ recorded (old.count + 1) source command said)
    × ((told_as old said core).1.count ≡ old.count + length (recorded (old.count + 1) source command said))
entry-told old source command (answer.Post (Ok number)) core = (refl, refl)
entry-told old source command (answer.Post (Err refused)) core = (refl, omega arith)
entry-told old source command (answer.Tick (Ok expired)) core = (refl, refl)
entry-told old source command (answer.Tick (Err refusal)) core = (refl, omega arith)
entry-told old source command (answer.Turn (Ok (Reported report))) core = (refl, refl)
entry-told old source command (answer.Turn (Ok Idle)) core = elim (cases_Bool (has_message core)) [
  | inl sending ↦ rw sending (refl, omega arith)
  | inr none ↦ rw none (refl, omega arith)
]
entry-told old source command (answer.Turn (Err refusal)) core = (refl, omega arith)
entry-told old source command (answer.Reply taken) core = (refl, refl)
entry-told old source command (answer.Collect shown) core = elim (cases_Bool (hands_out shown)) [
  | inl given ↦ rw given (refl, refl)
  | inr kept ↦ rw kept (refl, omega arith)
]
entry-told old source command (answer.Stop (Ok word)) core = (refl, refl)
entry-told old source command (answer.Stop (Err refusal)) core = (refl, omega arith)
entry-told old source command (answer.TakeOut None) core = (refl, omega arith)
entry-told old source command (answer.TakeOut (Some message)) core = (refl, refl)

-- the callbacks of a door's module
abbrev given : Door → Callbacks DoorState DoorData DoorContent
given door = callbacks_of ghosts eq-value.it door

-- what a cell answers that is told a command, and what it is then, but for what its ports have posted
abbrev WithEntry : DoorCellState → Source → Command DoorContent → DoorStep × DoorCellState → Type 0
WithEntry cell source command definition =
    (definition.0 ≡ (told_on given cell.scheduled command).0)
    × (definition.1.scheduled ≡ (told_on given cell.scheduled command).1)
    × (definition.1.journal ≡ cell.journal ++ entry_of (told_on given cell.scheduled command).1.count source command (kept_answer (told_on given cell.scheduled command).0))
    × (definition.1.base ≡ cell.base)

-- a call that found memory is answered so, and leaves the definition's machine, and its entry
pub called : (cell new : DoorCellState) (source : Source) (command : Command DoorContent) (said : DoorStep) (definition : DoorStep × DoorCellState)
    → is_full cell.scheduled ≡ false
    → WithEntry cell source command definition
    → said ≢ refused_with NoMemory (content_of command)
    → MeetsCall command said cell new definition
    → (said ≡ (told_as cell.scheduled (told_in cell command).0 (core_after cell command)).0) × HasToldBy source command cell new
called cell new source command said definition ready with_entry found (inl done) =
    let told = told-on cell command ready in
    let entry = entry-told cell.scheduled source command (told_in cell command).0 (core_after cell command) in (
      done.0 ∙ (with_entry.0 ∙ ap (λ (t : DoorStep × ScheduledDoor). t.0) told),
      record {
        machine = ap machine_in done.1
            ∙ (ap (λ (s : ScheduledDoor). s.core.machine) (with_entry.1 ∙ ap (λ (t : DoorStep × ScheduledDoor). t.1) told)
            ∙ ap (λ (core : DoorCore). core.machine) (told-left cell.scheduled (told_in cell command).0 (core_after cell command) (stays-refused cell command)));
        journal = ap (λ (c : DoorCellState). c.journal) done.1
            ∙ (with_entry.2
            ∙ (ap (λ (t : DoorStep × ScheduledDoor). cell.journal ++ entry_of t.1.count source command (kept_answer t.0)) told
            ∙ ap (λ (entries : List DoorEntry). cell.journal ++ entries) entry.0));
        count = ap (λ (c : DoorCellState). c.scheduled.count) done.1
            ∙ (ap (λ (s : ScheduledDoor). s.count) (with_entry.1 ∙ ap (λ (t : DoorStep × ScheduledDoor). t.1) told) ∙ entry.1);
        base = ap (λ (c : DoorCellState). c.base) done.1 ∙ with_entry.3;
      },
    )
called cell new source command said definition ready with_entry found (inr none) = absurd (found none.1)

-- ---- turns
-- why a turn was refused, if it was
abbrev pub turn_refusal : Result Next (Refused Token) → Option Refusal
turn_refusal (Ok next) = None
turn_refusal (Err refused) = Some refused.refusal

found-memory : (token : Token) (said : DoorStep) (keeps : Bool) → turn_refusal (next_as token said keeps) ≢ Some NoMemory → said ≢ refused_with NoMemory None
found-memory token said keeps found same = found (ap (λ (s : DoorStep). turn_refusal (next_as token s keeps)) same)

-- the token of a machine is its own
own-of : (id : MachineId) (outstanding : Option Outstanding) (token : Token)
    → option_map (λ (one : Outstanding). record { machine = id; wake = one.wake }) outstanding ≡ Some token
    → (same_id token.machine id && has_wake token.wake outstanding) ≡ true
own-of id None token same = cc
own-of id (Some outstanding) token same =
    let is : record { machine = id; wake = outstanding.wake } ≡ token = some_is _ _ same in
    rw (← is) (rw (same_id_self id, same_number outstanding.wake) refl)

own-token : (scheduled : ScheduledDoor) (token : Token) → token_of scheduled ≡ Some token → is_token_of token scheduled ≡ true
own-token scheduled token same = own-of (id_of scheduled) scheduled.token token same

-- the turn of a door that is ready leaves the definition's machine, and its entry
pub turned : (cell new : DoorCellState) (token : Token) (moment : ℕ) (result : Result Next (Refused Token))
    → is_full cell.scheduled ≡ false → has_event_of (machine_in cell) ≡ true → token_of cell.scheduled ≡ Some token
    → turn_refusal result ≢ Some NoMemory
    → Turns (callbacks_of ghosts eq-value.it) cell token moment result new
    → HasTold (command.Turn moment) cell new
turned cell new token moment result ready work own found turns =
    let done = rw (own-token cell.scheduled token own) at turns in
    (called cell new source.Caller (command.Turn moment) done.0 (served_at (callbacks_of ghosts eq-value.it) cell moment) ready
    (rw work refl, rw work refl, rw work refl, refl)
    (found-memory token done.0 (is_some new.scheduled.token) (λ none. found (ap turn_refusal done.2 ∙ none)))
    done.1).1

-- ---- the door in a cell
-- what comes of a history that has a command's entry behind it
entries-told : (past before : History) (source : Source) (command : Command DoorContent) (said : DoorAnswer) (journal earlier : List DoorEntry) (count : ℕ)
    → Some (with_entries past journal) ≡ Some (with_entries before earlier) → count ≡ length (before.entries ++ earlier)
    → Some (with_entries past (journal ++ recorded (count + 1) source command said)) ≡ history_told source command said (Some (with_entries before earlier))
entries-told past before source command said journal earlier count same counted =
    let more : List DoorEntry = recorded (count + 1) source command said in
    ap (λ (entries : List DoorEntry). Some (record { from = past.from; entries = entries })) (sym (append_assoc past.entries journal more))
    ∙ (ap (λ (history : Option History). option_map (λ (h : History). with_entries h more) history) same
    ∙ ap (λ (n : ℕ). Some (record { from = before.from; entries = (before.entries ++ earlier) ++ recorded (n + 1) source command said })) counted)

-- a command leaves the history that it says, where that is kept
history-told : (past before : Option History) (old mid new : DoorCellState) (source : Source) (command : Command DoorContent)
    → IsWhole before old → history_in past mid ≡ history_in before old → mid.scheduled ≡ old.scheduled → HasToldBy source command mid new
    → history_in past new ≡ history_told source command (told_in old command).0 (history_in before old)
history-told None None old mid new source command whole same scheduled told = refl
history-told None (Some before) old mid new source command whole same scheduled told = cc
history-told (Some past) None old mid new source command whole same scheduled told = cc
history-told (Some past) (Some before) old mid new source command whole same scheduled told =
    ap (λ (journal : List DoorEntry). Some (with_entries past journal)) (told.journal
    ∙ ap (λ (s : ScheduledDoor). mid.journal ++ recorded (s.count + 1) source command (step_of door_callbacks s.core.machine command).0) scheduled)
    ∙ entries-told past before source command (told_in old command).0 mid.journal old.journal old.scheduled.count same whole

-- the door after a command, whose history was put by before it
pub door-told : (past before : Option History) (old mid new : DoorCellState) (source : Source) (command : Command DoorContent)
    → IsDoorCell before old → history_in past mid ≡ history_in before old → mid.scheduled ≡ old.scheduled → HasToldBy source command mid new
    → door_in past new ≡ kept_told_by source command (door_in before old)
door-told past before old mid new source command kept same scheduled told =
    ap (λ (machine : DoorMachine). record { machine = machine; history = history_in past new })
    (told.machine ∙ ap (λ (s : ScheduledDoor). (step_of door_callbacks s.core.machine command).1) scheduled)
    ∙ ap (λ (history : Option History). record { machine = (told_in old command).1; history = history })
    (history-told past before old mid new source command kept.whole same scheduled told)

-- one entry more is counted
whole-more : (past : Option History) (mid new : DoorCellState) (source : Source) (command : Command DoorContent) → IsWhole past mid → HasToldBy source command mid new → IsWhole past new
whole-more None mid new source command whole told = tt
whole-more (Some past) mid new source command whole told =
    let more : List DoorEntry = recorded_in mid source command in
    let before : mid.scheduled.count ≡ length (past.entries ++ mid.journal) = whole in
    let grown : length (past.entries ++ new.journal) ≡ length (past.entries ++ (mid.journal ++ more)) =
    ap (λ (journal : List DoorEntry). length (past.entries ++ journal)) told.journal in
    let counted : new.scheduled.count ≡ mid.scheduled.count + length more = told.count in
    let done : new.scheduled.count ≡ length (past.entries ++ new.journal) =
    omega (arith, before, grown, counted, length-append past.entries (mid.journal ++ more), length-append mid.journal more, length-append past.entries mid.journal) in
    done

-- and the history stays whole where it is put by
whole-still : (past before : Option History) (old mid : DoorCellState) → IsWhole before old → history_in past mid ≡ history_in before old → mid.scheduled ≡ old.scheduled → IsWhole past mid
whole-still past before old mid whole same scheduled =
    rw (same, scheduled) whole

-- a door's cell is one still
pub cell-still : (past before : Option History) (old mid : DoorCellState) → IsDoorCell before old → history_in past mid ≡ history_in before old → mid.scheduled ≡ old.scheduled
    → mid.ports ≡ old.ports → IsDoorCell past mid
cell-still past before old mid kept same scheduled ports = record {
  has_port = rw ports kept.has_port;
  whole = whole-still past before old mid kept.whole same scheduled;
}

pub cell-told : (past before : Option History) (old mid new : DoorCellState) (source : Source) (command : Command DoorContent)
    → IsDoorCell before old → history_in past mid ≡ history_in before old → mid.scheduled ≡ old.scheduled → mid.ports ≡ old.ports
    → length new.ports ≡ length mid.ports → HasToldBy source command mid new → IsDoorCell past new
cell-told past before old mid new source command kept same scheduled ports counted told =
    let still = cell-still past before old mid kept same scheduled ports in
    record {
      has_port = rw counted still.has_port;
      whole = whole-more past mid new source command still.whole told;
    }

-- the door in a cell that stays
pub door-still : (past before : Option History) (old mid : DoorCellState) → history_in past mid ≡ history_in before old → mid.scheduled ≡ old.scheduled → door_in past mid ≡ door_in before old
door-still past before old mid same scheduled =
    ap (λ (s : ScheduledDoor). record { machine = s.core.machine; history = history_in past mid }) scheduled
    ∙ ap (λ (history : Option History). record { machine = machine_in old; history = history }) same

-- a door's cell is one, whatever a command came to
pub cell-after : {T E : Type 0} (result : Result T E) (past before : Option History) (old mid new : DoorCellState) (source : Source) (command : Command DoorContent)
    → IsDoorCell before old → history_in past mid ≡ history_in before old → mid.scheduled ≡ old.scheduled → mid.ports ≡ old.ports
    → length new.ports ≡ length mid.ports → OnOk result (HasToldBy source command mid new) → OnErr result (new ≡ mid) → IsDoorCell past new
cell-after (Ok done) past before old mid new source command kept same scheduled ports counted told unchanged =
    cell-told past before old mid new source command kept same scheduled ports counted told
cell-after (Err error) past before old mid new source command kept same scheduled ports counted told unchanged =
    rw unchanged (cell-still past before old mid kept same scheduled ports)
