-- What is done with a machine by whoever serves it, and what the observer is told.
use Rattle.std.specs.Prelude.{◌≡◌, ⊤, ℕ, ◌≤◌, ◌<◌, ◌^◌, ◌⊎◌, nat_le, Bool, true, false, Option, Some, None, Result, Ok, Err, List, [], ◌∷◌}
use Rattle.st_events.specs.declared.message.Message.{Message}
use Rattle.st_events.specs.declared.refusal.Refusal.{Refusal}
use Rattle.st_answers.specs.declared.answer.Answer.{Answer}
use Rattle.st_answers.specs.declared.answer.Answer.TheVariants as answer
use Rattle.st_answers.specs.declared.command.Command.{Command}
use Rattle.st_answers.specs.declared.command.Command.TheVariants as command
use Rattle.st_core.specs.declared.machine_state.MachineState.{MachineState}
use Rattle.st_answers.specs.declared.report.Report.{Report}
use Rattle.st_answers.specs.declared.turned.Turned.{Turned}
use Rattle.st_answers.specs.declared.turned.Turned.TheVariants.{Reported, Idle}
use Rattle.st_core.specs.Callbacks.{Callbacks}
use Rattle.st_core.specs.Choice.{has_event_of, has_message_of, next_due_of}
use Rattle.st_core.specs.MachineState.{Machine}
use Rattle.st_core.specs.Run.{is_refusal, Does}

-- whether a time-out is due by a moment
abbrev pub is_due_by : Option ℕ → ℕ → Bool
is_due_by None now = false
is_due_by (Some due) now = nat_le due now

module _ {S D C : Type 0} where
  -- a machine runs, and has no message that was not taken out
  abbrev pub IsRunning : MachineState S D C → Type 0
  IsRunning machine = (machine.ended ≡ None) × (has_message_of machine ≡ false)

  -- a moment is not before the latest, and a machine can be told it
  abbrev pub IsMoment : MachineState S D C → ℕ → Type 0
  IsMoment machine now = (machine.latest ≤ now) × (now < 2 ^ 63)

  -- nothing is due by a moment
  abbrev pub IsNothingDue : MachineState S D C → ℕ → Type 0
  IsNothingDue machine now = IsMoment machine now × (is_due_by (next_due_of machine) now ≡ false)

  -- what is done next: a message is taken out; else, if the machine has not ended, it is told the moment where a
  -- time-out is due by then; else it makes a turn, where there is an event to handle; else an event is posted, for which
  -- the wait began at such a moment
  abbrev pub IsNext : MachineState S D C → Command C → Type 0
  IsNext machine command.TakeOut = has_message_of machine ≡ true
  IsNext machine (command.Tick now) = IsRunning machine × IsMoment machine now × (is_due_by (next_due_of machine) now ≡ true)
  IsNext machine (command.Turn now) = IsRunning machine × IsNothingDue machine now × (has_event_of machine ≡ true)
  IsNext machine (command.Post entry content) =
      IsRunning machine × (has_event_of machine ≡ false) × ((began : ℕ) × IsNothingDue machine began)
  IsNext machine (command.Reply tag content) = ⊥
  IsNext machine (command.Collect tag) = ⊥
  IsNext machine (command.Stop reason) = ⊥

-- what an observer makes of reports and of messages
module _ {M S D C O : Type 0} (hears : O → Report S → Machine M S D C → O → Type 0) (takes : O → Message C → O → Type 0) where
  -- it is told a turn's report, with the machine after it
  abbrev pub TellsTurn : O → Result (Turned S) Refusal → Machine M S D C → O → Type 0
  TellsTurn from (Ok (Reported report)) machine to = hears from report machine to
  TellsTurn from (Ok Idle) machine to = to ≡ from
  TellsTurn from (Err refusal) machine to = to ≡ from

  -- it is handed a message
  abbrev pub TellsMessage : O → Option (Message C) → O → Type 0
  TellsMessage from (Some message) to = takes from message to
  TellsMessage from None to = to ≡ from

  -- it is told so of an answer, with the machine after it, once; of no other is it told
  abbrev pub Tells : O → Answer S C → Machine M S D C → O → Type 0
  Tells from (answer.Turn turned) machine to = TellsTurn from turned machine to
  Tells from (answer.TakeOut message) machine to = TellsMessage from message to
  Tells from (answer.Post posted) machine to = to ≡ from
  Tells from (answer.Tick ticked) machine to = to ≡ from
  Tells from (answer.Reply taken) machine to = to ≡ from
  Tells from (answer.Collect collected) machine to = to ≡ from
  Tells from (answer.Stop stopped) machine to = to ≡ from

module _ {M S D C O : Type 0} (callbacks : M → Callbacks S D C) (hears : O → Report S → Machine M S D C → O → Type 0) (takes : O → Message C → O → Type 0) where
  -- what is next was done, it was not refused, and the observer was told
  pub record ServesOne (old : Machine M S D C) (from : O) (command : Command C) (answer : Answer S C) (new : Machine M S D C) (to : O) : Type 0 where
    pub is_next : IsNext old.machine command
    pub accepted : is_refusal answer ≡ false
    pub does : Does callbacks old command answer new
    pub tells : Tells hears takes from answer new to

  -- what is next was done each time, with these answers, and the observer was told of each in order; these are the machine
  -- and the observer in the end
  abbrev pub Serves : Machine M S D C → O → List (Command C) → List (Answer S C) → Machine M S D C → O → Type 0
  Serves old from [] [] new to = (new ≡ old) × (to ≡ from)
  Serves old from (command ∷ commands) (answer ∷ answers) new to =
      (next : Machine M S D C) × (told : O) × ServesOne old from command answer next told × Serves next told commands answers new to
  Serves old from [] (answer ∷ answers) new to = ⊥
  Serves old from (command ∷ commands) [] new to = ⊥

  -- a machine was served, and an observer was told
  pub record IsServed (old : Machine M S D C) (from : O) (new : Machine M S D C) (to : O) : Type 0 where
    pub commands : List (Command C)
    pub answers : List (Answer S C)
    pub serves : Serves old from commands answers new to

-- what no observer is told of
abbrev pub IsSilent : {S C : Type 0} → Answer S C → Type 0
IsSilent (answer.Post (Ok number)) = ⊤
IsSilent (answer.Post (Err refused)) = ⊥
IsSilent (answer.Tick (Ok count)) = ⊤
IsSilent (answer.Tick (Err refusal)) = ⊥
IsSilent (answer.Turn turned) = ⊥
IsSilent (answer.Reply taken) = ⊥
IsSilent (answer.Collect collected) = ⊥
IsSilent (answer.Stop stopped) = ⊥
IsSilent (answer.TakeOut message) = ⊥

module _ {M S D C : Type 0} (callbacks : M → Callbacks S D C) where
  -- what is next was done, it was not refused, and no observer is told of it
  pub record ServesSilently (old : Machine M S D C) (new : Machine M S D C) : Type 0 where
    pub command : Command C
    pub answer : Answer S C
    pub is_next : IsNext old.machine command
    pub silent : IsSilent answer
    pub does : Does callbacks old command answer new

  -- that, or nothing was done
  abbrev pub ServesSilentlyOrNot : Machine M S D C → Machine M S D C → Type 0
  ServesSilentlyOrNot old new = ServesSilently old new ⊎ (new ≡ old)
