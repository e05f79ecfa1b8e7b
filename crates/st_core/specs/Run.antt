-- A list of commands, from the machine before it to the machine after it.
use Rattle.std.specs.Prelude.{◌≡◌, ℕ, ◌⊎◌, Bool, true, false, List, [], ◌∷◌, None, Result, Ok, Err}
use Rattle.std.specs.Result.{is_err}
use Rattle.st_requests.specs.declared.collected.Collected.TheVariants.{Gone}
use Rattle.st_events.specs.declared.refused.Refused.{Refused}
use Rattle.st_events.specs.declared.refusal.Refusal.{Refusal}
use Rattle.st_events.specs.declared.refusal.Refusal.TheVariants.{NoMemory}
use Rattle.st_answers.specs.declared.turned.Turned.{Turned}
use Rattle.st_answers.specs.declared.turned.Turned.TheVariants.{Reported, Idle}
use Rattle.st_answers.specs.declared.command.Command.{Command}
use Rattle.st_answers.specs.declared.command.Command.TheVariants as command
use Rattle.st_answers.specs.declared.answer.Answer.{Answer}
use Rattle.st_answers.specs.declared.answer.Answer.TheVariants as answer
use Rattle.st_core.specs.declared.machine_state.MachineState.{MachineState}
use Rattle.st_core.specs.MachineState.{Machine}
use Rattle.st_core.specs.Callbacks.{Callbacks}
use Rattle.st_core.specs.Transition.{turn_of, comes_after_callbacks}
use Rattle.st_core.specs.Stop.{stop_of}
use Rattle.st_core.specs.Tick.{tick_of, tick_takes_memory}
use Rattle.st_core.specs.Post.{post_of}
use Rattle.st_core.specs.Replies.{reply_to, collect_of}
use Rattle.st_core.specs.Messages.{take_out_of}

-- a turn takes memory where there is an event to handle, also where too few numbers are left
abbrev pub turn_takes_memory : {S : Type 0} → Result (Turned S) Refusal → Bool
turn_takes_memory (Ok (Reported report)) = true
turn_takes_memory (Ok Idle) = false
turn_takes_memory (Err refusal) = comes_after_callbacks refusal

-- a post takes memory where it is not refused
abbrev pub post_takes_memory : {C : Type 0} → Result ℕ (Refused C) → Bool
post_takes_memory (Ok number) = true
post_takes_memory (Err refused) = false

-- what a post answers that found no memory: the content comes back
abbrev pub post_without_memory : {C : Type 0} → C → Result ℕ (Refused C)
post_without_memory content = Err (record { refusal = NoMemory; value = content })

-- what a tick answers that found no memory
abbrev pub tick_without_memory : Result ℕ Refusal
tick_without_memory = Err NoMemory

-- what a turn answers that found no memory
abbrev pub turn_without_memory : {S : Type 0} → Result (Turned S) Refusal
turn_without_memory = Err NoMemory

module _ {S C : Type 0} where
  -- whether a command with this answer takes memory
  abbrev pub takes_memory : Answer S C → Bool
  takes_memory (answer.Post posted) = post_takes_memory posted
  takes_memory (answer.Tick ticked) = tick_takes_memory ticked
  takes_memory (answer.Turn turned) = turn_takes_memory turned
  takes_memory (answer.Reply taken) = false
  takes_memory (answer.Collect collected) = false
  takes_memory (answer.Stop stopped) = false
  takes_memory (answer.TakeOut message) = false

  -- whether an answer is a refusal
  abbrev pub is_refusal : Answer S C → Bool
  is_refusal (answer.Post posted) = is_err posted
  is_refusal (answer.Tick ticked) = is_err ticked
  is_refusal (answer.Turn turned) = is_err turned
  is_refusal (answer.Reply taken) = false
  is_refusal (answer.Collect collected) = false
  is_refusal (answer.Stop stopped) = is_err stopped
  is_refusal (answer.TakeOut message) = false

  -- what a command answers that found no memory; of one that takes none it is never said
  abbrev pub without_memory : Command C → Answer S C
  without_memory (command.Post entry content) = answer.Post (post_without_memory content)
  without_memory (command.Tick now) = answer.Tick tick_without_memory
  without_memory (command.Turn now) = answer.Turn turn_without_memory
  without_memory (command.Reply tag content) = answer.Reply false
  without_memory (command.Collect tag) = answer.Collect Gone
  without_memory (command.Stop reason) = answer.Stop (Err NoMemory)
  without_memory command.TakeOut = answer.TakeOut None

-- the answer and the machine after are those of the definition; or the definition's answer takes
-- memory, there was none, the answer says so, and the machine is as it was
abbrev pub Meets : {A T : Type 0} → (A → Bool) → A → A → T → T → A × T → Type 0
Meets takes_memory without_memory answer old new definition =
    ((answer ≡ definition.0) × (new ≡ definition.1))
    ⊎ ((takes_memory definition.0 ≡ true) × (answer ≡ without_memory) × (new ≡ old))

module _ {S D C : Type 0} where
  -- one command: what it answers, and what it leaves
  abbrev pub step_of : Callbacks S D C → MachineState S D C → Command C → Answer S C × MachineState S D C
  step_of callbacks machine (command.Post entry content) =
      (answer.Post (post_of machine entry content).0, (post_of machine entry content).1)
  step_of callbacks machine (command.Tick now) =
      (answer.Tick (tick_of machine now).0, (tick_of machine now).1)
  step_of callbacks machine (command.Turn now) =
      (answer.Turn (turn_of callbacks machine now).0, (turn_of callbacks machine now).1)
  step_of callbacks machine (command.Reply tag content) =
      (answer.Reply (reply_to machine tag content).0, (reply_to machine tag content).1)
  step_of callbacks machine (command.Collect tag) =
      (answer.Collect (collect_of machine tag).0, (collect_of machine tag).1)
  step_of callbacks machine (command.Stop reason) =
      (answer.Stop (stop_of callbacks machine reason).0, (stop_of callbacks machine reason).1)
  step_of callbacks machine command.TakeOut = (answer.TakeOut (take_out_of machine).0, (take_out_of machine).1)

-- a machine's callbacks are those of its module, by the module's own definitions
module _ {M S D C : Type 0} (callbacks : M → Callbacks S D C) where
  -- one command of a machine: what it answers, and what it leaves; the module never changes
  abbrev pub step_on : Machine M S D C → Command C → Answer S C × Machine M S D C
  step_on old command =
      let step = step_of (callbacks old.module_) old.machine command in
      (step.0, record { module_ = old.module_; machine = step.1 })

  -- a command was done: answer and machine are those of the definition; or it found no memory, and changed
  -- nothing
  abbrev pub Does : Machine M S D C → Command C → Answer S C → Machine M S D C → Type 0
  Does old command answer new = Meets takes_memory (without_memory command) answer old new (step_on old command)

  -- these are the answers to these commands, one after another, and this is the machine in the end
  abbrev pub Runs : Machine M S D C → List (Command C) → List (Answer S C) → Machine M S D C → Type 0
  Runs old [] [] new = new ≡ old
  Runs old (command ∷ commands) (answer ∷ answers) new =
      (next : Machine M S D C) × Does old command answer next × Runs next commands answers new
  Runs old [] (answer ∷ answers) new = ⊥
  Runs old (command ∷ commands) [] new = ⊥
