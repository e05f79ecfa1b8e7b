-- The definitions of messages between machines computed on an example.
use Rattle.std.proofs.Common.{◌≡◌, ℕ, ◌==◌, if◌then◌else◌, Some, None, Ok, List, [], ◌∷◌, false, refl}
use Rattle.st_events.specs.declared.action.Action.{Action}
use Rattle.st_events.specs.declared.action.Action.TheVariants as action
use Rattle.st_events.specs.declared.enter_outcome.EnterOutcome.TheVariants as enter
use Rattle.st_events.specs.declared.kind.Kind.TheVariants as kind
use Rattle.st_events.specs.declared.machine_id.MachineId.{MachineId}
use Rattle.st_events.specs.declared.message.Message.{Message}
use Rattle.st_events.specs.declared.outcome.Outcome.TheVariants as outcome
use Rattle.st_events.specs.declared.refusal.Refusal.TheVariants as refusal
use Rattle.st_events.specs.declared.token.Token.{Token}
use Rattle.st_answers.specs.declared.answer.Answer.TheVariants as core_answer
use Rattle.st_answers.specs.declared.call.Call.TheVariants.{Handle}
use Rattle.st_answers.specs.declared.command.Command.TheVariants as command
use Rattle.st_answers.specs.declared.done.Done.TheVariants.{Finished}
use Rattle.st_answers.specs.declared.entry.Entry.TheVariants.{Cast, Info}
use Rattle.st_core.specs.Callbacks.{Callbacks}
use Rattle.st_core.specs.MachineState.{Machine}
use Rattle.st_core.specs.Start.{first_state}
use Rattle.st_scheduled.specs.declared.step_answer.StepAnswer.{StepAnswer}
use Rattle.st_scheduled.specs.declared.step_answer.StepAnswer.TheVariants as said
use Rattle.st_pool_core.specs.declared.step.Step.{Step}
use Rattle.st_pool_core.specs.declared.step.Step.TheVariants as step
use Rattle.st_pool_core.specs.Opening.{opened}
use Rattle.st_pool_core.specs.PoolState.{PoolState}
use Rattle.st_pool_core.specs.Step.{step_in}
use Rattle.st_pool_core.specs.Play.{history_of}
use Rattle.st_pool_core.specs.Deliveries.{Arrived, WasLost, deliveries_of, reported_of}

abbrev first_id : MachineId
first_id = record { slot = 0; serial = 1 }

abbrev second_id : MachineId
second_id = record { slot = 1; serial = 2 }

abbrev absent_id : MachineId
absent_id = record { slot = 2; serial = 3 }

-- a content of 1 has two messages sent to the second machine, one of 2 one to a machine that is not there
abbrev asked_by : ℕ → List (Action ℕ)
asked_by content =
    if content == 1 then action.Send second_id 5 ∷ action.Send second_id 6 ∷ []
    else (if content == 2 then action.Send absent_id 7 ∷ [] else [])

abbrev table : ℕ → Callbacks ℕ ℕ ℕ
table number = record {
  handle_is = λ kind content state held. outcome.KeepStateAndData (asked_by content);
  enters_is = false;
  enter_is = λ old state held. enter.KeepStateAndData [];
  terminate_is = λ reason state held. held;
  same_state = λ state other. state == other;
}

abbrev core_of : MachineId → Machine ℕ ℕ ℕ ℕ
core_of id = record { module_ = 0; machine = first_state id 0 7 0 1 }

abbrev first_pool : PoolState ℕ ℕ ℕ ℕ
first_pool = opened 2 (core_of first_id ∷ core_of second_id ∷ [])

-- the answers to steps that find their memory
abbrev answers_to : PoolState ℕ ℕ ℕ ℕ → List (Step ℕ) → List (StepAnswer ℕ ℕ)
answers_to pool [] = []
answers_to pool (one ∷ steps) = (step_in table pool one).0 ∷ answers_to (step_in table pool one).1 steps

abbrev token_at : MachineId → ℕ → Token
token_at id wake = record { machine = id; wake = wake }

abbrev steps : List (Step ℕ)
steps =
    step.Post first_id Cast 1 ∷ step.Give (token_at first_id 1) 0 ∷ step.Take 1 0 ∷ step.Turn 1 0
    ∷ step.Carry 1 ∷ step.Turn 1 0 ∷ step.Drop 1 ∷ step.Deliver 1 ∷ step.Deliver 1
    ∷ step.Carry 1 ∷ step.Stop second_id 3 ∷ step.Deliver 1 ∷ step.Carry 1 ∷ step.Turn 1 9223372036854775808 ∷ []

-- two messages are sent; one arrives, and one is lost, since its target was stopped meanwhile. What a worker that carries
-- a message may not do is refused, and the last turn, which finds nothing, looks at no moment
answered : answers_to first_pool steps
    ≡ said.Posted 1 (Some (token_at first_id 1)) ∷ said.Moved ∷ said.Moved
    ∷ said.Turned (record { event = Some 1; done = Finished; calls = Handle 1 kind.Cast 0 ∷ []; before = 0; after = 0; replied = []; inserted = []; set = []; sent = 1 ∷ 2 ∷ [] })
    ∷ said.Moved
    ∷ said.Refused (record { refusal = refusal.NotPossible; value = None })
    ∷ said.Refused (record { refusal = refusal.NotPossible; value = None })
    ∷ said.Posted 1 (Some (token_at second_id 1))
    ∷ said.Refused (record { refusal = refusal.NotPossible; value = None })
    ∷ said.Moved ∷ said.Stopped 7 ∷ said.Lost (refusal.Stopped 3)
    ∷ said.Refused (record { refusal = refusal.NotPossible; value = None })
    ∷ said.Rested ∷ []
answered = refl

abbrev message_of : ℕ → ℕ → Message ℕ
message_of number content = record { sender = first_id; number = number; target = second_id; content = content }

delivered : deliveries_of table first_pool steps (answers_to first_pool steps)
    ≡ record { message = message_of 1 5; fate = Arrived 1 } ∷ record { message = message_of 2 6; fate = WasLost (refusal.Stopped 3) } ∷ []
delivered = refl

reported : reported_of table first_id first_pool steps (answers_to first_pool steps) ≡ 1 ∷ 2 ∷ []
reported = refl

-- the sender took its post, its turn and two take-outs, and the target a post and its stop
history : history_of table second_id first_pool steps (answers_to first_pool steps)
    ≡ (command.Post Info 5, core_answer.Post (Ok 1)) ∷ (command.Stop 3, core_answer.Stop (Ok 7)) ∷ []
history = refl

-- a machine with a message keeps its token, where a turn finds no event; a message to a machine that is not there is lost
abbrev steps_to_none : List (Step ℕ)
steps_to_none =
    step.Post first_id Cast 2 ∷ step.Give (token_at first_id 1) 0 ∷ step.Take 2 0 ∷ step.Turn 2 0 ∷ step.Turn 2 9223372036854775808
    ∷ step.PutBack 2 ∷ step.Take 1 2 ∷ step.Carry 1 ∷ step.Deliver 1 ∷ step.Turn 1 0 ∷ []

lost : answers_to first_pool steps_to_none
    ≡ said.Posted 1 (Some (token_at first_id 1)) ∷ said.Moved ∷ said.Moved
    ∷ said.Turned (record { event = Some 1; done = Finished; calls = Handle 1 kind.Cast 0 ∷ []; before = 0; after = 0; replied = []; inserted = []; set = []; sent = 1 ∷ [] })
    ∷ said.Moved ∷ said.Moved ∷ said.Moved ∷ said.Moved ∷ said.Lost refusal.NoSuchMachine ∷ said.Rested ∷ []
lost = refl
