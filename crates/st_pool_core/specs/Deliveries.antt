-- What becomes of the messages that machines send: of each machine's, in their order, first those that were
-- delivered, then that in transit, then those in its outbox.
use Rattle.std.specs.Prelude.{◌≡◌, ℕ, if◌then◌else◌, Option, Some, None, Ok, List, [], ◌∷◌, ◌++◌, drop, length, All}
use Rattle.st_events.specs.declared.machine_id.MachineId.{MachineId}
use Rattle.st_events.specs.declared.message.Message.{Message}
use Rattle.st_events.specs.declared.refusal.Refusal.{Refusal}
use Rattle.st_events.specs.declared.refusal.Refusal.TheVariants as refusal
use Rattle.st_events.specs.declared.token.Token.{Token}
use Rattle.st_outbox.specs.Outbox.{message_numbers, AreFrom}
use Rattle.st_answers.specs.declared.answer.Answer.{Answer}
use Rattle.st_answers.specs.declared.answer.Answer.TheVariants as core_answer
use Rattle.st_answers.specs.declared.command.Command.{Command}
use Rattle.st_answers.specs.declared.command.Command.TheVariants as command
use Rattle.st_answers.specs.declared.entry.Entry.TheVariants.{Info}
use Rattle.st_core.specs.Callbacks.{Callbacks}
use Rattle.st_core.specs.Transition.{turn_of}
use Rattle.st_scheduled.specs.declared.step_answer.StepAnswer.{StepAnswer}
use Rattle.st_scheduled.specs.declared.step_answer.StepAnswer.TheVariants as answer
use Rattle.st_scheduled.specs.ScheduledMachine.{ScheduledMachine, same_id, id_of}
use Rattle.st_pool_core.specs.declared.step.Step.{Step}
use Rattle.st_pool_core.specs.declared.step.Step.TheVariants as step
use Rattle.st_pool_core.specs.PoolState.{PoolState, machine_of}
use Rattle.st_pool_core.specs.Queues.{hand_in}
use Rattle.st_pool_core.specs.Transit.{message_in, if_from, transit_of}
use Rattle.st_pool_core.specs.Play.{left_by, history_of}

-- what became of a message: it was posted to its target, as the event of this number; or it was lost, and why
pub data Fate : Type 0 where
  Arrived : ℕ → Fate
  WasLost : Refusal → Fate

-- a message that was delivered, with its fate
pub record Delivery (C : Type 0) : Type 0 where
  pub message : Message C
  pub fate : Fate

-- a message is lost where its target has ended, has too few numbers left, or is not there
abbrev pub IsWhyLost : Refusal → Type 0
IsWhyLost (refusal.Stopped reason) = Unit {0}
IsWhyLost refusal.Exhausted = Unit {0}
IsWhyLost refusal.NoSuchMachine = Unit {0}
IsWhyLost _ = ⊥

-- a message arrived, or was lost for such a reason
abbrev pub IsFate : Fate → Type 0
IsFate (Arrived number) = Unit {0}
IsFate (WasLost why) = IsWhyLost why

module _ {S C : Type 0} where
  -- the delivery of the message that a worker carries, by what it was answered
  abbrev pub delivery_by : Option (Message C) → StepAnswer S C → List (Delivery C)
  delivery_by (Some message) (answer.Posted number wake) = record { message = message; fate = Arrived number } ∷ []
  delivery_by (Some message) (answer.Lost why) = record { message = message; fate = WasLost why } ∷ []
  delivery_by _ _ = []

  -- the post that a delivery made at this machine, with what it was answered, if it made one there
  abbrev pub arrival_by : MachineId → Message C → Fate → List (Command C × Answer S C)
  arrival_by id message (Arrived number) =
      if same_id id message.target then (command.Post Info message.content, core_answer.Post (Ok number)) ∷ [] else []
  arrival_by id message (WasLost why) = []

  -- the posts that deliveries made at this machine, in order
  abbrev pub arrivals_at : MachineId → List (Delivery C) → List (Command C × Answer S C)
  arrivals_at id [] = []
  arrivals_at id (delivery ∷ deliveries) = arrival_by id delivery.message delivery.fate ++ arrivals_at id deliveries

  -- the numbers of the messages that a report lists, if a turn reported
  abbrev pub reported_by : StepAnswer S C → List ℕ
  reported_by (answer.Turned report) = report.sent
  reported_by _ = []

-- of deliveries the messages that this machine sent
abbrev pub delivered_from : {C : Type 0} → MachineId → List (Delivery C) → List (Message C)
delivered_from id [] = []
delivered_from id (delivery ∷ deliveries) = if_from id delivery.message (delivered_from id deliveries)

-- these stand among those, in their order
pub data StandIn {X : Type 0} : List X → List X → Type 0 where
  nothing : StandIn [] []
  passed : {some all : List X} (x : X) → StandIn some all → StandIn some (x ∷ all)
  shared : {some all : List X} (x : X) → StandIn some all → StandIn (x ∷ some) (x ∷ all)

-- what a turn of this machine reports, if the step is one of its turns
abbrev pub if_turn_of : {X : Type 0} → MachineId → Option Token → List X → List X
if_turn_of id None numbers = []
if_turn_of id (Some token) numbers = if same_id id token.machine then numbers else []

module _ {M S D C : Type 0} where
  -- a machine's messages are its own
  abbrev pub HasOwnMessages : ScheduledMachine M S D C → Type 0
  HasOwnMessages scheduled = AreFrom (id_of scheduled) scheduled.core.machine.outbox.messages

  -- the outbox of a machine that may be there
  abbrev pub outbox_at : Option (ScheduledMachine M S D C) → List (Message C)
  outbox_at None = []
  outbox_at (Some scheduled) = scheduled.core.machine.outbox.messages

  -- a pool's messages are in order: each worker has a second hand; each machine's outbox has its own messages alone;
  -- and a worker that carries a message has the token of the machine that sent it
  pub record CarriesOwn (pool : PoolState M S D C) : Type 0 where
    pub hands : length pool.transit ≡ length pool.queues.workers
    pub own : All HasOwnMessages pool.machines
    pub carried : (worker : ℕ) (message : Message C) → message_in pool.transit worker ≡ Some message
        → (token : Token) × (hand_in pool.queues worker ≡ Some token) × (token.machine ≡ message.sender)

  module _ (callbacks : M → Callbacks S D C) where
    -- the messages that a turn of a machine sends: those that are new in its outbox
    abbrev pub sent_at : ℕ → Option (ScheduledMachine M S D C) → List (Message C)
    sent_at now None = []
    sent_at now (Some old) =
        let machine = old.core.machine in
        drop (length machine.outbox.messages) (turn_of (callbacks old.core.module_) machine now).1.outbox.messages

    -- what this machine sends by a step with this answer: only a turn that reports sends
    abbrev pub sent_in : MachineId → PoolState M S D C → Step C → StepAnswer S C → List (Message C)
    sent_in id pool (step.Turn worker now) (answer.Turned report) =
        if_turn_of id (hand_in pool.queues worker) (sent_at now (machine_of id pool.machines))
    sent_in id pool _ _ = []

    -- the numbers of what it sends, by the step's report
    abbrev pub reported_in : MachineId → PoolState M S D C → Step C → StepAnswer S C → List ℕ
    reported_in id pool (step.Turn worker now) said = if_turn_of id (hand_in pool.queues worker) (reported_by said)
    reported_in id pool _ _ = []

    -- the delivery of a step with this answer, if it is one
    abbrev pub delivered_in : PoolState M S D C → Step C → StepAnswer S C → List (Delivery C)
    delivered_in pool (step.Deliver worker) said = delivery_by (message_in pool.transit worker) said
    delivered_in pool _ _ = []

    -- what this machine sends by steps with these answers, in order
    abbrev pub sent_of : MachineId → PoolState M S D C → List (Step C) → List (StepAnswer S C) → List (Message C)
    sent_of id pool [] answers = []
    sent_of id pool (step ∷ steps) [] = []
    sent_of id pool (step ∷ steps) (said ∷ answers) =
        sent_in id pool step said ++ sent_of id (left_by callbacks pool step said) steps answers

    -- the numbers of what it sends, by the reports
    abbrev pub reported_of : MachineId → PoolState M S D C → List (Step C) → List (StepAnswer S C) → List ℕ
    reported_of id pool [] answers = []
    reported_of id pool (step ∷ steps) [] = []
    reported_of id pool (step ∷ steps) (said ∷ answers) =
        reported_in id pool step said ++ reported_of id (left_by callbacks pool step said) steps answers

    -- the deliveries of steps with these answers, in order
    abbrev pub deliveries_of : PoolState M S D C → List (Step C) → List (StepAnswer S C) → List (Delivery C)
    deliveries_of pool [] answers = []
    deliveries_of pool (step ∷ steps) [] = []
    deliveries_of pool (step ∷ steps) (said ∷ answers) =
        delivered_in pool step said ++ deliveries_of (left_by callbacks pool step said) steps answers

    -- what was in transit, then what was in the outbox, then what was sent is what was delivered, then what is in
    -- transit, then what is in the outbox
    abbrev pub SendsInOrder : MachineId → PoolState M S D C → List (Step C) → List (StepAnswer S C) → PoolState M S D C → Type 0
    SendsInOrder id old steps answers new =
        transit_of id old.transit ++ (outbox_at (machine_of id old.machines) ++ sent_of id old steps answers)
        ≡ delivered_from id (deliveries_of old steps answers) ++ (transit_of id new.transit ++ outbox_at (machine_of id new.machines))

    -- messages go their way in a play: each machine's in its own order, as its reports list them; each that
    -- arrived is a post among its target's own commands, in order; and each other was lost for a reason
    pub record KeepsMessages (old : PoolState M S D C) (steps : List (Step C)) (answers : List (StepAnswer S C)) (new : PoolState M S D C) : Type 0 where
      pub in_order : (id : MachineId) → SendsInOrder id old steps answers new
      pub reported : (id : MachineId) → message_numbers (sent_of id old steps answers) ≡ reported_of id old steps answers
      pub arrived : (id : MachineId) → StandIn (arrivals_at id (deliveries_of old steps answers)) (history_of callbacks id old steps answers)
      pub fates : All (λ (delivery : Delivery C). IsFate delivery.fate) (deliveries_of old steps answers)
