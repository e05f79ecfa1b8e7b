-- A pool as a plain value: its machines, and where their tokens stand.
use Rattle.std.specs.Prelude.{◌≡◌, ℕ, Bool, false, if◌then◌else◌, Option, Some, None, List, [], ◌∷◌, ◌++◌, map, position}
use Rattle.st_events.specs.declared.machine_id.MachineId.{MachineId}
use Rattle.st_events.specs.declared.message.Message.{Message}
use Rattle.st_events.specs.declared.token.Token.{Token}
use Rattle.st_scheduled.specs.ScheduledMachine.{same_id, callers_token, ScheduledMachine, has_message, id_of, token_of, is_token_of, is_with_callers_of}
use Rattle.st_pool_core.specs.Queues.{Queues}

-- the machines, in the order in which they came; the run queues with the workers' hands; and what each worker
-- carries. A token that is in no run queue and no hand is with callers, which is noted at its machine
pub record PoolState (M S D C : Type 0) : Type 0 where
  pub machines : List (ScheduledMachine M S D C)
  pub queues : Queues
  pub transit : List (Option (Message C))

module _ {M S D C : Type 0} where
  -- the machine of an id
  abbrev pub machine_of : MachineId → List (ScheduledMachine M S D C) → Option (ScheduledMachine M S D C)
  machine_of id [] = None
  machine_of id (scheduled ∷ others) = if same_id id (id_of scheduled) then Some scheduled else machine_of id others

  -- the place of the machine of an id
  abbrev pub place_of : MachineId → List (ScheduledMachine M S D C) → Option ℕ
  place_of id machines = position (same_id id) (map id_of machines)

  -- the machine of an id becomes another
  abbrev pub changed_for : MachineId → (ScheduledMachine M S D C → ScheduledMachine M S D C) → List (ScheduledMachine M S D C) → List (ScheduledMachine M S D C)
  changed_for id f [] = []
  changed_for id f (scheduled ∷ others) =
      if same_id id (id_of scheduled) then f scheduled ∷ others else scheduled ∷ changed_for id f others

  -- no two machines have one id
  abbrev pub OneEach : List (ScheduledMachine M S D C) → Type 0
  OneEach [] = Unit {0}
  OneEach (scheduled ∷ others) = (machine_of (id_of scheduled) others ≡ None) × OneEach others

  -- the tokens that are with callers, in the order of their machines
  abbrev pub with_callers_in : List (ScheduledMachine M S D C) → List Token
  with_callers_in [] = []
  with_callers_in (scheduled ∷ others) = callers_token scheduled.token (id_of scheduled) ++ with_callers_in others

  -- whether it holds of a machine that is there
  abbrev pub holds_of : (ScheduledMachine M S D C → Bool) → Option (ScheduledMachine M S D C) → Bool
  holds_of test None = false
  holds_of test (Some scheduled) = test scheduled

  -- whether a token is the outstanding one of its machine
  abbrev pub is_outstanding : List (ScheduledMachine M S D C) → Token → Bool
  is_outstanding machines token = holds_of (is_token_of token) (machine_of token.machine machines)

  -- whether a token is with callers
  abbrev pub is_with_callers : List (ScheduledMachine M S D C) → Token → Bool
  is_with_callers machines token = holds_of (is_with_callers_of token) (machine_of token.machine machines)

  -- whether the machine of an id has a message that was not taken out yet
  abbrev pub has_messages : List (ScheduledMachine M S D C) → MachineId → Bool
  has_messages machines id = holds_of (λ (one : ScheduledMachine M S D C). has_message one.core) (machine_of id machines)

  -- the outstanding token of a machine that may be there
  abbrev pub token_at : Option (ScheduledMachine M S D C) → Option Token
  token_at None = None
  token_at (Some scheduled) = token_of scheduled
