-- The steps by which a worker uses the token in its hand, while it carries no message: possible, and not possible.
use Rattle.std.proofs.Common.{◌≡◌, ℕ, ◌<◌, ◌≤◌, Bool, true, false, inl, inr, ⊎_elim, Option, Some, None, Ok, Err, List, length, refl, sym}
use Rattle.std.proofs.lemmas.Bool.{cases_Bool}
use Rattle.std.specs.Prelude.{if◌then◌else◌}
use Rattle.st_events.specs.declared.machine_id.MachineId.{MachineId}
use Rattle.st_events.specs.declared.message.Message.{Message}
use Rattle.st_events.specs.declared.token.Token.{Token}
use Rattle.st_events.specs.declared.refusal.Refusal.{Refusal}
use Rattle.st_events.specs.declared.refusal.Refusal.TheVariants.{NotPossible}
use Rattle.st_core.specs.Callbacks.{Callbacks}
use Rattle.st_pool_core.specs.declared.step.Step.TheVariants as step
use Rattle.st_scheduled.specs.declared.step_answer.StepAnswer.{StepAnswer}
use Rattle.st_scheduled.specs.declared.step_answer.StepAnswer.TheVariants as said
use Rattle.st_scheduled.specs.ScheduledMachine.{ScheduledMachine, has_message, moved}
use Rattle.st_scheduled.specs.Serving.{refused_with}
use Rattle.st_pool_core.specs.Balance.{IsBalanced}
use Rattle.st_pool_core.specs.Machines.{ServesAt, GivesOne}
use Rattle.st_pool_core.specs.PoolState.{PoolState, machine_of, changed_for, holds_of}
use Rattle.st_pool_core.specs.Queues.{has_lane, hand_in, handed, pushed}
use Rattle.st_pool_core.specs.Transit.{is_carrying, with_message}
use Rattle.st_pool_core.specs.Step.{IsFreeHand, unless_carrying, turn_of_hand, put_back_of, drop_of, carry_found, carry_of, DoesStep}
use Rattle.st_pool_core.proofs.QueueLemmas.{hand_there, hand_has_lane}
use Rattle.st_pool_core.proofs.PoolLemmas.{same_error, serves-in, carries-in, carry_refused-in}

module _ {M S D C : Type 0} where
  -- what is in a hand that is free
  pub held_is : (pool : PoolState M S D C) (worker : ℕ) (token : Token) → IsFreeHand pool worker (Some token)
      → (is_carrying pool.transit worker ≡ false) × (hand_in pool.queues worker ≡ Some token)
  held_is pool worker token free = elim (cases_Bool (is_carrying pool.transit worker)) [
    | inl carries ↦ let held = rw carries at free.is in cc
    | inr empty ↦ let held = rw empty at free.is in (empty, sym held)
  ]

  pub held_there : (pool : PoolState M S D C) (worker : ℕ) (token : Token) → IsFreeHand pool worker (Some token) → (0 < worker) × (worker ≤ length pool.queues.workers)
  held_there pool worker token free = hand_there pool.queues worker token (held_is pool worker token free).1

  pub held_has_lane : (pool : PoolState M S D C) (worker : ℕ) (token : Token) → IsFreeHand pool worker (Some token) → has_lane pool.queues worker ≡ true
  held_has_lane pool worker token free = hand_has_lane pool.queues worker token (held_is pool worker token free).1

module _ {M S D C : Type 0} (callbacks : M → Callbacks S D C) where
  -- ---- a hand that is empty, or whose worker carries a message
  not_free : (pool : PoolState M S D C) (worker : ℕ) (used : Option Token → StepAnswer S C × PoolState M S D C) → IsFreeHand pool worker None
      → used None ≡ (refused_with NotPossible None, pool) → unless_carrying pool worker (used (hand_in pool.queues worker)) ≡ (refused_with NotPossible None, pool)
  not_free pool worker used free none = elim (cases_Bool (is_carrying pool.transit worker)) [
    | inl carries ↦ rw carries refl
    | inr empty ↦ let held = rw empty at free.is in rw (empty, ← held) none
  ]

  pub turn-not_free : (pool : PoolState M S D C) (worker now : ℕ) → IsFreeHand pool worker None
      → DoesStep callbacks pool (step.Turn worker now) (refused_with NotPossible None) pool
  turn-not_free pool worker now free = rw (not_free pool worker (turn_of_hand callbacks pool worker now) free refl) (inl (refl, refl))

  pub carry-not_free : (pool : PoolState M S D C) (worker : ℕ) → IsFreeHand pool worker None
      → DoesStep callbacks pool (step.Carry worker) (refused_with NotPossible None) pool
  carry-not_free pool worker free = rw (not_free pool worker (carry_of callbacks pool worker) free refl) (inl (refl, refl))

  pub put_back-not_free : (pool : PoolState M S D C) (worker : ℕ) → IsFreeHand pool worker None
      → DoesStep callbacks pool (step.PutBack worker) (refused_with NotPossible None) pool
  put_back-not_free pool worker free = rw (not_free pool worker (put_back_of pool worker) free refl) (inl (refl, refl))

  pub drop-not_free : (pool : PoolState M S D C) (worker : ℕ) → IsFreeHand pool worker None
      → DoesStep callbacks pool (step.Drop worker) (refused_with NotPossible None) pool
  drop-not_free pool worker free = rw (not_free pool worker (drop_of pool worker) free refl) (inl (refl, refl))

  -- ---- a turn, and a carry
  -- the machine of the token in a free hand was served, or it is not there
  pub turn-done : (pool : PoolState M S D C) (worker : ℕ) (token : Token) (now : ℕ) (answer : StepAnswer S C) (keeps : Bool) (machines : List (ScheduledMachine M S D C))
      → IsBalanced pool → IsFreeHand pool worker (Some token) → ServesAt callbacks pool.machines token.machine now answer keeps machines
      → DoesStep callbacks pool (step.Turn worker now) answer (record pool { machines = machines; queues = if keeps then pool.queues else handed pool.queues worker None })
  turn-done pool worker token now answer keeps machines balanced free done =
      let held = held_is pool worker token free in elim done.serves [
        | inl missing ↦ rw (held.0, held.1, missing.2, missing.0, missing.1, missing.3) (inl (refl, refl))
        | inr served ↦ serves-in callbacks pool worker token now answer keeps machines balanced held.0 held.1 served
      ]

  -- it has no message, or is not there
  no_message : (pool : PoolState M S D C) (worker : ℕ) (id : MachineId) (found : Option (ScheduledMachine M S D C))
      → holds_of (λ (one : ScheduledMachine M S D C). has_message one.core) found ≡ false
      → carry_found callbacks pool worker id found ≡ (refused_with NotPossible None, pool)
  no_message pool worker id None none = refl
  no_message pool worker id (Some old) none = rw none refl

  -- it gave its first message
  pub carry-done : (pool : PoolState M S D C) (worker : ℕ) (token : Token) (message : Option (Message C)) (machines : List (ScheduledMachine M S D C))
      → IsFreeHand pool worker (Some token) → GivesOne callbacks pool.machines token.machine (Ok message) machines
      → DoesStep callbacks pool (step.Carry worker) said.Moved (record pool { machines = machines; transit = with_message pool.transit worker message })
  carry-done pool worker token message machines free given =
      let held = held_is pool worker token free in
      ⊎_elim
      (λ none. let other = none.0 in cc)
      (λ gave. carries-in callbacks pool worker token message machines held.0 held.1 gave.0 gave.1)
      given.gives

  -- it gave none
  pub carry-refused : (pool : PoolState M S D C) (worker : ℕ) (token : Token) (refusal : Refusal) (machines : List (ScheduledMachine M S D C))
      → IsFreeHand pool worker (Some token) → GivesOne callbacks pool.machines token.machine (Err refusal) machines
      → DoesStep callbacks pool (step.Carry worker) (refused_with refusal None) (record pool { machines = machines })
  carry-refused pool worker token refusal machines free given =
      let held = held_is pool worker token free in
      ⊎_elim
      (λ none. rw (held.0, held.1, no_message pool worker token.machine (machine_of token.machine pool.machines) none.1, same_error _ refusal NotPossible refl none.0, none.2) (inl (refl, refl)))
      (λ gave. carry_refused-in callbacks pool worker token refusal machines held.0 held.1 gave.0 gave.1)
      given.gives

  -- ---- a token that is put back or dropped
  pub put_back-done : (pool : PoolState M S D C) (worker : ℕ) (token : Token) → IsFreeHand pool worker (Some token)
      → DoesStep callbacks pool (step.PutBack worker) said.Moved (record pool { queues = handed (pushed pool.queues worker token) worker None })
  put_back-done pool worker token free = let held = held_is pool worker token free in rw (held.0, held.1) (inl (refl, refl))

  pub drop-done : (pool : PoolState M S D C) (worker : ℕ) (token : Token) → IsFreeHand pool worker (Some token)
      → DoesStep callbacks pool (step.Drop worker) said.Moved
      (record pool { machines = changed_for token.machine (moved true) pool.machines; queues = handed pool.queues worker None })
  drop-done pool worker token free = let held = held_is pool worker token free in rw (held.0, held.1) (inl (refl, refl))
