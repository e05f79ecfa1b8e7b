-- Each worker that carries a message has the token of its sender, before and after each step.
use Rattle.std.proofs.Common.{◌≡◌, ℕ, ◌-◌, ◌<◌, inl, inr, Bool, true, false, ◌&&◌, if◌then◌else◌, Option, Some, None, is_some, List, length, All, refl, sym, ap, ◌∙◌}
use Rattle.std.proofs.lemmas.Bool.{and_parts}
use Rattle.std.proofs.lemmas.Bool.Decides.{eqb_tells}
use Rattle.st_events.specs.declared.machine_id.MachineId.{MachineId}
use Rattle.st_events.specs.declared.message.Message.{Message}
use Rattle.st_events.specs.declared.refusal.Refusal.TheVariants.{NotPossible}
use Rattle.st_events.specs.declared.token.Token.{Token}
use Rattle.st_outbox.specs.Outbox.{first_message}
use Rattle.st_answers.specs.declared.command.Command.{Command}
use Rattle.st_answers.specs.declared.command.Command.TheVariants as command
use Rattle.st_answers.specs.declared.entry.Entry.TheVariants.{Info}
use Rattle.st_core.specs.Callbacks.{Callbacks}
use Rattle.st_core.specs.Run.{Meets}
use Rattle.st_core.proofs.OutboxLemmas.{is_quiet}
use Rattle.st_scheduled.specs.declared.step_answer.StepAnswer.{StepAnswer}
use Rattle.st_scheduled.specs.declared.step_answer.StepAnswer.TheVariants as said
use Rattle.st_scheduled.specs.ScheduledMachine.{ScheduledMachine, id_of, has_message, moved}
use Rattle.st_scheduled.specs.Serving.{is_turn, refused_with, told_on, served_on}
use Rattle.st_pool_core.specs.declared.step.Step.{Step}
use Rattle.st_pool_core.specs.declared.step.Step.TheVariants.{Post, Tick, Give, Take, Turn, PutBack, Drop, Stop, Reply, Collect, Carry, Deliver}
use Rattle.st_pool_core.specs.Balance.{IsBalanced}
use Rattle.st_pool_core.specs.PoolState.{PoolState, machine_of, changed_for, is_with_callers}
use Rattle.st_pool_core.specs.Queues.{Queues, has_lane, hand_in, first_in, is_free, pushed, popped, handed, taken, with_hand}
use Rattle.st_pool_core.specs.Transit.{message_in, is_carrying, with_message}
use Rattle.st_pool_core.specs.Step.{give_of, take_step_of, put_back_of, drop_of, carried_by, delivered_by, unburdened, tell_found, serve_found, turn_of_hand, carry_found, carry_of, deliver_found, deliver_of, step_in, takes_memory, without_memory, DoesStep}
use Rattle.st_pool_core.specs.Deliveries.{HasOwnMessages, CarriesOwn}
use Rattle.st_pool_core.proofs.QueueLemmas.{workers-popped, workers-pushed, length-changed_at, hand_there, free_there}
use Rattle.st_pool_core.proofs.QueueCounts.{pushed_hand, popped_hand}
use Rattle.st_pool_core.proofs.MachineLookups.{found_id, found_all, changed_all}
use Rattle.st_pool_core.proofs.PlacedTokens.{given_token, held_token}
use Rattle.st_pool_core.proofs.WentLemmas.{IsOut, told_out}
use Rattle.st_pool_core.proofs.TransitLemmas.{hand_other, free_holds, message_other, message_there, not_carrying, message_put, message_gone, length-changed}
use Rattle.st_pool_core.proofs.CarryingLemmas.{messages_of, own_first, own_rest, own-append, told_keeps, told_keeps_id, told_out_keeps, served_sends, served_keeps_id}

-- as many workers are there after a hand changed
workers-handed : (queues : Queues) (worker : ℕ) (hand : Option Token) → length (handed queues worker hand).workers ≡ length queues.workers
workers-handed queues worker hand = length-changed_at (worker - 1) (with_hand hand) queues.workers

module _ {M S D C : Type 0} where
  -- ---- a pool whose queues, hands or machines changed
  module _ (pool : PoolState M S D C) (carries : CarriesOwn pool) where
    -- the machines changed, and each has its own messages
    machines_carry : (machines : List (ScheduledMachine M S D C)) → All HasOwnMessages machines → CarriesOwn (record pool { machines = machines })
    machines_carry machines own = record { hands = carries.hands; own = own; carried = carries.carried }

    -- one machine became another of the same id, which has its own messages
    pub changed_carry : (id : MachineId) (old new : ScheduledMachine M S D C) → machine_of id pool.machines ≡ Some old → HasOwnMessages new
        → CarriesOwn (record pool { machines = changed_for id (λ (one : ScheduledMachine M S D C). new) pool.machines })
    changed_carry id old new found own =
        machines_carry (changed_for id (λ (one : ScheduledMachine M S D C). new) pool.machines)
        (changed_all HasOwnMessages id (λ (one : ScheduledMachine M S D C). new) pool.machines old found own carries.own)

    -- queues and hands changed, but no hand of a worker that carries a message
    queues_carry : (queues : Queues) → length queues.workers ≡ length pool.queues.workers
        → ((worker : ℕ) (message : Message C) → message_in pool.transit worker ≡ Some message → hand_in queues worker ≡ hand_in pool.queues worker)
        → CarriesOwn (record pool { queues = queues })
    queues_carry queues same hands = record {
      hands = carries.hands ∙ sym same;
      own = carries.own;
      carried = λ worker message at.
          let there = carries.carried worker message at in
          (there.0, hands worker message at ∙ there.1, there.2);
    }

    -- the hand of a worker changed that carries no message
    handed_carry : (worker : ℕ) (hand : Option Token) → is_carrying pool.transit worker ≡ false → 0 < worker → CarriesOwn (record pool { queues = handed pool.queues worker hand })
    handed_carry worker hand free some =
        queues_carry (handed pool.queues worker hand) (workers-handed pool.queues worker hand)
        (λ other message at.
        let none = not_carrying pool.transit worker free in
        hand_other pool.queues worker other hand
        (λ same. let both : message_in pool.transit worker ≡ Some message = ap (λ (n : ℕ). message_in pool.transit n) same ∙ at in cc) some)

    -- a token went to a lane
    pushed_carry : (lane : ℕ) (token : Token) → CarriesOwn (record pool { queues = pushed pool.queues lane token })
    pushed_carry lane token =
        queues_carry (pushed pool.queues lane token) (workers-pushed pool.queues lane token) (λ worker message at. pushed_hand token pool.queues lane worker)

  either_carry : (test : Bool) (one other : StepAnswer S C × PoolState M S D C) → (test ≡ true → CarriesOwn one.1) → (test ≡ false → CarriesOwn other.1)
      → CarriesOwn (if test then one else other).1
  either_carry true one other h k = h refl
  either_carry false one other h k = k refl

  -- both a machine and the queues changed
  both_carry : (pool : PoolState M S D C) (machines : List (ScheduledMachine M S D C)) (queues : Queues) → CarriesOwn (record pool { machines = machines })
      → CarriesOwn (record pool { queues = queues }) → CarriesOwn (record pool { machines = machines; queues = queues })
  both_carry pool machines queues first second = record { hands = second.hands; own = first.own; carried = second.carried }

  -- ---- steps that move a token
  module _ (pool : PoolState M S D C) (balanced : IsBalanced pool) (carries : CarriesOwn pool) where
    give_carry : (token : Token) (lane : ℕ) → CarriesOwn (give_of pool token lane).1
    give_carry token lane =
        either_carry (is_with_callers pool.machines token && has_lane pool.queues lane) _ _
        (λ both.
        let parts = and_parts (is_with_callers pool.machines token) (has_lane pool.queues lane) both in
        let found = given_token pool.machines token parts.0 in
        both_carry pool (changed_for token.machine (moved false) pool.machines) (pushed pool.queues lane token)
        (machines_carry pool carries (changed_for token.machine (moved false) pool.machines)
        (changed_all HasOwnMessages token.machine (moved false) pool.machines found.0 found.1
        (found_all HasOwnMessages token.machine pool.machines found.0 found.1 carries.own) carries.own))
        (pushed_carry pool carries lane token))
        (λ no. carries)

    taken_carry : (worker lane : ℕ) (first : Option Token) → is_free pool.queues worker ≡ true → CarriesOwn (record pool { queues = (taken pool.queues worker lane first).1 })
    taken_carry worker lane None free = record { hands = carries.hands; own = carries.own; carried = carries.carried }
    taken_carry worker lane (Some token) free =
        queues_carry pool carries (handed (popped pool.queues lane) worker (Some token))
        (workers-handed (popped pool.queues lane) worker (Some token) ∙ workers-popped pool.queues lane)
        (λ other message at.
        let there = carries.carried other message at in
        hand_other (popped pool.queues lane) worker other (Some token)
        (λ same. free_holds pool.queues worker there.0 free (ap (λ (n : ℕ). hand_in pool.queues n) same ∙ there.1))
        (free_there pool.queues worker free).0
        ∙ popped_hand pool.queues lane other)

    take_by : (worker lane : ℕ) (free : Bool) → is_free pool.queues worker ≡ free
        → CarriesOwn (record pool { queues = (if◌then◌else◌ {A = Bool × Queues} free (taken pool.queues worker lane (first_in pool.queues lane)) (false, pool.queues)).1 })
    take_by worker lane true is = taken_carry worker lane (first_in pool.queues lane) is
    take_by worker lane false is = record { hands = carries.hands; own = carries.own; carried = carries.carried }

    take_carry : (worker lane : ℕ) → CarriesOwn (take_step_of pool worker lane).1
    take_carry worker lane = take_by worker lane (is_free pool.queues worker) refl

    guard_carry : (worker : ℕ) (done : StepAnswer S C × PoolState M S D C) → (is_carrying pool.transit worker ≡ false → CarriesOwn done.1)
        → CarriesOwn (if◌then◌else◌ {A = StepAnswer S C × PoolState M S D C} (is_carrying pool.transit worker) (refused_with NotPossible None, pool) done).1
    guard_carry worker done h =
        either_carry (is_carrying pool.transit worker) (refused_with NotPossible None, pool) done (λ carrying. carries) h

    put_back_carry : (worker : ℕ) (hand : Option Token) → hand_in pool.queues worker ≡ hand → is_carrying pool.transit worker ≡ false
        → CarriesOwn (put_back_of pool worker hand).1
    put_back_carry worker None held free = carries
    put_back_carry worker (Some token) held free =
        let there = hand_there pool.queues worker token held in
        let moved = handed_carry (record pool { queues = pushed pool.queues worker token }) (pushed_carry pool carries worker token) worker None free there.0 in
        record { hands = moved.hands; own = moved.own; carried = moved.carried }

    drop_carry : (worker : ℕ) (hand : Option Token) → hand_in pool.queues worker ≡ hand → is_carrying pool.transit worker ≡ false → CarriesOwn (drop_of pool worker hand).1
    drop_carry worker None held free = carries
    drop_carry worker (Some token) held free =
        let there = hand_there pool.queues worker token held in
        let found = held_token pool worker token balanced held in
        both_carry pool (changed_for token.machine (moved true) pool.machines) (handed pool.queues worker None)
        (machines_carry pool carries (changed_for token.machine (moved true) pool.machines)
        (changed_all HasOwnMessages token.machine (moved true) pool.machines found.0 found.1
        (found_all HasOwnMessages token.machine pool.machines found.0 found.1 carries.own) carries.own))
        (handed_carry pool carries worker None free there.0)

    module _ (callbacks : M → Callbacks S D C) where
      -- ---- commands and turns
      -- a machine's messages are its own after a command that is no turn and no take-out
      told_own : (id : MachineId) (command : Command C) → is_quiet command ≡ true → is_turn command ≡ false → (old : ScheduledMachine M S D C)
          → machine_of id pool.machines ≡ Some old → HasOwnMessages (told_on callbacks old command).1
      told_own id command quiet no_turn old found =
          rw (told_keeps_id callbacks old command no_turn, told_keeps callbacks old command quiet) (found_all HasOwnMessages id pool.machines old found carries.own)

      tell_carry : (id : MachineId) (command : Command C) → is_quiet command ≡ true → is_turn command ≡ false → (found : Option (ScheduledMachine M S D C))
          → machine_of id pool.machines ≡ found → CarriesOwn (tell_found callbacks pool id command found).1
      tell_carry id command quiet no_turn None at = carries
      tell_carry id command quiet no_turn (Some old) at =
          changed_carry pool carries id old (told_on callbacks old command).1 at (told_own id command quiet no_turn old at)

      served_own : (id : MachineId) (now : ℕ) (old : ScheduledMachine M S D C) → machine_of id pool.machines ≡ Some old → HasOwnMessages (served_on callbacks old now).1
      served_own id now old found =
          let sends = served_sends callbacks old now in
          rw (served_keeps_id callbacks old now, sends.messages)
          (own-append (id_of old) (messages_of old) sends.sent (found_all HasOwnMessages id pool.machines old found carries.own) sends.own)

      -- the hand is as it was, or empty
      kept_carry : (keeps : Bool) (worker : ℕ) → is_carrying pool.transit worker ≡ false → 0 < worker
          → CarriesOwn (record pool { queues = if keeps then pool.queues else handed pool.queues worker None })
      kept_carry true worker free some = record { hands = carries.hands; own = carries.own; carried = carries.carried }
      kept_carry false worker free some = handed_carry pool carries worker None free some

      serve_carry : (worker : ℕ) (id : MachineId) (now : ℕ) (found : Option (ScheduledMachine M S D C)) → machine_of id pool.machines ≡ found
          → is_carrying pool.transit worker ≡ false → 0 < worker → CarriesOwn (serve_found callbacks pool worker id now found).1
      serve_carry worker id now None at free some = carries
      serve_carry worker id now (Some old) at free some =
          let served = served_on callbacks old now in
          both_carry pool (changed_for id (λ (one : ScheduledMachine M S D C). served.1) pool.machines)
          (if is_some served.1.token then pool.queues else handed pool.queues worker None)
          (changed_carry pool carries id old served.1 at (served_own id now old at))
          (kept_carry (is_some served.1.token) worker free some)

      turn_carry : (worker now : ℕ) (hand : Option Token) → hand_in pool.queues worker ≡ hand → is_carrying pool.transit worker ≡ false
          → CarriesOwn (turn_of_hand callbacks pool worker now hand).1
      turn_carry worker now None held free = carries
      turn_carry worker now (Some token) held free =
          serve_carry worker token.machine now (machine_of token.machine pool.machines) refl free (hand_there pool.queues worker token held).0

      -- ---- messages
      -- a worker lays its message down
      laid_carry : (worker : ℕ) → 0 < worker → CarriesOwn (unburdened pool worker)
      laid_carry worker some = record {
        hands = length-changed (worker - 1) None pool.transit ∙ carries.hands;
        own = carries.own;
        carried = λ other message at.
            elim (eqb_tells worker other) [
              | inl same ↦ absurd (message_gone pool.transit worker message (ap (λ (n : ℕ). message_in (with_message pool.transit worker None) n) same.1 ∙ at))
              | inr apart ↦ carries.carried other message (sym (message_other pool.transit worker other None apart.1 some) ∙ at)
            ];
      }

      -- a worker takes one up of the machine whose token it has
      taken_up_carry : (worker : ℕ) (token : Token) (carried : Message C) → hand_in pool.queues worker ≡ Some token → token.machine ≡ carried.sender → 0 < worker
          → CarriesOwn (record pool { transit = with_message pool.transit worker (Some carried) })
      taken_up_carry worker token carried held is some = record {
        hands = length-changed (worker - 1) (Some carried) pool.transit ∙ carries.hands;
        own = carries.own;
        carried = λ other message at.
            elim (eqb_tells worker other) [
              | inl same ↦
                  let there : message_in (with_message pool.transit worker (Some carried)) worker ≡ Some message =
                  ap (λ (n : ℕ). message_in (with_message pool.transit worker (Some carried)) n) same.1 ∙ at in
                  let one : carried ≡ message = message_put pool.transit worker carried message there in
                  (token, ap (λ (n : ℕ). hand_in pool.queues n) (sym same.1) ∙ held, is ∙ ap (λ (m : Message C). m.sender) one)
              | inr apart ↦ carries.carried other message (sym (message_other pool.transit worker other (Some carried) apart.1 some) ∙ at)
            ];
      }

      -- a message is taken out, or the machine refused
      carried_carry : (worker : ℕ) (token : Token) (old after : ScheduledMachine M S D C) (answer : StepAnswer S C) → hand_in pool.queues worker ≡ Some token
          → machine_of token.machine pool.machines ≡ Some old → id_of after ≡ id_of old
          → ((message : Option (Message C)) → answer ≡ said.TakenOut message → (message ≡ first_message (messages_of old)) × HasOwnMessages after)
          → has_message old.core ≡ true → CarriesOwn (carried_by pool worker token.machine after answer).1
      carried_carry worker token old after (said.TakenOut None) held found keeps out some =
          let machine = changed_carry pool carries token.machine old after found (out None refl).1 in
          record {
            hands = length-changed (worker - 1) None pool.transit ∙ carries.hands;
            own = machine.own;
            carried = (laid_carry worker (hand_there pool.queues worker token held).0).carried;
          }
      carried_carry worker token old after (said.TakenOut (Some message)) held found keeps out some =
          let machine = changed_carry pool carries token.machine old after found (out (Some message) refl).1 in
          let own = found_all HasOwnMessages token.machine pool.machines old found carries.own in
          let sender = own_first (id_of old) (messages_of old) message (sym (out (Some message) refl).0) own in
          let up = taken_up_carry worker token message held (sym (sender ∙ found_id token.machine pool.machines old found)) (hand_there pool.queues worker token held).0 in
          record { hands = up.hands; own = machine.own; carried = up.carried }
      carried_carry worker token old after answer held found keeps out some = carries

      -- what a take-out gives
      out_first : (given : StepAnswer S C) (message first : Option (Message C)) → given ≡ said.TakenOut message → IsOut callbacks first given → message ≡ first
      out_first given message first is (inl out) = cc
      out_first given message first is (inr refused) = let other = refused.1 in cc

      out_is : (old : ScheduledMachine M S D C) (id : MachineId) → machine_of id pool.machines ≡ Some old → (message : Option (Message C))
          → (told_on callbacks old command.TakeOut).0 ≡ said.TakenOut message
          → (message ≡ first_message (messages_of old)) × HasOwnMessages (told_on callbacks old command.TakeOut).1
      out_is old id found message is =
          let own = found_all HasOwnMessages id pool.machines old found carries.own in
          let first : message ≡ first_message (messages_of old) =
          out_first (told_on callbacks old command.TakeOut).0 message (first_message (messages_of old)) is (told_out callbacks old) in
          (first, rw (told_keeps_id callbacks old command.TakeOut refl, told_out_keeps callbacks old message is) (own_rest (id_of old) (messages_of old) own))

      carry_found_carry : (worker : ℕ) (token : Token) (found : Option (ScheduledMachine M S D C)) → hand_in pool.queues worker ≡ Some token
          → machine_of token.machine pool.machines ≡ found → CarriesOwn (carry_found callbacks pool worker token.machine found).1
      carry_found_carry worker token None held at = carries
      carry_found_carry worker token (Some old) held at =
          let told = told_on callbacks old command.TakeOut in
          either_carry (has_message old.core) _ _
          (λ some. carried_carry worker token old told.1 told.0 held at (told_keeps_id callbacks old command.TakeOut refl) (out_is old token.machine at) some)
          (λ none. carries)

      carry_carry : (worker : ℕ) (hand : Option Token) → hand_in pool.queues worker ≡ hand → CarriesOwn (carry_of callbacks pool worker hand).1
      carry_carry worker None held = carries
      carry_carry worker (Some token) held = carry_found_carry worker token (machine_of token.machine pool.machines) held refl

      -- a message is posted or lost
      delivered_carry : (worker : ℕ) (id : MachineId) (old after : ScheduledMachine M S D C) (answer : StepAnswer S C) → 0 < worker
          → machine_of id pool.machines ≡ Some old → HasOwnMessages after → CarriesOwn (delivered_by pool worker id after answer).1
      delivered_carry worker id old after (said.Posted number wake) some found own =
          let laid = laid_carry worker some in
          let machine = changed_carry pool carries id old after found own in
          record { hands = laid.hands; own = machine.own; carried = laid.carried }
      delivered_carry worker id old after (said.Refused refused) some found own = laid_carry worker some
      delivered_carry worker id old after answer some found own = carries

      deliver_found_carry : (worker : ℕ) (message : Message C) (found : Option (ScheduledMachine M S D C)) → 0 < worker → machine_of message.target pool.machines ≡ found
          → CarriesOwn (deliver_found callbacks pool worker message found).1
      deliver_found_carry worker message None some at = laid_carry worker some
      deliver_found_carry worker message (Some old) some at =
          let told = told_on callbacks old (command.Post Info message.content) in
          delivered_carry worker message.target old told.1 told.0 some at (told_own message.target (command.Post Info message.content) refl refl old at)

      deliver_carry : (worker : ℕ) (carried : Option (Message C)) → message_in pool.transit worker ≡ carried → CarriesOwn (deliver_of callbacks pool worker carried).1
      deliver_carry worker None is = carries
      deliver_carry worker (Some message) is =
          deliver_found_carry worker message (machine_of message.target pool.machines) (message_there pool.transit worker message is).0 refl

      -- ---- any step
      step_in_carries : (step : Step C) → CarriesOwn (step_in callbacks pool step).1
      step_in_carries (Post id entry content) = tell_carry id (command.Post entry content) refl refl (machine_of id pool.machines) refl
      step_in_carries (Tick id now) = tell_carry id (command.Tick now) refl refl (machine_of id pool.machines) refl
      step_in_carries (Give token lane) = give_carry token lane
      step_in_carries (Take worker lane) = take_carry worker lane
      step_in_carries (Turn worker now) = guard_carry worker _ (turn_carry worker now (hand_in pool.queues worker) refl)
      step_in_carries (PutBack worker) = guard_carry worker _ (put_back_carry worker (hand_in pool.queues worker) refl)
      step_in_carries (Drop worker) = guard_carry worker _ (drop_carry worker (hand_in pool.queues worker) refl)
      step_in_carries (Stop id reason) = tell_carry id (command.Stop reason) refl refl (machine_of id pool.machines) refl
      step_in_carries (Reply id tag content) = tell_carry id (command.Reply tag content) refl refl (machine_of id pool.machines) refl
      step_in_carries (Collect id tag) = tell_carry id (command.Collect tag) refl refl (machine_of id pool.machines) refl
      step_in_carries (Carry worker) = guard_carry worker _ (λ free. carry_carry worker (hand_in pool.queues worker) refl)
      step_in_carries (Deliver worker) = deliver_carry worker (message_in pool.transit worker) refl

  met_carries : (takes : StepAnswer S C → Bool) (without answer : StepAnswer S C) (old new : PoolState M S D C) (definition : StepAnswer S C × PoolState M S D C)
      → Meets takes without answer old new definition → CarriesOwn old → CarriesOwn definition.1 → CarriesOwn new
  met_carries takes without answer old new definition (inl done) carries follows = rw done.1 follows
  met_carries takes without answer old new definition (inr none) carries follows = rw none.2 carries

  -- each step leaves it so
  pub step-carries : (callbacks : M → Callbacks S D C) (old new : PoolState M S D C) (step : Step C) (answer : StepAnswer S C) → IsBalanced old → CarriesOwn old
      → DoesStep callbacks old step answer new → CarriesOwn new
  step-carries callbacks old new step answer balanced carries does =
      met_carries (takes_memory step) (without_memory step) answer old new (step_in callbacks old step) does carries (step_in_carries old balanced carries callbacks step)
