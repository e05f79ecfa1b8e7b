-- What a pool is after one of its machines was told a command, served, gave a message or was posted one, or was not there.
use Rattle.std.proofs.Common.{◌≡◌, ℕ, zero, suc, ◌-◌, Bool, true, false, inl, inr, ⊎_elim, Option, Some, None, Result, Ok, Err, List, [], ◌∷◌, slice_index_or, refl, sym, ap, ◌∙◌}
use Rattle.std.specs.Prelude.{is_some, if◌then◌else◌}
use Rattle.st_events.specs.declared.machine_id.MachineId.{MachineId}
use Rattle.st_events.specs.declared.message.Message.{Message}
use Rattle.st_events.specs.declared.token.Token.{Token}
use Rattle.st_events.specs.declared.refusal.Refusal.{Refusal}
use Rattle.st_events.specs.declared.refused.Refused.{Refused as RefusedWith}
use Rattle.st_events.specs.declared.refusal.Refusal.TheVariants.{NoMemory, NotPossible, NoSuchMachine}
use Rattle.st_answers.specs.declared.command.Command.{Command}
use Rattle.st_answers.specs.declared.command.Command.TheVariants as command
use Rattle.st_answers.specs.declared.entry.Entry.TheVariants.{Info}
use Rattle.st_core.specs.Callbacks.{Callbacks}
use Rattle.st_pool_core.specs.declared.step.Step.TheVariants as step
use Rattle.st_scheduled.specs.declared.posted.Posted.{Posted}
use Rattle.st_scheduled.specs.declared.step_answer.StepAnswer.{StepAnswer}
use Rattle.st_scheduled.specs.declared.step_answer.StepAnswer.TheVariants as said
use Rattle.st_scheduled.specs.ScheduledMachine.{ScheduledMachine, id_of}
use Rattle.st_pool_core.specs.PoolState.{PoolState, machine_of, changed_for, has_messages}
use Rattle.st_pool_core.specs.Queues.{hand_in, handed, changed_at}
use Rattle.st_pool_core.specs.Transit.{message_in, is_carrying, with_message}
use Rattle.st_scheduled.specs.Answered.{is_refused, posted_as}
use Rattle.st_scheduled.specs.Serving.{content_of, refused_with, is_turn, takes_memory_as, told_on, Tells}
use Rattle.st_pool_core.specs.Machines.{TellsOne, ServesOne, PostsOne}
use Rattle.st_pool_core.specs.Step.{delivered_by, TellsIn, DoesStep}
use Rattle.st_pool_core.specs.Balance.{IsBalanced}
use Rattle.st_scheduled.proofs.ToldLemmas.{refused_told}
use Rattle.st_pool_core.proofs.IdLemmas.{changed_same}
use Rattle.st_pool_core.proofs.PlacedTokens.{hand_has_token}
use Rattle.st_pool_core.proofs.WentLemmas.{IsOut, told_out, IsPost, told_post}
use Rattle.st_pool_core.proofs.TransitLemmas.{message_there}
use Rattle.st_pool_core.proofs.CarryingLemmas.{told_keeps_id}
use Rattle.st_pool_core.proofs.MessageLemmas.{AnswersSo, post_answers}

-- the errors of one result are one
pub same_error : {T E : Type 0} (result : Result T E) (one other : E) → result ≡ Err one → result ≡ Err other → one ≡ other
same_error result one other is same = cc

module _ {M S D C : Type 0} (callbacks : M → Callbacks S D C) where
  -- a pool with these machines
  abbrev with_machines : PoolState M S D C → List (ScheduledMachine M S D C) → PoolState M S D C
  with_machines pool machines = record pool { machines = machines }

  -- one of its machines was told a command
  pub tells-in : (pool : PoolState M S D C) (id : MachineId) (command : Command C) (answer : StepAnswer S C) (machines : List (ScheduledMachine M S D C))
      → TellsOne callbacks pool.machines id command answer machines → TellsIn callbacks pool id command answer (record pool { machines = machines })
  tells-in pool id command answer machines told = rw told.found (⊎_elim
      (λ done. inl (done.0, ap (with_machines pool) (told.others ∙ ap (λ (one : ScheduledMachine M S D C). changed_for id (λ (old : ScheduledMachine M S D C). one) pool.machines) done.1)))
      (λ wanted. inr (
        wanted.0,
        wanted.1,
        ap (with_machines pool) (told.others
            ∙ (ap (λ (one : ScheduledMachine M S D C). changed_for id (λ (old : ScheduledMachine M S D C). one) pool.machines) wanted.2 ∙ changed_same id pool.machines told.old told.found)),
      ))
      told.tells)

  -- the machine is not there
  pub tells-missing : (pool : PoolState M S D C) (id : MachineId) (command : Command C) → machine_of id pool.machines ≡ None
      → TellsIn callbacks pool id command (refused_with NotPossible (content_of command)) pool
  tells-missing pool id command missing = rw missing (inl (refl, refl))

  -- a machine that was told a command that is no turn has its id
  pub tells_same_id : (old : ScheduledMachine M S D C) (command : Command C) (answer : StepAnswer S C) (new : ScheduledMachine M S D C) → is_turn command ≡ false
      → Tells callbacks old command answer new → id_of new ≡ id_of old
  tells_same_id old command answer new no_turn (inl done) = ap id_of done.1 ∙ told_keeps_id callbacks old command no_turn
  tells_same_id old command answer new no_turn (inr wanted) = ap id_of wanted.2

  -- the pool after one of its machines was served by a worker: where its token is retired, the worker's hand is empty
  abbrev after_turn : PoolState M S D C → ℕ → MachineId → ScheduledMachine M S D C → PoolState M S D C
  after_turn pool worker id one = record pool {
    machines = changed_for id (λ (old : ScheduledMachine M S D C). one) pool.machines;
    queues = if is_some one.token then pool.queues else handed pool.queues worker None;
  }

  -- the machine of the token in a worker's hand was served
  pub serves-in : (pool : PoolState M S D C) (worker : ℕ) (token : Token) (now : ℕ) (answer : StepAnswer S C) (keeps : Bool) (machines : List (ScheduledMachine M S D C))
      → IsBalanced pool → is_carrying pool.transit worker ≡ false → hand_in pool.queues worker ≡ Some token
      → ServesOne callbacks pool.machines token.machine now answer keeps machines
      → DoesStep callbacks pool (step.Turn worker now) answer (record pool { machines = machines; queues = if keeps then pool.queues else handed pool.queues worker None })
  serves-in pool worker token now answer keeps machines balanced free held served = rw (free, held, served.found, served.others, served.token) (⊎_elim
      (λ done. inl (done.0, ap (after_turn pool worker token.machine) done.1))
      (λ wanted. inr (
        wanted.0,
        wanted.1,
        ap (after_turn pool worker token.machine) wanted.2
            ∙ rw (hand_has_token pool worker token served.old balanced held served.found) (ap (with_machines pool) (changed_same token.machine pool.machines served.old served.found)),
      ))
      served.serves)

  -- ---- messages
  -- a machine that was told a command and refused is as it was
  refused_same : (machines new : List (ScheduledMachine M S D C)) (id : MachineId) (command : Command C) (answer : StepAnswer S C)
      → is_refused answer ≡ true → TellsOne callbacks machines id command answer new → new ≡ machines
  refused_same machines new id command answer refused told =
      let same : told.after ≡ told.old = ⊎_elim
      (λ done. done.1 ∙ refused_told callbacks told.old command (rw done.0 at refused))
      (λ wanted. wanted.2)
      told.tells in
      told.others ∙ (ap (λ (one : ScheduledMachine M S D C). changed_for id (λ (old : ScheduledMachine M S D C). one) machines) same ∙ changed_same id machines told.old told.found)

  -- a worker took up the first message of the machine whose token it has
  pub carries-in : (pool : PoolState M S D C) (worker : ℕ) (token : Token) (message : Option (Message C)) (machines : List (ScheduledMachine M S D C))
      → is_carrying pool.transit worker ≡ false → hand_in pool.queues worker ≡ Some token → has_messages pool.machines token.machine ≡ true
      → TellsOne callbacks pool.machines token.machine command.TakeOut (said.TakenOut message) machines
      → DoesStep callbacks pool (step.Carry worker) said.Moved (record pool { machines = machines; transit = with_message pool.transit worker message })
  carries-in pool worker token message machines free held some told =
      let has = rw told.found at some in
      ⊎_elim
      (λ done. rw (free, held, told.found, has, ← done.0, told.others, done.1) (inl (refl, refl)))
      (λ wanted. let other = wanted.1 in cc)
      told.tells

  -- a take-out takes no memory
  out_takes_none : (message : Option (Message C)) (answer : StepAnswer S C) → IsOut callbacks message answer → takes_memory_as false false answer ≡ true → ⊥
  out_takes_none message answer (inl out) takes = let none : false ≡ true = rw out at takes in cc
  out_takes_none message answer (inr refused) takes = let none : false ≡ true = rw refused.1 at takes in cc

  -- the machine refused to give it
  pub carry_refused-in : (pool : PoolState M S D C) (worker : ℕ) (token : Token) (refusal : Refusal) (machines : List (ScheduledMachine M S D C))
      → is_carrying pool.transit worker ≡ false → hand_in pool.queues worker ≡ Some token → has_messages pool.machines token.machine ≡ true
      → TellsOne callbacks pool.machines token.machine command.TakeOut (refused_with refusal None) machines
      → DoesStep callbacks pool (step.Carry worker) (refused_with refusal None) (record pool { machines = machines })
  carry_refused-in pool worker token refusal machines free held some told =
      let has = rw told.found at some in
      let same = refused_same pool.machines machines token.machine command.TakeOut (refused_with refusal None) refl told in
      ⊎_elim
      (λ done. rw (free, held, told.found, has, ← done.0, same) (inl (refl, refl)))
      (λ wanted. absurd (out_takes_none _ (told_on callbacks told.old command.TakeOut).0 (told_out callbacks told.old) wanted.0))
      told.tells

  -- the machine of a message's target is not there: it is lost
  delivers-missing : (pool : PoolState M S D C) (worker : ℕ) (message : Message C) → message_in pool.transit worker ≡ Some message
      → machine_of message.target pool.machines ≡ None
      → DoesStep callbacks pool (step.Deliver worker) (said.Lost NoSuchMachine) (record pool { transit = with_message pool.transit worker None })
  delivers-missing pool worker message carried missing = rw (carried, missing) (inl (refl, refl))

  -- it was posted to its target
  delivers-in : (pool : PoolState M S D C) (worker : ℕ) (message : Message C) (number : ℕ) (wake : Option Token) (machines : List (ScheduledMachine M S D C))
      → message_in pool.transit worker ≡ Some message
      → TellsOne callbacks pool.machines message.target (command.Post Info message.content) (said.Posted number wake) machines
      → DoesStep callbacks pool (step.Deliver worker) (said.Posted number wake) (record pool { machines = machines; transit = with_message pool.transit worker None })
  delivers-in pool worker message number wake machines carried told =
      ⊎_elim
      (λ done. rw (carried, told.found, ← done.0, told.others, done.1) (inl (refl, refl)))
      (λ wanted. let other = wanted.1 in cc)
      told.tells

  -- the refusal of an answer, where it is one
  abbrev refusal_or : Refusal → StepAnswer S C → Refusal
  refusal_or other (said.Refused refused) = refused.refusal
  refusal_or other answer = other

  -- the refusals of two answers are one
  refused_is : (one other : Refusal) (value content : Option C) → refused_with {S = S} one value ≡ refused_with other content → one ≡ other
  refused_is one other value content same = ap (refusal_or one) same

  -- its target refused it: it is lost
  delivers-lost : (pool : PoolState M S D C) (worker : ℕ) (message : Message C) (refusal : Refusal) (content : Option C) (machines : List (ScheduledMachine M S D C))
      → message_in pool.transit worker ≡ Some message → (refusal ≡ NoMemory → ⊥)
      → TellsOne callbacks pool.machines message.target (command.Post Info message.content) (refused_with refusal content) machines
      → DoesStep callbacks pool (step.Deliver worker) (said.Lost refusal) (record pool { machines = machines; transit = with_message pool.transit worker None })
  delivers-lost pool worker message refusal content machines carried some told =
      let same = refused_same pool.machines machines message.target (command.Post Info message.content) (refused_with refusal content) refl told in
      ⊎_elim
      (λ done. rw (carried, told.found, ← done.0, same) (inl (refl, refl)))
      (λ wanted. absurd (some (refused_is refusal NoMemory content (Some message.content) wanted.1)))
      told.tells

  -- what is laid down and taken up again is there as it was
  changed_back : {X : Type 0} (xs : List X) (place : ℕ) (d x between : X) → slice_index_or xs place d ≡ x → (x ≡ d → ⊥)
      → changed_at place (λ (old : X). x) (changed_at place (λ (old : X). between) xs) ≡ xs
  changed_back {X = X} [] place d x between is apart = refl
  changed_back {X = X} (y ∷ ys) zero d x between is apart = ap (λ (one : X). one ∷ ys) (sym is)
  changed_back {X = X} (y ∷ ys) (suc place) d x between is apart = ap (λ (others : List X). y ∷ others) (changed_back ys place d x between is apart)

  -- no post is refused for want of memory by its definition
  not_wanted : (answer : StepAnswer S C) (content : Option C) → AnswersSo callbacks answer → answer ≡ refused_with NoMemory content → ⊥
  not_wanted answer content (inl posted) is = let other = posted.2 in cc
  not_wanted answer content (inr refused) is =
      let same : refused.0.refusal ≡ NoMemory = cc in
      let why = rw same at refused.2 in absurd why

  -- a post that takes memory takes it as a delivery, too
  delivery_takes : (pool : PoolState M S D C) (worker : ℕ) (id : MachineId) (after : ScheduledMachine M S D C) (answer : StepAnswer S C) → IsPost callbacks answer
      → takes_memory_as false false answer ≡ true → takes_memory_as false false (delivered_by pool worker id after answer).0 ≡ true
  delivery_takes pool worker id after answer (inl posted) takes = rw posted.2 refl
  delivery_takes pool worker id after answer (inr refused) takes = let none : false ≡ true = rw refused.1 at takes in cc

  -- memory was wanted: the worker carries the message still
  delivers-wants : (pool : PoolState M S D C) (worker : ℕ) (message : Message C) (content : Option C) (machines : List (ScheduledMachine M S D C))
      → message_in pool.transit worker ≡ Some message
      → TellsOne callbacks pool.machines message.target (command.Post Info message.content) (refused_with NoMemory content) machines
      → DoesStep callbacks pool (step.Deliver worker) (refused_with NoMemory None)
      (record pool { machines = machines; transit = with_message (with_message pool.transit worker None) worker (Some message) })
  delivers-wants pool worker message content machines carried told =
      let same = refused_same pool.machines machines message.target (command.Post Info message.content) (refused_with NoMemory content) refl told in
      let back : with_message (with_message pool.transit worker None) worker (Some message) ≡ pool.transit =
      changed_back pool.transit (worker - 1) None (Some message) None (message_there pool.transit worker message carried).1 (λ none. cc) in
      let posts = told_on callbacks told.old (command.Post Info message.content) in
      ⊎_elim
      (λ done. absurd (not_wanted posts.0 content (post_answers callbacks told.old message.content) (sym done.0)))
      (λ wanted. rw (carried, told.found, same, back)
      (inr (delivery_takes pool worker message.target posts.1 posts.0 (told_post callbacks told.old message.content) wanted.0, refl, refl)))
      told.tells

  -- a message was posted
  pub delivers-posted : (pool : PoolState M S D C) (worker : ℕ) (message : Message C) (posted : Posted) (machines : List (ScheduledMachine M S D C))
      → message_in pool.transit worker ≡ Some message → PostsOne callbacks pool.machines message.target Info message.content (Ok posted) machines
      → DoesStep callbacks pool (step.Deliver worker) (posted_as (Ok posted)) (record pool { machines = machines; transit = with_message pool.transit worker None })
  delivers-posted pool worker message posted machines carried done = elim done.posts [
    | inl missing ↦ let other = missing.0 in cc
    | inr told ↦ delivers-in pool worker message posted.number posted.wake machines carried told
  ]

  -- it was refused, but not for want of memory
  pub delivers-refused : (pool : PoolState M S D C) (worker : ℕ) (message : Message C) (refused : RefusedWith C) (machines : List (ScheduledMachine M S D C))
      → message_in pool.transit worker ≡ Some message → (refused.refusal ≡ NoMemory → ⊥)
      → PostsOne callbacks pool.machines message.target Info message.content (Err refused) machines
      → DoesStep callbacks pool (step.Deliver worker) (said.Lost refused.refusal) (record pool { machines = machines; transit = with_message pool.transit worker None })
  delivers-refused pool worker message refused machines carried some done = elim done.posts [
    | inl missing ↦ rw (ap (λ (one : RefusedWith C). one.refusal) (same_error _ refused _ refl missing.0), missing.2) (delivers-missing pool worker message carried missing.1)
    | inr told ↦ delivers-lost pool worker message refused.refusal (Some refused.value) machines carried some told
  ]

  -- it was refused for want of memory: the worker carries it still
  pub delivers-again : (pool : PoolState M S D C) (worker : ℕ) (message : Message C) (refused : RefusedWith C) (machines : List (ScheduledMachine M S D C))
      → message_in pool.transit worker ≡ Some message → refused.refusal ≡ NoMemory
      → PostsOne callbacks pool.machines message.target Info message.content (Err refused) machines
      → DoesStep callbacks pool (step.Deliver worker) (refused_with NoMemory None)
      (record pool { machines = machines; transit = with_message (with_message pool.transit worker None) worker (Some (record message { content = refused.value })) })
  delivers-again pool worker message refused machines carried wanted done = elim done.posts [
    | inl missing ↦ let other = sym wanted ∙ ap (λ (one : RefusedWith C). one.refusal) (same_error _ refused _ refl missing.0) in cc
    | inr told ↦ rw done.returned (delivers-wants pool worker message (Some refused.value) machines carried (rw wanted at told))
  ]
