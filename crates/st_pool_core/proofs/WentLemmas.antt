-- A step by its definition took each machine through the step's command to it, if it has one, and through no other.
use Rattle.std.proofs.Common.{◌≡◌, ℕ, ◌⊎◌, inl, inr, Bool, true, false, ◌&&◌, if◌then◌else◌, Option, Some, None, List, [], ◌∷◌, map, refl, sym, ap, subst, ◌∙◌}
use Rattle.std.specs.Option.{option_map}
use Rattle.st_events.specs.declared.machine_id.MachineId.{MachineId}
use Rattle.st_events.specs.declared.token.Token.{Token}
use Rattle.st_answers.specs.declared.answer.Answer.{Answer}
use Rattle.st_answers.specs.declared.command.Command.{Command}
use Rattle.st_answers.specs.declared.command.Command.TheVariants as command
use Rattle.st_core.specs.Callbacks.{Callbacks}
use Rattle.st_core.specs.Run.{step_on}
use Rattle.st_pool_core.specs.declared.step.Step.{Step}
use Rattle.st_pool_core.specs.declared.step.Step.TheVariants.{Post, Tick, Give, Take, Turn, PutBack, Drop, Stop, Reply, Collect, Carry, Deliver}
use Rattle.st_scheduled.specs.declared.step_answer.StepAnswer.{StepAnswer}
use Rattle.st_scheduled.specs.declared.step_answer.StepAnswer.TheVariants as said
use Rattle.std.specs.Prelude.{is_some, Result, Ok, Err}
use Rattle.st_events.specs.declared.message.Message.{Message}
use Rattle.st_events.specs.declared.refusal.Refusal.TheVariants.{NotPossible, Exhausted}
use Rattle.st_events.specs.declared.refused.Refused.{Refused}
use Rattle.st_answers.specs.declared.answer.Answer.TheVariants as answer
use Rattle.st_answers.specs.declared.entry.Entry.TheVariants.{Info}
use Rattle.st_core.specs.MachineState.{Machine}
use Rattle.st_core.specs.Post.{post_of}
use Rattle.st_outbox.specs.Outbox.{first_message}
use Rattle.st_pool_core.specs.Transit.{message_in, is_carrying}
use Rattle.st_pool_core.specs.Play.{Told, turn_for, take_out_for, post_for, taken_for, told_in, first_at, first_for, answered_in, entry_of, WentThrough}
use Rattle.st_scheduled.specs.Answered.{answered_by}
use Rattle.st_scheduled.specs.ScheduledMachine.{ScheduledMachine, has_message, moved, same_id, id_of}
use Rattle.st_pool_core.specs.PoolState.{PoolState, machine_of, changed_for, is_with_callers}
use Rattle.st_pool_core.specs.Queues.{has_lane, hand_in}
use Rattle.st_scheduled.specs.Serving.{is_turn, needs_count, is_full, counted, refused_with, told_as, told_on, served_on}
use Rattle.st_pool_core.specs.Step.{put_back_of, drop_of, carried_by, delivered_by, tell_found, serve_found, turn_of_hand, carry_found, carry_of, deliver_found, deliver_of, step_in}
use Rattle.st_pool_core.proofs.IdLemmas.{changed_found, changed_other}
use Rattle.st_scheduled.proofs.TokensCompared.{ids_same}
use Rattle.st_pool_core.proofs.MachineLookups.{found_id}
use Rattle.st_scheduled.proofs.ToldLemmas.{IsTaken, taken_id, only_turns, told_on_taken, served_on_taken}

-- ---- the commands and answers of entries
-- the commands of entries
abbrev pub commands_in : {S C : Type 0} → List (Command C × Answer S C) → List (Command C)
commands_in {S} {C} entries = map (λ (entry : Command C × Answer S C). entry.0) entries

-- the answers of entries
abbrev pub answers_in : {S C : Type 0} → List (Command C × Answer S C) → List (Answer S C)
answers_in {S} {C} entries = map (λ (entry : Command C × Answer S C). entry.1) entries

-- a command for another machine is none for this one
taken_other : {S C : Type 0} (id : MachineId) (told : Told C) (given : Option (Answer S C)) → same_id id told.machine ≡ false
    → taken_for id (Some told) given ≡ []
taken_other id told None other = refl
taken_other id told (Some said) other = rw other refl

module _ {M S D C : Type 0} (callbacks : M → Callbacks S D C) where
  -- ---- what one step did to a machine
  -- it went through the commands of these entries
  abbrev pub WentBy : List (Command C × Answer S C) → ScheduledMachine M S D C → Option (ScheduledMachine M S D C) → Type 0
  WentBy entries old found = WentThrough callbacks (commands_in entries) (answers_in entries) old found

  -- the machine of the id took the command, or it took none
  went_own : (id target : MachineId) (command : Command C) (old : ScheduledMachine M S D C) (told : StepAnswer S C × ScheduledMachine M S D C)
      → same_id id target ≡ true → IsTaken old.core (step_on callbacks old.core command) told
      → WentBy (taken_for id (Some (record { machine = target; command = command })) (answered_by told.0)) old (Some told.1)
  went_own id target command old told same (inl done) =
      let entry : Command C × Answer S C = (command, (step_on callbacks old.core command).0) in
      let entries : taken_for id (Some (record { machine = target; command = command })) (answered_by told.0) ≡ entry ∷ [] =
      rw (done.0, same) refl in
      subst (λ (some : List (Command C × Answer S C)). WentBy some old (Some told.1)) (sym entries) (told.1.core, inl (refl, done.1), refl)
  went_own id target command old told same (inr none) =
      let entries : taken_for id (Some (record { machine = target; command = command })) (answered_by told.0) ≡ [] = rw none.0 refl in
      subst (λ (some : List (Command C × Answer S C)). WentBy some old (Some told.1)) (sym entries) none.1

  -- nothing was for a machine that is as it was
  pub went_nowhere : (entries : List (Command C × Answer S C)) (machine : ScheduledMachine M S D C) (found : Option (ScheduledMachine M S D C))
      → entries ≡ [] → found ≡ Some machine → WentBy entries machine found
  went_nowhere entries machine found none same =
      subst (λ (some : List (Command C × Answer S C)). WentBy some machine found) (sym none)
      (subst (λ (one : Option (ScheduledMachine M S D C)). WentBy [] machine one) (sym same) refl)

  -- the machine was told the command itself, or another was
  changed_by : (own : Bool) (machines : List (ScheduledMachine M S D C)) (id target : MachineId) (command : Command C)
      (machine old : ScheduledMachine M S D C) (told : StepAnswer S C × ScheduledMachine M S D C) → same_id id target ≡ own
      → machine_of id machines ≡ Some machine → machine_of target machines ≡ Some old
      → IsTaken old.core (step_on callbacks old.core command) told
      → WentBy (taken_for id (Some (record { machine = target; command = command })) (answered_by told.0)) machine
      (machine_of id (changed_for target (λ (one : ScheduledMachine M S D C). told.1) machines))
  changed_by true machines id target command machine old told same found there is =
      let ids : id ≡ target = ids_same id target same in
      let here : machine_of id machines ≡ Some old = ap (λ (one : MachineId). machine_of one machines) ids ∙ there in
      let one : old ≡ machine = cc in
      let kept = λ (other : ScheduledMachine M S D C) (is_it : same_id target (id_of other) ≡ true).
      taken_id callbacks old command told is ∙ (found_id target machines old there ∙ ids_same target (id_of other) is_it) in
      let now : machine_of id (changed_for target (λ (other : ScheduledMachine M S D C). told.1) machines) ≡ Some told.1 =
      ap (λ (one : MachineId). machine_of one (changed_for target (λ (other : ScheduledMachine M S D C). told.1) machines)) ids
      ∙ changed_found target (λ (other : ScheduledMachine M S D C). told.1) machines old kept there in
      let entries : List (Command C × Answer S C) = taken_for id (Some (record { machine = target; command = command })) (answered_by told.0) in
      subst (λ (after : Option (ScheduledMachine M S D C)). WentBy entries machine after) (sym now)
      (subst (λ (before : ScheduledMachine M S D C). WentBy entries before (Some told.1)) one (went_own id target command old told same is))
  changed_by false machines id target command machine old told same found there is =
      let kept = λ (other : ScheduledMachine M S D C) (is_it : same_id target (id_of other) ≡ true).
      taken_id callbacks old command told is ∙ (found_id target machines old there ∙ ids_same target (id_of other) is_it) in
      went_nowhere (taken_for id (Some (record { machine = target; command = command })) (answered_by told.0)) machine
      (machine_of id (changed_for target (λ (other : ScheduledMachine M S D C). told.1) machines))
      (taken_other id (record { machine = target; command = command }) (answered_by told.0) same)
      (changed_other id target (λ (other : ScheduledMachine M S D C). told.1) machines same kept ∙ found)

  -- a command was told to a machine that is there
  tell_went : (pool : PoolState M S D C) (id target : MachineId) (command : Command C) (machine : ScheduledMachine M S D C)
      (there : Option (ScheduledMachine M S D C)) → is_turn command ≡ false → machine_of id pool.machines ≡ Some machine
      → machine_of target pool.machines ≡ there
      → WentBy (taken_for id (Some (record { machine = target; command = command })) (answered_by (tell_found callbacks pool target command there).0))
      machine (machine_of id (tell_found callbacks pool target command there).1.machines)
  tell_went pool id target command machine None other found there = went_nowhere [] machine (machine_of id pool.machines) refl found
  tell_went pool id target command machine (Some old) other found there =
      changed_by (same_id id target) pool.machines id target command machine old (told_on callbacks old command) refl found there
      (told_on_taken callbacks old command (only_turns callbacks old.core command other))

  -- a machine that is there was served
  serve_went : (pool : PoolState M S D C) (worker : ℕ) (id target : MachineId) (now : ℕ) (machine : ScheduledMachine M S D C)
      (there : Option (ScheduledMachine M S D C)) → machine_of id pool.machines ≡ Some machine → machine_of target pool.machines ≡ there
      → WentBy (taken_for id (Some (record { machine = target; command = command.Turn now }))
      (answered_by (serve_found callbacks pool worker target now there).0))
      machine (machine_of id (serve_found callbacks pool worker target now there).1.machines)
  serve_went pool worker id target now machine None found there = went_nowhere [] machine (machine_of id pool.machines) refl found
  serve_went pool worker id target now machine (Some old) found there =
      changed_by (same_id id target) pool.machines id target (command.Turn now) machine old (served_on callbacks old now) refl found there
      (served_on_taken callbacks old now)

  -- a token was in the hand, or none
  turn_went : (pool : PoolState M S D C) (worker : ℕ) (id : MachineId) (now : ℕ) (machine : ScheduledMachine M S D C) (hand : Option Token)
      → machine_of id pool.machines ≡ Some machine
      → WentBy (taken_for id (option_map (turn_for now) hand) (answered_by (turn_of_hand callbacks pool worker now hand).0))
      machine (machine_of id (turn_of_hand callbacks pool worker now hand).1.machines)
  turn_went pool worker id now machine None found = went_nowhere [] machine (machine_of id pool.machines) refl found
  turn_went pool worker id now machine (Some token) found =
      serve_went pool worker id token.machine now machine (machine_of token.machine pool.machines) found refl

  -- a token was moved, which is no command
  moved_by : (own : Bool) (machines : List (ScheduledMachine M S D C)) (id target : MachineId) (with_callers : Bool)
      (machine : ScheduledMachine M S D C) → same_id id target ≡ own → machine_of id machines ≡ Some machine
      → WentBy [] machine (machine_of id (changed_for target (moved with_callers) machines))
  moved_by true machines id target with_callers machine same found =
      let ids : id ≡ target = ids_same id target same in
      let now : machine_of id (changed_for target (moved with_callers) machines) ≡ Some (moved with_callers machine) =
      ap (λ (one : MachineId). machine_of id (changed_for one (moved with_callers) machines)) (sym ids)
      ∙ changed_found id (moved with_callers) machines machine (λ one is. refl) found in
      subst (λ (after : Option (ScheduledMachine M S D C)). WentBy [] machine after) (sym now) refl
  moved_by false machines id target with_callers machine same found =
      went_nowhere [] machine (machine_of id (changed_for target (moved with_callers) machines)) refl
      (changed_other id target (moved with_callers) machines same (λ one is. refl) ∙ found)

  -- whichever a test chooses, no command was given
  give_went : (test : Bool) (id : MachineId) (machine : ScheduledMachine M S D C) (given other : StepAnswer S C × PoolState M S D C)
      → WentBy [] machine (machine_of id given.1.machines) → WentBy [] machine (machine_of id other.1.machines)
      → WentBy [] machine (machine_of id (if test then given else other).1.machines)
  give_went true id machine given other first second = first
  give_went false id machine given other first second = second

  -- a token was put back, or none
  put_back_went : (pool : PoolState M S D C) (worker : ℕ) (id : MachineId) (machine : ScheduledMachine M S D C) (hand : Option Token)
      → machine_of id pool.machines ≡ Some machine → WentBy [] machine (machine_of id (put_back_of pool worker hand).1.machines)
  put_back_went pool worker id machine None found = went_nowhere [] machine (machine_of id pool.machines) refl found
  put_back_went pool worker id machine (Some token) found = went_nowhere [] machine (machine_of id pool.machines) refl found

  -- a token was dropped, or none
  drop_went : (pool : PoolState M S D C) (worker : ℕ) (id : MachineId) (machine : ScheduledMachine M S D C) (hand : Option Token)
      → machine_of id pool.machines ≡ Some machine → WentBy [] machine (machine_of id (drop_of pool worker hand).1.machines)
  drop_went pool worker id machine None found = went_nowhere [] machine (machine_of id pool.machines) refl found
  drop_went pool worker id machine (Some token) found =
      moved_by (same_id id token.machine) pool.machines id token.machine true machine refl found

  -- ---- messages
  -- where no answer was taken there is no entry
  pub none_taken : (id : MachineId) (told : Option (Told C)) → taken_for {S = S} id told None ≡ []
  none_taken id None = refl
  none_taken id (Some told) = refl

  -- what a refusal answers is none
  refused_answers : (pool : PoolState M S D C) (step : Step C) (refused : Refused (Option C)) → answered_in pool step (said.Refused refused) ≡ None
  refused_answers pool (Carry worker) refused = refl
  refused_answers pool step refused = refl

  -- a refused step gave no command
  pub refused_went : (pool : PoolState M S D C) (step : Step C) (refused : Refused (Option C)) (id : MachineId) (machine : ScheduledMachine M S D C)
      → machine_of id pool.machines ≡ Some machine → WentBy (entry_of id pool step (said.Refused refused)) machine (machine_of id pool.machines)
  refused_went pool step refused id machine found =
      went_nowhere (entry_of id pool step (said.Refused refused)) machine (machine_of id pool.machines)
      (ap (λ (given : Option (Answer S C)). taken_for id (told_in pool step) given) (refused_answers pool step refused) ∙ none_taken id (told_in pool step)) found

  -- a worker that carries a message gave none
  guard_went : (test : Bool) (pool : PoolState M S D C) (step : Step C) (id : MachineId) (machine : ScheduledMachine M S D C)
      (done : StepAnswer S C × PoolState M S D C) → machine_of id pool.machines ≡ Some machine
      → WentBy (entry_of id pool step done.0) machine (machine_of id done.1.machines)
      → WentBy (entry_of id pool step (if◌then◌else◌ {A = StepAnswer S C × PoolState M S D C} test (refused_with NotPossible None, pool) done).0) machine
      (machine_of id (if◌then◌else◌ {A = StepAnswer S C × PoolState M S D C} test (refused_with NotPossible None, pool) done).1.machines)
  guard_went true pool step id machine done found went = refused_went pool step (record { refusal = NotPossible; value = None }) id machine found
  guard_went false pool step id machine done found went = went

  -- an answer is that of a take-out of this message, or a refusal
  abbrev pub IsOut : Option (Message C) → StepAnswer S C → Type 0
  IsOut message answer = (answer ≡ said.TakenOut message) ⊎ ((refused : Refused (Option C)) × (answer ≡ said.Refused refused))

  out_by : (full : Bool) (old : ScheduledMachine M S D C) (message : Option (Message C)) (after : ScheduledMachine M S D C)
      → IsOut message (if◌then◌else◌ {A = StepAnswer S C × ScheduledMachine M S D C} full (refused_with Exhausted None, old) (said.TakenOut message, after)).0
  out_by true old message after = inr (record { refusal = Exhausted; value = None }, refl)
  out_by false old message after = inl refl

  pub told_out : (old : ScheduledMachine M S D C) → IsOut (first_message old.core.machine.outbox.messages) (told_on callbacks old command.TakeOut).0
  told_out old =
      let message = first_message old.core.machine.outbox.messages in
      let core = (step_on callbacks old.core command.TakeOut).1 in
      out_by (is_full old && is_some message) old message (if is_some message then counted old core else record old { core = core })

  -- an answer is that of a post, or a refusal
  abbrev pub IsPost : StepAnswer S C → Type 0
  IsPost answer = ((number : ℕ) × (wake : Option Token) × (answer ≡ said.Posted number wake)) ⊎ ((refused : Refused (Option C)) × (answer ≡ said.Refused refused))

  post_by : (full : Bool) (old : ScheduledMachine M S D C) (content : Option C) (told : StepAnswer S C × ScheduledMachine M S D C) → IsPost told.0
      → IsPost (if◌then◌else◌ {A = StepAnswer S C × ScheduledMachine M S D C} full (refused_with Exhausted content, old) told).0
  post_by true old content told is = inr (record { refusal = Exhausted; value = content }, refl)
  post_by false old content told is = is

  posted_by : (old : ScheduledMachine M S D C) (result : Result ℕ (Refused C)) (core : Machine M S D C) → IsPost (told_as old (answer.Post result) core).0
  posted_by old (Ok number) core = inl (number, _, refl)
  posted_by old (Err refused) core = inr (record { refusal = refused.refusal; value = Some refused.value }, refl)

  pub told_post : (old : ScheduledMachine M S D C) (content : C) → IsPost (told_on callbacks old (command.Post Info content)).0
  told_post old content =
      let step = step_on callbacks old.core (command.Post Info content) in
      post_by (is_full old && needs_count step.0) old (Some content) (told_as old step.0 step.1) (posted_by old (post_of old.core.machine Info content).0 step.1)

  -- a message was taken out of a machine, or the machine refused
  carried_went : (pool : PoolState M S D C) (worker : ℕ) (id target : MachineId) (machine old : ScheduledMachine M S D C)
      (after : ScheduledMachine M S D C) (given : StepAnswer S C) (message : Option (Message C)) → machine_of id pool.machines ≡ Some machine
      → IsOut message given → message ≡ first_for pool (hand_in pool.queues worker)
      → WentBy (taken_for id (Some (record { machine = target; command = command.TakeOut })) (answered_by given)) machine
      (machine_of id (changed_for target (λ (one : ScheduledMachine M S D C). after) pool.machines))
      → WentBy (taken_for id (Some (record { machine = target; command = command.TakeOut })) (answered_in pool (Carry worker) (carried_by pool worker target after given).0))
      machine (machine_of id (carried_by pool worker target after given).1.machines)
  carried_went pool worker id target machine old after given message found (inl out) is went =
      let first : Option (Answer S C) → Type 0 = λ (answered : Option (Answer S C)).
      WentBy (taken_for id (Some (record { machine = target; command = command.TakeOut })) answered) machine
      (machine_of id (changed_for target (λ (one : ScheduledMachine M S D C). after) pool.machines)) in
      subst (λ (answer : StepAnswer S C).
      WentBy (taken_for id (Some (record { machine = target; command = command.TakeOut })) (answered_in pool (Carry worker) (carried_by pool worker target after answer).0))
      machine (machine_of id (carried_by pool worker target after answer).1.machines)) (sym out)
      (subst first (ap answered_by out ∙ ap (λ (one : Option (Message C)). Some (answer.TakeOut one)) is) went)
  carried_went pool worker id target machine old after given message found (inr refused) is went =
      subst (λ (answer : StepAnswer S C).
      WentBy (taken_for id (Some (record { machine = target; command = command.TakeOut })) (answered_in pool (Carry worker) (carried_by pool worker target after answer).0))
      machine (machine_of id (carried_by pool worker target after answer).1.machines)) (sym refused.1)
      (went_nowhere [] machine (machine_of id pool.machines) refl found)

  -- the machine has a message or not
  either_went : (test : Bool) (pool : PoolState M S D C) (worker : ℕ) (id target : MachineId) (machine : ScheduledMachine M S D C)
      (done : StepAnswer S C × PoolState M S D C) → machine_of id pool.machines ≡ Some machine
      → WentBy (taken_for id (Some (record { machine = target; command = command.TakeOut })) (answered_in pool (Carry worker) done.0)) machine (machine_of id done.1.machines)
      → WentBy (taken_for id (Some (record { machine = target; command = command.TakeOut }))
      (answered_in pool (Carry worker) (if◌then◌else◌ {A = StepAnswer S C × PoolState M S D C} test done (refused_with NotPossible None, pool)).0)) machine
      (machine_of id (if◌then◌else◌ {A = StepAnswer S C × PoolState M S D C} test done (refused_with NotPossible None, pool)).1.machines)
  either_went true pool worker id target machine done found went = went
  either_went false pool worker id target machine done found went = went_nowhere [] machine (machine_of id pool.machines) refl found

  carry_found_went : (pool : PoolState M S D C) (worker : ℕ) (id target : MachineId) (machine : ScheduledMachine M S D C) (there : Option (ScheduledMachine M S D C))
      → machine_of id pool.machines ≡ Some machine → machine_of target pool.machines ≡ there → first_at there ≡ first_for pool (hand_in pool.queues worker)
      → WentBy (taken_for id (Some (record { machine = target; command = command.TakeOut })) (answered_in pool (Carry worker) (carry_found callbacks pool worker target there).0))
      machine (machine_of id (carry_found callbacks pool worker target there).1.machines)
  carry_found_went pool worker id target machine None found there is = went_nowhere [] machine (machine_of id pool.machines) refl found
  carry_found_went pool worker id target machine (Some old) found there is =
      let told = told_on callbacks old command.TakeOut in
      either_went (has_message old.core) pool worker id target machine (carried_by pool worker target told.1 told.0) found
      (carried_went pool worker id target machine old told.1 told.0 (first_message old.core.machine.outbox.messages) found (told_out old) is
      (changed_by (same_id id target) pool.machines id target command.TakeOut machine old told refl found there
      (told_on_taken callbacks old command.TakeOut (only_turns callbacks old.core command.TakeOut refl))))

  carry_went : (pool : PoolState M S D C) (worker : ℕ) (id : MachineId) (machine : ScheduledMachine M S D C) (hand : Option Token)
      → machine_of id pool.machines ≡ Some machine → hand_in pool.queues worker ≡ hand
      → WentBy (taken_for id (option_map take_out_for hand) (answered_in pool (Carry worker) (carry_of callbacks pool worker hand).0))
      machine (machine_of id (carry_of callbacks pool worker hand).1.machines)
  carry_went pool worker id machine None found is = went_nowhere [] machine (machine_of id pool.machines) refl found
  carry_went pool worker id machine (Some token) found is =
      carry_found_went pool worker id token.machine machine (machine_of token.machine pool.machines) found refl
      (sym (ap (λ (hand : Option Token). first_for pool hand) is))

  -- a message was posted, or refused and lost
  delivered_went : (pool : PoolState M S D C) (worker : ℕ) (id target : MachineId) (content : C) (machine after : ScheduledMachine M S D C)
      (given : StepAnswer S C) → machine_of id pool.machines ≡ Some machine → IsPost given
      → WentBy (taken_for id (Some (record { machine = target; command = command.Post Info content })) (answered_by given)) machine
      (machine_of id (changed_for target (λ (one : ScheduledMachine M S D C). after) pool.machines))
      → WentBy (taken_for id (Some (record { machine = target; command = command.Post Info content })) (answered_by (delivered_by pool worker target after given).0))
      machine (machine_of id (delivered_by pool worker target after given).1.machines)
  delivered_went pool worker id target content machine after given found (inl posted) went =
      let told : Told C = record { machine = target; command = command.Post Info content } in
      let machines = changed_for target (λ (one : ScheduledMachine M S D C). after) pool.machines in
      subst (λ (answer : StepAnswer S C).
      WentBy (taken_for id (Some told) (answered_by (delivered_by pool worker target after answer).0)) machine
      (machine_of id (delivered_by pool worker target after answer).1.machines)) (sym posted.2)
      (subst (λ (answered : Option (Answer S C)). WentBy (taken_for id (Some told) answered) machine (machine_of id machines)) (ap answered_by posted.2) went)
  delivered_went pool worker id target content machine after given found (inr refused) went =
      subst (λ (answer : StepAnswer S C).
      WentBy (taken_for id (Some (record { machine = target; command = command.Post Info content })) (answered_by (delivered_by pool worker target after answer).0)) machine
      (machine_of id (delivered_by pool worker target after answer).1.machines)) (sym refused.1)
      (went_nowhere [] machine (machine_of id pool.machines) refl found)

  deliver_found_went : (pool : PoolState M S D C) (worker : ℕ) (id : MachineId) (message : Message C) (machine : ScheduledMachine M S D C)
      (there : Option (ScheduledMachine M S D C)) → machine_of id pool.machines ≡ Some machine → machine_of message.target pool.machines ≡ there
      → WentBy (taken_for id (Some (post_for message)) (answered_by (deliver_found callbacks pool worker message there).0)) machine
      (machine_of id (deliver_found callbacks pool worker message there).1.machines)
  deliver_found_went pool worker id message machine None found there = went_nowhere [] machine (machine_of id pool.machines) refl found
  deliver_found_went pool worker id message machine (Some old) found there =
      let told = told_on callbacks old (command.Post Info message.content) in
      delivered_went pool worker id message.target message.content machine told.1 told.0 found (told_post old message.content)
      (changed_by (same_id id message.target) pool.machines id message.target (command.Post Info message.content) machine old told refl found there
      (told_on_taken callbacks old (command.Post Info message.content) (only_turns callbacks old.core (command.Post Info message.content) refl)))

  deliver_went : (pool : PoolState M S D C) (worker : ℕ) (id : MachineId) (machine : ScheduledMachine M S D C) (carried : Option (Message C))
      → machine_of id pool.machines ≡ Some machine
      → WentBy (taken_for id (option_map post_for carried) (answered_by (deliver_of callbacks pool worker carried).0)) machine
      (machine_of id (deliver_of callbacks pool worker carried).1.machines)
  deliver_went pool worker id machine None found = went_nowhere [] machine (machine_of id pool.machines) refl found
  deliver_went pool worker id machine (Some message) found =
      deliver_found_went pool worker id message machine (machine_of message.target pool.machines) found refl

  -- a machine went through the command of a step by definition, if that is its own
  pub defined_went : (old : PoolState M S D C) (step : Step C) (id : MachineId) (machine : ScheduledMachine M S D C)
      → machine_of id old.machines ≡ Some machine
      → WentBy (entry_of id old step (step_in callbacks old step).0) machine (machine_of id (step_in callbacks old step).1.machines)
  defined_went old (Post target entry content) id machine found =
      tell_went old id target (command.Post entry content) machine (machine_of target old.machines) refl found refl
  defined_went old (Tick target now) id machine found =
      tell_went old id target (command.Tick now) machine (machine_of target old.machines) refl found refl
  defined_went old (Give token lane) id machine found =
      give_went (is_with_callers old.machines token && has_lane old.queues lane) id machine _ _
      (moved_by (same_id id token.machine) old.machines id token.machine false machine refl found)
      (went_nowhere [] machine (machine_of id old.machines) refl found)
  defined_went old (Take worker lane) id machine found = went_nowhere [] machine (machine_of id old.machines) refl found
  defined_went old (Turn worker now) id machine found =
      guard_went (is_carrying old.transit worker) old (Turn worker now) id machine _ found (turn_went old worker id now machine (hand_in old.queues worker) found)
  defined_went old (PutBack worker) id machine found =
      guard_went (is_carrying old.transit worker) old (PutBack worker) id machine _ found (put_back_went old worker id machine (hand_in old.queues worker) found)
  defined_went old (Drop worker) id machine found =
      guard_went (is_carrying old.transit worker) old (Drop worker) id machine _ found (drop_went old worker id machine (hand_in old.queues worker) found)
  defined_went old (Stop target reason) id machine found =
      tell_went old id target (command.Stop reason) machine (machine_of target old.machines) refl found refl
  defined_went old (Reply target tag content) id machine found =
      tell_went old id target (command.Reply tag content) machine (machine_of target old.machines) refl found refl
  defined_went old (Collect target tag) id machine found =
      tell_went old id target (command.Collect tag) machine (machine_of target old.machines) refl found refl
  defined_went old (Carry worker) id machine found =
      guard_went (is_carrying old.transit worker) old (Carry worker) id machine _ found (carry_went old worker id machine (hand_in old.queues worker) found refl)
  defined_went old (Deliver worker) id machine found = deliver_went old worker id machine (message_in old.transit worker) found
