-- What a machine whose journal is not kept does is what a cell does that is cut behind it.
use Rattle.std.proofs.Common.{◌≡◌, ◌&&◌, ℕ, inl, inr, Bool, true, false, if◌then◌else◌, List, refl, sym, ap, ◌∙◌}
use Rattle.std.specs.Prelude.{Result, Ok, Err, Option, is_some}
use Rattle.st_events.specs.declared.message.Message.{Message}
use Rattle.st_events.specs.declared.refusal.Refusal.{Refusal}
use Rattle.st_events.specs.declared.refusal.Refusal.TheVariants.{NotQueued, Exhausted}
use Rattle.st_events.specs.declared.refused.Refused.{Refused}
use Rattle.st_events.specs.declared.token.Token.{Token}
use Rattle.st_answers.specs.declared.answer.Answer.TheVariants as answer
use Rattle.st_answers.specs.declared.command.Command.{Command}
use Rattle.st_answers.specs.declared.command.Command.TheVariants as command
use Rattle.st_answers.specs.declared.entry.Entry.{Entry}
use Rattle.st_core.specs.Callbacks.{Callbacks}
use Rattle.st_core.specs.MachineState.{Machine}
use Rattle.st_core.specs.Run.{step_on}
use Rattle.st_core.specs.Stop.{stop_of}
use Rattle.st_scheduled.specs.declared.step_answer.StepAnswer.{StepAnswer}
use Rattle.st_scheduled.specs.declared.step_answer.StepAnswer.TheVariants as step
use Rattle.st_scheduled.specs.Answered.{is_counted}
use Rattle.st_scheduled.specs.ScheduledMachine.{ScheduledMachine, is_token_of}
use Rattle.st_scheduled.specs.Serving.{content_of, is_full, is_turn, needs_count, refused_with, takes_memory_as, told_as, told_on, served_on, Tells, Serves}
use Rattle.st_scheduled.proofs.CountLemmas.{turn_counted}
use Rattle.st_scheduled.specs.declared.next.Next.{Next}
use Rattle.st_scheduled.specs.declared.next.Next.TheVariants.{Again, Rest}
use Rattle.st_journal.specs.declared.source.Source.{Source}
use Rattle.st_journal.specs.declared.source.Source.TheVariants as source
use Rattle.st_cell.specs.Calls.{call_takes_memory, counted_at, done_as, given_as, told_by, post_by, served_at, Posts, IsToldBy, IsServed, TurnsBy, Turns, TakesOutBy, TakesOut}
use Rattle.st_cell.specs.Cell.{CellState}
use Rattle.st_cell.proofs.CallLemmas.{turn_done, turn_refused}
use Rattle.st_any_cell.specs.AnyCell.{bare, IsCutBehind}

-- ---- memory
-- what takes memory is counted, but for a turn
takes_counted : {S C : Type 0} (said : StepAnswer S C) → takes_memory_as false false said ≡ true → is_counted said ≡ true
takes_counted (step.Posted number wake) h = refl
takes_counted (step.Ticked expired wake) h = refl
takes_counted step.Moved h = let same : false ≡ true = h in cc
takes_counted (step.Turned report) h = refl
takes_counted step.Rested h = let same : false ≡ true = h in cc
takes_counted (step.Stopped word) h = let same : false ≡ true = h in cc
takes_counted (step.Replied taken) h = let same : false ≡ true = h in cc
takes_counted (step.Collected shown) h = let same : false ≡ true = h in cc
takes_counted (step.Refused refused) h = let same : false ≡ true = h in cc
takes_counted (step.TakenOut message) h = let same : false ≡ true = h in cc
takes_counted (step.Lost refusal) h = let same : false ≡ true = h in cc

-- a stop takes none
stop_free_as : {M S D C : Type 0} (full : Bool) (old : ScheduledMachine M S D C) (content : Option C) (said : Result ℕ Refusal) (core : Machine M S D C)
    → takes_memory_as false false (if full && needs_count {S = S} {C = C} (answer.Stop said) then (refused_with Exhausted content, old) else told_as old (answer.Stop said) core).0 ≡ true → false ≡ true
stop_free_as true old content (Ok word) core h = h
stop_free_as true old content (Err refusal) core h = h
stop_free_as false old content (Ok word) core h = h
stop_free_as false old content (Err refusal) core h = h

module _ {M S D C : Type 0} (callbacks : M → Callbacks S D C) where
  -- a command that is no post of a port
  pub bare_told : (old : ScheduledMachine M S D C) (ports : List ℕ) (source : Source) (command : Command C) (answer : StepAnswer S C) (new : ScheduledMachine M S D C)
      → (takes_memory_as (is_turn command) false (told_on callbacks old command).0 ≡ true → call_takes_memory command (told_on callbacks old command).0 ≡ true)
      → Tells callbacks old command answer new
      → IsCutBehind (IsToldBy callbacks (bare old ports) source command answer) (bare new ports)
  bare_told old ports source command answer new wants (inl done) =
      ((told_by callbacks (bare old ports) source command).1, inl (done.0, refl), ap (λ (one : ScheduledMachine M S D C). bare one ports) done.1)
  bare_told old ports source command answer new wants (inr none) =
      (bare old ports, inr (wants none.0, none.1, refl), ap (λ (one : ScheduledMachine M S D C). bare one ports) none.2)

  -- so a machine finds memory for its stop
  pub stop_free : (old : ScheduledMachine M S D C) (reason : ℕ) → takes_memory_as false false (told_on callbacks old (command.Stop reason)).0 ≡ true → false ≡ true
  stop_free old reason h =
      stop_free_as (is_full old) old (content_of {C = C} (command.Stop reason)) (stop_of (callbacks old.core.module_) old.core.machine reason).0 (step_on callbacks old.core (command.Stop reason)).1 h

  -- and what is no turn and no stop takes memory where it is counted
  pub told_takes : (old : ScheduledMachine M S D C) (command : Command C) → takes_memory_as false false (told_on callbacks old command).0 ≡ true → is_counted (told_on callbacks old command).0 ≡ true
  told_takes old command h = takes_counted (told_on callbacks old command).0 h

  -- a post of a port
  pub bare_posted : (old : ScheduledMachine M S D C) (ports : List ℕ) (port : ℕ) (entry : Entry) (content : C) (answer : StepAnswer S C) (new : ScheduledMachine M S D C)
      → Tells callbacks old (command.Post entry content) answer new
      → IsCutBehind (Posts callbacks (bare old ports) port entry content answer) (bare new (counted_at port (is_counted answer) ports))
  bare_posted old ports port entry content answer new (inl done) = (
    (post_by callbacks (bare old ports) port entry content).1,
    inl (done.0, refl),
    ap (λ (said : StepAnswer S C). bare new (counted_at port (is_counted said) ports)) done.0
        ∙ ap (λ (one : ScheduledMachine M S D C). bare one (counted_at port (is_counted (told_on callbacks old (command.Post entry content)).0) ports)) done.1,
  )
  bare_posted old ports port entry content answer new (inr none) = (
    bare old ports,
    inr (takes_counted (told_on callbacks old (command.Post entry content)).0 none.0, none.1, refl),
    ap (λ (said : StepAnswer S C). bare new (counted_at port (is_counted said) ports)) none.1 ∙ ap (λ (one : ScheduledMachine M S D C). bare one ports) none.2,
  )

  -- a service
  pub bare_served : (old : ScheduledMachine M S D C) (ports : List ℕ) (now : ℕ) (answer : StepAnswer S C) (new : ScheduledMachine M S D C)
      → Serves callbacks old now answer new
      → IsCutBehind (IsServed callbacks (bare old ports) now answer) (bare new ports)
  bare_served old ports now answer new (inl done) =
      ((served_at callbacks (bare old ports) now).1, inl (done.0, refl), ap (λ (one : ScheduledMachine M S D C). bare one ports) done.1)
  bare_served old ports now answer new (inr none) =
      (bare old ports, inr (turn_counted (served_on callbacks old now).0 none.0, none.1, refl), ap (λ (one : ScheduledMachine M S D C). bare one ports) none.2)

  -- ---- turns
  -- by another token
  turns_other : (own : Bool) (cell : CellState M S D C) (token : Token) (now : ℕ) → own ≡ false
      → TurnsBy callbacks own cell token now (Err (record { refusal = NotQueued; value = token })) cell
  turns_other false cell token now own = (refl, refl)
  turns_other true cell token now own = let same : true ≡ false = own in cc

  pub bare_turn_other : (old : ScheduledMachine M S D C) (ports : List ℕ) (token : Token) (now : ℕ) → is_token_of token old ≡ false
      → IsCutBehind (Turns callbacks (bare old ports) token now (Err (record { refusal = NotQueued; value = token }))) (bare old ports)
  bare_turn_other old ports token now own = (bare old ports, turns_other (is_token_of token old) (bare old ports) token now own, refl)

  -- by the machine's own
  pub bare_turn_done : (old new : CellState M S D C) (token : Token) (now : ℕ) (next : Next) → is_token_of token old.scheduled ≡ true
      → (answer : StepAnswer S C) × IsCutBehind (IsServed callbacks old now answer) new × (Ok tt ≡ done_as answer)
      → next ≡ (if is_some new.scheduled.token then Again token else Rest)
      → IsCutBehind (Turns callbacks old token now (Ok next)) (new)
  bare_turn_done old new token now next own (answer, (after, served, is), done) shown =
      (after, turn_done callbacks old after token now next answer own served (sym done) (shown ∙ ap (λ (cell : CellState M S D C). if is_some cell.scheduled.token then Again token else Rest) is), is)

  pub bare_turn_refused : (old new : CellState M S D C) (token : Token) (now : ℕ) (refusal : Refusal) → is_token_of token old.scheduled ≡ true
      → (answer : StepAnswer S C) × IsCutBehind (IsServed callbacks old now answer) new × (Err refusal ≡ done_as answer)
      → IsCutBehind (Turns callbacks old token now (Err (record { refusal = refusal; value = token }))) (new)
  bare_turn_refused old new token now refusal own (answer, (after, served, is), done) =
      (after, turn_refused callbacks old after token now refusal answer own served (sym done), is)

  -- ---- take-outs
  takes_by : (own : Bool) (old new : CellState M S D C) (token : Token) (result : Result (Option (Message C)) (Refused Token)) → own ≡ true
      → IsToldBy callbacks old source.Caller command.TakeOut (given_as result) new → TakesOutBy callbacks own old token result new
  takes_by true old new token result own told = told
  takes_by false old new token result own told = let same : false ≡ true = own in cc

  takes_other : (own : Bool) (cell : CellState M S D C) (token : Token) → own ≡ false
      → TakesOutBy callbacks own cell token (Err (record { refusal = NotQueued; value = token })) cell
  takes_other false cell token own = (refl, refl)
  takes_other true cell token own = let same : true ≡ false = own in cc

  -- by another token
  pub bare_take_other : (old : ScheduledMachine M S D C) (ports : List ℕ) (token : Token) → is_token_of token old ≡ false
      → IsCutBehind (TakesOut callbacks (bare old ports) token (Err (record { refusal = NotQueued; value = token }))) (bare old ports)
  bare_take_other old ports token own = (bare old ports, takes_other (is_token_of token old) (bare old ports) token own, refl)

  -- by the machine's own
  pub bare_taken : (old : ScheduledMachine M S D C) (ports : List ℕ) (token : Token) (result : Result (Option (Message C)) (Refused Token)) (new : ScheduledMachine M S D C)
      → is_token_of token old ≡ true → Tells callbacks old command.TakeOut (given_as result) new
      → IsCutBehind (TakesOut callbacks (bare old ports) token result) (bare new ports)
  bare_taken old ports token result new own tells =
      let told = bare_told old ports source.Caller command.TakeOut (given_as result) new (takes_counted (told_on callbacks old command.TakeOut).0) tells in
      (told.0, takes_by (is_token_of token old) (bare old ports) told.0 token result own told.1, told.2)
