-- What a call answers and leaves, by what the machine was told and by the entry that was written.
use Rattle.std.proofs.Common.{◌≡◌, ℕ, inl, inr, Bool, true, false, if◌then◌else◌, Option, Some, None, List, [], ◌∷◌, ◌++◌, refl, sym, ap, subst, ◌∙◌, ◌&&◌, length, arith, append-nil}
use Rattle.std.specs.Prelude.{is_some, is_none, is_err, Result, Ok, Err, OnOk, IfErr}
use Rattle.st_events.specs.declared.refusal.Refusal.{Refusal}
use Rattle.st_events.specs.declared.refusal.Refusal.TheVariants.{NoMemory}
use Rattle.st_events.specs.declared.refused.Refused.{Refused}
use Rattle.st_events.specs.declared.token.Token.{Token}
use Rattle.st_answers.specs.declared.answer.Answer.TheVariants as answer
use Rattle.st_answers.specs.declared.report.Report.{Report}
use Rattle.st_answers.specs.declared.turned.Turned.TheVariants.{Reported}
use Rattle.st_answers.specs.declared.command.Command.{Command}
use Rattle.st_answers.specs.declared.command.Command.TheVariants as command
use Rattle.st_core.specs.Callbacks.{Callbacks}
use Rattle.st_core.specs.Choice.{next_event_of}
use Rattle.st_core.specs.MachineState.{Machine}
use Rattle.st_core.specs.Run.{Meets}
use Rattle.st_scheduled.specs.declared.step_answer.StepAnswer.{StepAnswer}
use Rattle.st_scheduled.specs.declared.step_answer.StepAnswer.TheVariants as step
use Rattle.st_scheduled.specs.Answered.{is_counted}
use Rattle.st_scheduled.specs.ScheduledMachine.{ScheduledMachine, is_token_of, has_event, has_message}
use Rattle.st_scheduled.specs.Serving.{content_of, refused_with, takes_memory_as, retired, served_idle, told_on, served_on, Serves}
use Rattle.st_scheduled.proofs.CountLemmas.{turn_counted}
use Rattle.st_journal.specs.declared.journal_entry.JournalEntry.{JournalEntry}
use Rattle.st_scheduled.specs.declared.next.Next.{Next}
use Rattle.st_scheduled.specs.declared.next.Next.TheVariants.{Again, Rest}
use Rattle.st_journal.specs.declared.source.Source.{Source}
use Rattle.st_journal.specs.declared.source.Source.TheVariants as source
use Rattle.st_cell.specs.Cell.{CellState, JournaledState, HasRoom}
use Rattle.st_cell.specs.Calls.{kept_answer, entry_of, call_takes_memory, with_entry, done_as, next_as, MeetsCall, IsServed, TurnsBy, Turns}

-- a call that found no memory has no entry
no_entry_for : {S C : Type 0} (entries : List (JournalEntry S C)) (number : ℕ) (source : Source) (command : Command C) (answer : StepAnswer S C)
    → answer ≡ refused_with NoMemory (content_of command) → entries ++ entry_of number source command (kept_answer answer) ≡ entries
no_entry_for entries number source command answer is =
    ap (λ said. entries ++ entry_of number source command (kept_answer said)) is ∙ append-nil entries

-- what is not counted has no entry
pub unkept : {S C : Type 0} (number : ℕ) (source : Source) (command : Command C) (answer : StepAnswer S C) → is_counted answer ≡ false
    → entry_of number source command (kept_answer answer) ≡ []
unkept number source command answer counted = rw counted refl

module _ {M S D C : Type 0} where
  -- the machine was told a command, or found no memory, and what was written is the entry of its answer
  pub meets_with : (cell : CellState M S D C) (source : Source) (command : Command C) (takes : StepAnswer S C → Bool) (definition : StepAnswer S C × ScheduledMachine M S D C)
      (answer : StepAnswer S C) (new : ScheduledMachine M S D C) (journal : List (JournalEntry S C))
      → Meets takes (refused_with NoMemory (content_of command)) answer cell.scheduled new definition
      → (takes definition.0 ≡ true → call_takes_memory command definition.0 ≡ true)
      → journal ≡ cell.journal ++ entry_of new.count source command (kept_answer answer)
      → MeetsCall command answer cell (record cell { scheduled = new; journal = journal }) (with_entry cell source command definition)
  meets_with cell source command takes definition answer new journal (inl done) wants written =
      inl (done.0, rw (written, done.0, done.1) refl)
  meets_with cell source command takes definition answer new journal (inr none) wants written =
      let same : journal ≡ cell.journal = written ∙ no_entry_for cell.journal new.count source command answer none.1 in
      inr (wants none.0, none.1, rw (none.2, same) refl)

  module _ (callbacks : M → Callbacks S D C) where
    -- a turn
    pub meets_served : (cell : CellState M S D C) (now : ℕ) (answer : StepAnswer S C) (new : ScheduledMachine M S D C) (journal : List (JournalEntry S C))
        → Serves callbacks cell.scheduled now answer new
        → journal ≡ cell.journal ++ entry_of new.count source.Caller (command.Turn now) (kept_answer answer)
        → IsServed callbacks cell now answer (record cell { scheduled = new; journal = journal })
    meets_served cell now answer new journal serves written =
        meets_with cell source.Caller (command.Turn now) (takes_memory_as true false) (served_on callbacks cell.scheduled now) answer new journal serves
        (turn_counted (served_on callbacks cell.scheduled now).0) written

module _ {S C : Type 0} where
  -- what is done answers what becomes of the token, and what is refused the token
  pub next_done : (token : Token) (answer : StepAnswer S C) (keeps : Bool) → done_as answer ≡ Ok tt → next_as token answer keeps ≡ Ok (if keeps then Again token else Rest)
  next_done token (step.Refused refused) keeps is = cc
  next_done token (step.Posted number wake) keeps is = refl
  next_done token (step.Ticked expired wake) keeps is = refl
  next_done token step.Moved keeps is = refl
  next_done token (step.Turned report) keeps is = refl
  next_done token step.Rested keeps is = refl
  next_done token (step.Stopped word) keeps is = refl
  next_done token (step.Replied taken) keeps is = refl
  next_done token (step.Collected shown) keeps is = refl
  next_done token (step.TakenOut message) keeps is = refl
  next_done token (step.Lost refusal) keeps is = refl

  pub next_refused : (token : Token) (answer : StepAnswer S C) (keeps : Bool) (refusal : Refusal) → done_as answer ≡ Err refusal
      → next_as token answer keeps ≡ Err (record { refusal = refusal; value = token })
  next_refused token (step.Refused refused) keeps refusal is = let same : refused.refusal ≡ refusal = cc in rw same refl
  next_refused token (step.Posted number wake) keeps refusal is = cc
  next_refused token (step.Ticked expired wake) keeps refusal is = cc
  next_refused token step.Moved keeps refusal is = cc
  next_refused token (step.Turned report) keeps refusal is = cc
  next_refused token step.Rested keeps refusal is = cc
  next_refused token (step.Stopped word) keeps refusal is = cc
  next_refused token (step.Replied taken) keeps refusal is = cc
  next_refused token (step.Collected shown) keeps refusal is = cc
  next_refused token (step.TakenOut message) keeps refusal is = cc
  next_refused token (step.Lost why) keeps refusal is = cc

module _ {M S D C : Type 0} where
  -- where the machine alone changed of a cell that is another's equal, it alone changed of that
  pub same_but_machine : (old between after : CellState M S D C) → after ≡ record between { scheduled = after.scheduled } → between ≡ old
      → after ≡ record old { scheduled = after.scheduled }
  same_but_machine old between after rest same = rest ∙ ap (λ (cell : CellState M S D C). record cell { scheduled = after.scheduled }) same

module _ {M S D C : Type 0} (callbacks : M → Callbacks S D C) where
  -- a turn by the machine's token
  turns_own : (own : Bool) (old new : CellState M S D C) (token : Token) (now : ℕ) (result : Result Next (Refused Token)) → own ≡ true
      → (answer : StepAnswer S C) → IsServed callbacks old now answer new → result ≡ next_as token answer (is_some new.scheduled.token)
      → TurnsBy callbacks own old token now result new
  turns_own true old new token now result own answer served is = (answer, served, is)
  turns_own false old new token now result own answer served is = let same : false ≡ true = own in cc

  pub turn_done : (old new : CellState M S D C) (token : Token) (now : ℕ) (next : Next) (answer : StepAnswer S C) → is_token_of token old.scheduled ≡ true
      → IsServed callbacks old now answer new → done_as answer ≡ Ok tt → next ≡ (if is_some new.scheduled.token then Again token else Rest)
      → Turns callbacks old token now (Ok next) new
  turn_done old new token now next answer own served done is =
      turns_own (is_token_of token old.scheduled) old new token now (Ok next) own answer served
      (ap (λ (said : Next). Ok said) is ∙ sym (next_done token answer (is_some new.scheduled.token) done))

  pub turn_refused : (old new : CellState M S D C) (token : Token) (now : ℕ) (refusal : Refusal) (answer : StepAnswer S C) → is_token_of token old.scheduled ≡ true
      → IsServed callbacks old now answer new → done_as answer ≡ Err refusal → Turns callbacks old token now (Err (record { refusal = refusal; value = token })) new
  turn_refused old new token now refusal answer own served done =
      turns_own (is_token_of token old.scheduled) old new token now (Err (record { refusal = refusal; value = token })) own answer served
      (sym (next_refused token answer (is_some new.scheduled.token) refusal done))

  -- the machine was served, and nothing was written, for what it answered was not counted
  pub served_unwritten : (old new : CellState M S D C) (now : ℕ) (answer : StepAnswer S C) → Serves callbacks old.scheduled now answer new.scheduled
      → is_counted answer ≡ false → new ≡ record old { scheduled = new.scheduled } → IsServed callbacks old now answer new
  served_unwritten old new now answer serves counted rest =
      subst (λ (cell : CellState M S D C). IsServed callbacks old now answer cell) (sym rest)
      (meets_served callbacks old now answer new.scheduled old.journal serves
      (sym (ap (λ more. old.journal ++ more) (unkept new.scheduled.count source.Caller (command.Turn now) answer counted) ∙ append-nil old.journal)))

  -- the machine was served, and its turn was written
  pub served_written : (old new between : CellState M S D C) (now : ℕ) (report : Report S) → Serves callbacks old.scheduled now (step.Turned report) between.scheduled
      → between ≡ record old { scheduled = between.scheduled }
      → new ≡ record between { journal = between.journal ++ record { number = between.scheduled.count; source = source.Caller; command = command.Turn now; answer = answer.Turn (Ok (Reported report)) } ∷ [] }
      → IsServed callbacks old now (step.Turned report) new
  served_written old new between now report serves rest written =
      let entry : JournalEntry S C = record { number = between.scheduled.count; source = source.Caller; command = command.Turn now; answer = answer.Turn (Ok (Reported report)) } in
      let journal : between.journal ≡ old.journal = ap (λ (cell : CellState M S D C). cell.journal) rest in
      let after : new ≡ record old { scheduled = between.scheduled; journal = old.journal ++ entry ∷ [] } =
      written ∙ (ap (λ (entries : List (JournalEntry S C)). record between { journal = entries ++ entry ∷ [] }) journal
      ∙ ap (λ (cell : CellState M S D C). record cell { journal = old.journal ++ entry ∷ [] }) rest) in
      subst (λ (cell : CellState M S D C). IsServed callbacks old now (step.Turned report) cell) (sym after)
      (meets_served callbacks old now (step.Turned report) between.scheduled (old.journal ++ entry ∷ []) serves refl)

  -- a turn whose answer is not counted by definition is not counted, whatever memory there is
  pub served_uncounted : (old new : ScheduledMachine M S D C) (now : ℕ) (answer : StepAnswer S C) → Serves callbacks old now answer new
      → is_counted (served_on callbacks old now).0 ≡ false → is_counted answer ≡ false
  served_uncounted old new now answer (inl done) counted = ap is_counted done.0 ∙ counted
  served_uncounted old new now answer (inr none) counted = ap is_counted none.1

  -- a machine that has no event stays, whether it has a message or not
  idle_core : (sending : Bool) (old : ScheduledMachine M S D C)
      → (if◌then◌else◌ {A = StepAnswer S C × ScheduledMachine M S D C} sending (step.Moved, old) (step.Rested, retired old)).1.core ≡ old.core
  idle_core true old = refl
  idle_core false old = refl

  -- a machine that has not ended after it was served had not ended before
  runs_by : (ended : Option (ℕ × ℕ)) (old new : ScheduledMachine M S D C) (now : ℕ) (answer : StepAnswer S C) → old.core.machine.ended ≡ ended
      → Serves callbacks old now answer new → new.core.machine.ended ≡ None → ended ≡ None
  runs_by None old new now answer is serves runs = refl
  runs_by (Some end) old new now answer is (inr none) runs = sym is ∙ (ap (λ (one : ScheduledMachine M S D C). one.core.machine.ended) (sym none.2) ∙ runs)
  runs_by (Some end) old new now answer is (inl done) runs =
      let idle : has_event old.core ≡ false = ap (λ (one : Option (ℕ × ℕ)). is_none one && is_some (next_event_of old.core.machine)) is in
      let same : (served_on callbacks old now).1.core ≡ old.core =
      ap (λ (event : Bool). (if event then told_on callbacks old (command.Turn now) else served_idle old).1.core) idle ∙ idle_core (has_message old.core) old in
      sym is ∙ (sym (ap (λ (core : Machine M S D C). core.machine.ended) (ap (λ (one : ScheduledMachine M S D C). one.core) done.1 ∙ same)) ∙ runs)

  -- so there is room still
  pub room_served : (old new : JournaledState M S D C) (now : ℕ) (answer : StepAnswer S C) → Serves callbacks old.cell.scheduled now answer new.cell.scheduled
      → new.cell ≡ record old.cell { scheduled = new.cell.scheduled } → new.places ≡ old.places → HasRoom old → HasRoom new
  room_served old new now answer serves rest places room runs =
      let before = room (runs_by old.cell.scheduled.core.machine.ended old.cell.scheduled new.cell.scheduled now answer refl serves runs) in
      let journal : length new.cell.journal ≡ length old.cell.journal = ap (λ (cell : CellState M S D C). length cell.journal) rest in
      omega (arith, before, journal, places)

-- where places were got there are places
pub got_places : {T E : Type 0} (P : Type 0) (result : Result T E) → is_err result ≡ false → OnOk result P → P
got_places P (Ok x) got h = h
got_places P (Err e) got h = let same : true ≡ false = got in cc

module _ {M S D C : Type 0} (callbacks : M → Callbacks S D C) where
  returned_as : (token : Token) (answer : StepAnswer S C) (keeps : Bool) → IfErr (next_as token answer keeps) (λ refused. refused.value ≡ token)
  returned_as token (step.Refused refused) keeps = refl
  returned_as token (step.Posted number wake) keeps = tt
  returned_as token (step.Ticked expired wake) keeps = tt
  returned_as token step.Moved keeps = tt
  returned_as token (step.Turned report) keeps = tt
  returned_as token step.Rested keeps = tt
  returned_as token (step.Stopped word) keeps = tt
  returned_as token (step.Replied taken) keeps = tt
  returned_as token (step.Collected shown) keeps = tt
  returned_as token (step.TakenOut message) keeps = tt
  returned_as token (step.Lost refusal) keeps = tt

  returned_by : (own : Bool) (old new : CellState M S D C) (token : Token) (now : ℕ) (result : Result Next (Refused Token))
      → TurnsBy callbacks own old token now result new → IfErr result (λ refused. refused.value ≡ token)
  returned_by false old new token now result done = rw done.0 refl
  returned_by true old new token now result done = rw done.2 (returned_as token done.0 (is_some new.scheduled.token))

  -- a refused turn gives its token back
  pub turns_returned : (old new : CellState M S D C) (token : Token) (now : ℕ) (result : Result Next (Refused Token))
      → Turns callbacks old token now result new → IfErr result (λ refused. refused.value ≡ token)
  turns_returned old new token now result done = returned_by (is_token_of token old.scheduled) old new token now result done
