-- What a call that is no turn answers and leaves, by what the machine was told and by the entry that was written.
use Rattle.std.proofs.Common.{◌≡◌, ℕ, ◌+◌, ◌-◌, ◌^◌, ◌≤◌, ◌<◌, inl, inr, Bool, ◌&&◌, true, false, if◌then◌else◌, Option, Some, None, List, [], ◌∷◌, ◌++◌, refl, sym, ap, subst, ◌∙◌, length, arith, append-nil}
use Rattle.std.specs.Prelude.{Result, Ok, Err, OnOk}
use Rattle.std.proofs.lemmas.List.{length-append}
use Rattle.st_events.specs.declared.refusal.Refusal.TheVariants.{NoMemory, NotQueued, Exhausted}
use Rattle.st_events.specs.declared.message.Message.{Message}
use Rattle.st_events.specs.declared.refused.Refused.{Refused}
use Rattle.st_events.specs.declared.token.Token.{Token}
use Rattle.st_requests.specs.declared.collected.Collected.TheVariants as collected
use Rattle.st_answers.specs.declared.answer.Answer.{Answer}
use Rattle.st_answers.specs.declared.answer.Answer.TheVariants as answer
use Rattle.st_answers.specs.declared.command.Command.{Command}
use Rattle.st_answers.specs.declared.command.Command.TheVariants as command
use Rattle.st_answers.specs.declared.entry.Entry.{Entry}
use Rattle.st_answers.specs.declared.turned.Turned.TheVariants.{Reported, Idle}
use Rattle.st_core.specs.Callbacks.{Callbacks}
use Rattle.st_core.specs.MachineState.{Machine}
use Rattle.st_core.specs.Run.{Meets, step_on}
use Rattle.st_scheduled.specs.declared.step_answer.StepAnswer.{StepAnswer}
use Rattle.st_scheduled.specs.declared.step_answer.StepAnswer.TheVariants as step
use Rattle.st_scheduled.specs.Answered.{answered_by, is_refused, is_counted}
use Rattle.st_scheduled.specs.ScheduledMachine.{ScheduledMachine, is_token_of, has_message}
use Rattle.st_scheduled.specs.Serving.{content_of, refused_with, takes_memory_as, is_full, needs_count, retired, told_as, told_on}
use Rattle.st_journal.specs.declared.journal_entry.JournalEntry.{JournalEntry}
use Rattle.st_journal.specs.declared.source.Source.{Source}
use Rattle.st_journal.specs.declared.source.Source.TheVariants as source
use Rattle.st_cell.specs.Cell.{CellState, JournaledState, HasRoom}
use Rattle.st_cell.specs.Calls.{kept_answer, entry_of, call_takes_memory, counted_at, given_as, told_by, Posts, IsToldBy, IsTold, TurnsBy, Turns, TakesOutBy, TakesOut}
use Rattle.st_cell.proofs.CallLemmas.{unkept, meets_with}
use Rattle.st_cell.proofs.JournalLemmas.{longer}

-- a command that takes memory and is no turn is counted
memory_counted : {S C : Type 0} (said : StepAnswer S C) → takes_memory_as false false said ≡ true → is_counted said ≡ true
memory_counted (step.Posted number wake) h = refl
memory_counted (step.Ticked expired wake) h = refl
memory_counted step.Moved h = h
memory_counted (step.Turned report) h = refl
memory_counted step.Rested h = h
memory_counted (step.Stopped word) h = refl
memory_counted (step.Replied taken) h = refl
memory_counted (step.Collected shown) h = let same : false ≡ true = h in cc
memory_counted (step.Refused refused) h = h
memory_counted (step.TakenOut message) h = let same : false ≡ true = h in cc
memory_counted (step.Lost refusal) h = h

module _ {M S D C : Type 0} where
  -- ---- the end
  -- a step that leaves whether the machine has ended leaves it for the scheduled machine too
  idle_ended : (sending : Bool) (one old : ScheduledMachine M S D C) → one.core.machine.ended ≡ old.core.machine.ended
      → (if◌then◌else◌ {A = StepAnswer S C × ScheduledMachine M S D C} sending (step.Moved, one) (step.Rested, retired one)).1.core.machine.ended ≡ old.core.machine.ended
  idle_ended true one old same = same
  idle_ended false one old same = same

  ended_as : (old : ScheduledMachine M S D C) (said : Answer S C) (core : Machine M S D C) → core.machine.ended ≡ old.core.machine.ended
      → (told_as old said core).1.core.machine.ended ≡ old.core.machine.ended
  ended_as old (answer.Post (Ok number)) core same = same
  ended_as old (answer.Post (Err refused)) core same = refl
  ended_as old (answer.Tick (Ok expired)) core same = same
  ended_as old (answer.Tick (Err refusal)) core same = refl
  ended_as old (answer.Turn (Ok (Reported report))) core same = same
  ended_as old (answer.Turn (Ok Idle)) core same = idle_ended (has_message core) (record old { core = core }) old same
  ended_as old (answer.Turn (Err refusal)) core same = refl
  ended_as old (answer.Reply taken) core same = same
  ended_as old (answer.Collect collected.Waiting) core same = same
  ended_as old (answer.Collect collected.Gone) core same = same
  ended_as old (answer.Collect (collected.Reply content)) core same = same
  ended_as old (answer.Collect (collected.Stopped reason)) core same = same
  ended_as old (answer.Stop (Ok word)) core same = same
  ended_as old (answer.Stop (Err refusal)) core same = refl
  ended_as old (answer.TakeOut None) core same = same
  ended_as old (answer.TakeOut (Some message)) core same = same

  full_ended : (full : Bool) (old : ScheduledMachine M S D C) (command : Command C) (told : StepAnswer S C × ScheduledMachine M S D C)
      → told.1.core.machine.ended ≡ old.core.machine.ended
      → (if full then (refused_with Exhausted (content_of command), old) else told).1.core.machine.ended ≡ old.core.machine.ended
  full_ended true old command told same = refl
  full_ended false old command told same = same

module _ {M S D C : Type 0} (callbacks : M → Callbacks S D C) where
  -- a machine was told a command that is no turn
  abbrev AnswersTo : ScheduledMachine M S D C → Command C → StepAnswer S C → ScheduledMachine M S D C → Type 0
  AnswersTo old command answer new =
      Meets (takes_memory_as false false) (refused_with NoMemory (content_of command)) answer old new (told_on callbacks old command)

  told_ended : (old : ScheduledMachine M S D C) (command : Command C) → (step_on callbacks old.core command).1.machine.ended ≡ old.core.machine.ended
      → (told_on callbacks old command).1.core.machine.ended ≡ old.core.machine.ended
  told_ended old command same =
      let step : Answer S C × Machine M S D C = step_on callbacks old.core command in
      full_ended (is_full old && needs_count step.0) old command (told_as old step.0 step.1) (ended_as old step.0 step.1 same)

  ended_after : (old new : ScheduledMachine M S D C) (command : Command C) (answer : StepAnswer S C) → AnswersTo old command answer new
      → (step_on callbacks old.core command).1.machine.ended ≡ old.core.machine.ended → new.core.machine.ended ≡ old.core.machine.ended
  ended_after old new command answer (inl done) same = ap (λ (one : ScheduledMachine M S D C). one.core.machine.ended) done.1 ∙ told_ended old command same
  ended_after old new command answer (inr none) same = ap (λ (one : ScheduledMachine M S D C). one.core.machine.ended) none.2

  -- so there is room still where nothing was written
  pub room_told : (old between : JournaledState M S D C) (new : ScheduledMachine M S D C) (command : Command C) (answer : StepAnswer S C) → between ≡ old
      → AnswersTo between.cell.scheduled command answer new
      → (step_on callbacks between.cell.scheduled.core command).1.machine.ended ≡ between.cell.scheduled.core.machine.ended
      → HasRoom old → HasRoom (record between { cell = record between.cell { scheduled = new } })
  room_told old between new command answer same told stays room runs =
      let before = room (ap (λ (held : JournaledState M S D C). held.cell.scheduled.core.machine.ended) (sym same)
      ∙ (sym (ended_after between.cell.scheduled new command answer told stays) ∙ runs)) in
      let journal : length between.cell.journal ≡ length old.cell.journal = ap (λ (held : JournaledState M S D C). length held.cell.journal) same in
      let places : between.places ≡ old.places = ap (λ (held : JournaledState M S D C). held.places) same in
      omega (arith, before, journal, places)

  -- ---- what is written
  -- what was answered is not counted, and has no entry
  pub told_unwritten : (old between : CellState M S D C) (source : Source) (command : Command C) (answer : StepAnswer S C) (new : ScheduledMachine M S D C)
      → between ≡ old → AnswersTo between.scheduled command answer new
      → ((said : StepAnswer S C) → is_counted said ≡ true → call_takes_memory command said ≡ true)
      → is_counted answer ≡ false → IsToldBy callbacks old source command answer (record between { scheduled = new })
  told_unwritten old between source command answer new same told wants uncounted =
      subst (λ (cell : CellState M S D C). IsToldBy callbacks cell source command answer (record between { scheduled = new })) same
      (meets_with between source command (takes_memory_as false false) (told_on callbacks between.scheduled command) answer new between.journal told
      (λ h. wants (told_on callbacks between.scheduled command).0 (memory_counted (told_on callbacks between.scheduled command).0 h))
      (sym (ap (λ more. between.journal ++ more) (unkept new.count source command answer uncounted) ∙ append-nil between.journal)))

  -- likewise where the machine's cell is known by its value alone
  pub told_left : (old : CellState M S D C) (got held after : JournaledState M S D C) (source : Source) (command : Command C) (answer : StepAnswer S C)
      (new : ScheduledMachine M S D C) → held ≡ got → got.cell ≡ old → AnswersTo held.cell.scheduled command answer new
      → ((said : StepAnswer S C) → is_counted said ≡ true → call_takes_memory command said ≡ true)
      → is_counted answer ≡ false → after ≡ record held { cell = record held.cell { scheduled = new } } → IsToldBy callbacks old source command answer after.cell
  told_left old got held after source command answer new at same told wants uncounted is =
      subst (λ (one : JournaledState M S D C). IsToldBy callbacks old source command answer one.cell) (sym is)
      (told_unwritten old held.cell source command answer new (ap (λ (one : JournaledState M S D C). one.cell) at ∙ same) told wants uncounted)

  -- a command whose answer by definition is not counted is not counted, whatever memory there is
  uncounted_by : (old new : ScheduledMachine M S D C) (command : Command C) (answer : StepAnswer S C) → AnswersTo old command answer new
      → is_counted (told_on callbacks old command).0 ≡ false → is_counted answer ≡ false
  uncounted_by old new command answer (inl done) counted = ap is_counted done.0 ∙ counted
  uncounted_by old new command answer (inr none) counted = ap is_counted none.1

  pub told_untaken : (old between : CellState M S D C) (source : Source) (command : Command C) (answer : StepAnswer S C) (new : ScheduledMachine M S D C)
      → between ≡ old → AnswersTo between.scheduled command answer new
      → ((said : StepAnswer S C) → is_counted said ≡ true → call_takes_memory command said ≡ true)
      → is_counted (told_on callbacks between.scheduled command).0 ≡ false → IsToldBy callbacks old source command answer (record between { scheduled = new })
  told_untaken old between source command answer new same told wants counted =
      told_unwritten old between source command answer new same told wants (uncounted_by between.scheduled new command answer told counted)

  -- there was no memory for the entry of a command that would be counted
  pub told_unprepared : (old between new : CellState M S D C) (source : Source) (command : Command C) → between ≡ old
      → is_counted (told_on callbacks between.scheduled command).0 ≡ true
      → ((said : StepAnswer S C) → is_counted said ≡ true → call_takes_memory command said ≡ true)
      → new ≡ old → IsToldBy callbacks old source command (refused_with NoMemory (content_of command)) new
  told_unprepared old between new source command same counted wants is =
      let taken = subst (λ (cell : CellState M S D C). is_counted (told_on callbacks cell.scheduled command).0 ≡ true) same counted in
      inr (wants (told_on callbacks old.scheduled command).0 taken, refl, is)

  -- what was answered was written
  pub told_written : (old between after : CellState M S D C) (source : Source) (command : Command C) (answer : StepAnswer S C) (new : ScheduledMachine M S D C) (said : Answer S C)
      → between ≡ old → AnswersTo between.scheduled command answer new
      → ((said : StepAnswer S C) → is_counted said ≡ true → call_takes_memory command said ≡ true)
      → kept_answer answer ≡ Some said
      → after ≡ record between { scheduled = new; journal = between.journal ++ record { number = new.count; source = source; command = command; answer = said } ∷ [] }
      → IsToldBy callbacks old source command answer after
  told_written old between after source command answer new said same told wants kept written =
      let entry : JournalEntry S C = record { number = new.count; source = source; command = command; answer = said } in
      subst (λ (cell : CellState M S D C). IsToldBy callbacks cell source command answer after) same
      (subst (λ (cell : CellState M S D C). IsToldBy callbacks between source command answer cell) (sym written)
      (meets_with between source command (takes_memory_as false false) (told_on callbacks between.scheduled command) answer new (between.journal ++ entry ∷ []) told
      (λ h. wants (told_on callbacks between.scheduled command).0 (memory_counted (told_on callbacks between.scheduled command).0 h))
      (sym (ap (λ (one : Option (Answer S C)). between.journal ++ entry_of new.count source command one) kept))))

  -- ---- what is kept of an answer
  -- a command that was counted was answered by the machine, for its count was not full
  kept_full : (full : Bool) (old : ScheduledMachine M S D C) (command : Command C) (answer : StepAnswer S C) (told : StepAnswer S C × ScheduledMachine M S D C) (kept : Answer S C)
      → answer ≡ (if full then (refused_with Exhausted (content_of command), old) else told).0 → is_counted answer ≡ true → answered_by told.0 ≡ Some kept
      → kept_answer answer ≡ Some kept
  kept_full true old command answer told kept is counted answered = let same : false ≡ true = ap is_counted (sym is) ∙ counted in cc
  kept_full false old command answer told kept is counted answered = rw counted (ap answered_by is ∙ answered)

  kept_by : (old new : ScheduledMachine M S D C) (command : Command C) (answer : StepAnswer S C) (kept : Answer S C) → AnswersTo old command answer new
      → is_refused answer ≡ false → is_counted (told_on callbacks old command).0 ≡ true
      → answered_by (told_as old (step_on callbacks old.core command).0 (step_on callbacks old.core command).1).0 ≡ Some kept → kept_answer answer ≡ Some kept
  kept_by old new command answer kept (inl done) taken counted answered =
      let step : Answer S C × Machine M S D C = step_on callbacks old.core command in
      kept_full (is_full old && needs_count step.0) old command answer (told_as old step.0 step.1) kept done.0 (ap is_counted done.0 ∙ counted) answered
  kept_by old new command answer kept (inr none) taken counted answered = let same : true ≡ false = ap is_refused (sym none.1) ∙ taken in cc

  pub kept_told : (old first between : CellState M S D C) (command : Command C) (answer : StepAnswer S C) (new : ScheduledMachine M S D C) (kept : Answer S C)
      → first ≡ old → between ≡ old → AnswersTo between.scheduled command answer new → is_refused answer ≡ false
      → is_counted (told_on callbacks first.scheduled command).0 ≡ true
      → answered_by (told_as old.scheduled (step_on callbacks old.scheduled.core command).0 (step_on callbacks old.scheduled.core command).1).0 ≡ Some kept
      → kept_answer answer ≡ Some kept
  kept_told old first between command answer new kept at is told taken counted answered =
      kept_by old.scheduled new command answer kept (subst (λ (cell : CellState M S D C). AnswersTo cell.scheduled command answer new) is told) taken
      (subst (λ (cell : CellState M S D C). is_counted (told_on callbacks cell.scheduled command).0 ≡ true) at counted) answered

  -- ---- posts of ports
  -- what was posted is one more of its port
  pub port_posted : (old between after : CellState M S D C) (port : ℕ) (entry : Entry) (content : C) (number : ℕ) (wake : Option Token)
      → IsToldBy callbacks old (source.Port port) (command.Post entry content) (step.Posted number wake) between → between.ports ≡ old.ports
      → after ≡ record between { ports = counted_at port true between.ports } → Posts callbacks old port entry content (step.Posted number wake) after
  port_posted old between after port entry content number wake (inl done) same counted =
      let told = told_by callbacks old (source.Port port) (command.Post entry content) in
      inl (
        done.0,
        counted ∙ (ap (λ (cell : CellState M S D C). record cell { ports = counted_at port true cell.ports }) done.1
            ∙ ap (λ (said : StepAnswer S C). record told.1 { ports = counted_at port (is_counted said) old.ports }) done.0),
      )
  port_posted old between after port entry content number wake (inr none) same counted = let is = none.1 in cc

  -- what was refused is none
  pub port_refused : (old after : CellState M S D C) (port : ℕ) (entry : Entry) (content : C) (refused : Refused (Option C))
      → IsToldBy callbacks old (source.Port port) (command.Post entry content) (step.Refused refused) after → Posts callbacks old port entry content (step.Refused refused) after
  port_refused old after port entry content refused (inl done) =
      let told = told_by callbacks old (source.Port port) (command.Post entry content) in
      inl (done.0, done.1 ∙ ap (λ (said : StepAnswer S C). record told.1 { ports = counted_at port (is_counted said) old.ports }) done.0)
  port_refused old after port entry content refused (inr none) = inr none

  -- ---- tokens
  -- a take-out or a turn by another token than the machine's is refused
  pub takes_out_other : (old : CellState M S D C) (token : Token) → is_token_of token old.scheduled ≡ false
      → TakesOut callbacks old token (Err (record { refusal = NotQueued; value = token })) old
  takes_out_other old token other =
      subst (λ (own : Bool). TakesOutBy callbacks own old token (Err (record { refusal = NotQueued; value = token })) old) (sym other) (refl, refl)

  pub turns_other : (old : CellState M S D C) (token : Token) (now : ℕ) → is_token_of token old.scheduled ≡ false
      → Turns callbacks old token now (Err (record { refusal = NotQueued; value = token })) old
  turns_other old token now other =
      subst (λ (own : Bool). TurnsBy callbacks own old token now (Err (record { refusal = NotQueued; value = token })) old) (sym other) (refl, refl)

  -- a take-out by the machine's token
  pub takes_out_own : (old new : CellState M S D C) (token : Token) (result : Result (Option (Message C)) (Refused Token)) → is_token_of token old.scheduled ≡ true
      → IsTold callbacks old command.TakeOut (given_as result) new → TakesOut callbacks old token result new
  takes_out_own old new token result own told = subst (λ (own : Bool). TakesOutBy callbacks own old token result new) (sym own) told

module _ {M S D C : Type 0} where
  -- what was written after the machine was told, where all but the machine is known to be as it was
  pub written_after : (between told after : CellState M S D C) (source : Source) (command : Command C) (said : Answer S C) → told ≡ record between { scheduled = told.scheduled }
      → after ≡ record told { journal = told.journal ++ record { number = told.scheduled.count; source = source; command = command; answer = said } ∷ [] }
      → after ≡ record between { scheduled = told.scheduled; journal = between.journal ++ record { number = told.scheduled.count; source = source; command = command; answer = said } ∷ [] }
  written_after between told after source command said rest written =
      let entry : JournalEntry S C = record { number = told.scheduled.count; source = source; command = command; answer = said } in
      written ∙ ap (λ (cell : CellState M S D C). record cell { journal = cell.journal ++ entry ∷ [] }) rest

  -- ---- places
  -- there is room still in what is as it was but has more places
  pub room_more : (old new : JournaledState M S D C) → new.cell ≡ old.cell → old.places ≤ new.places → HasRoom old → HasRoom new
  room_more old new same more room runs =
      let before = room (ap (λ (cell : CellState M S D C). cell.scheduled.core.machine.ended) (sym same) ∙ runs) in
      let journal : length new.cell.journal ≡ length old.cell.journal = ap (λ (cell : CellState M S D C). length cell.journal) same in
      omega (arith, before, journal, more)

  -- where places for two entries were got there is one for this entry
  pub places_got : (old got held : JournaledState M S D C) → held ≡ got → got.cell ≡ old.cell → length old.cell.journal + 1 < got.places
      → length held.cell.journal + 1 < held.places
  places_got old got held is same enough =
      let places : held.places ≡ got.places = ap (λ (one : JournaledState M S D C). one.places) is in
      let journal : length held.cell.journal ≡ length old.cell.journal =
      ap (λ (one : JournaledState M S D C). length one.cell.journal) is ∙ ap (λ (cell : CellState M S D C). length cell.journal) same in
      omega (arith, enough, places, journal)

  -- and after it there is one for that of a stop
  pub room_written : (old got held after : JournaledState M S D C) (new : ScheduledMachine M S D C) (entry : JournalEntry S C) → held ≡ got → got.cell ≡ old.cell
      → length old.cell.journal + 1 < got.places → after.cell ≡ record held.cell { scheduled = new; journal = held.cell.journal ++ entry ∷ [] }
      → after.places ≡ held.places → HasRoom after
  room_written old got held after new entry is same enough written places runs =
      let free : length held.cell.journal + 1 < held.places = places_got old got held is same enough in
      let journal : length after.cell.journal ≡ length held.cell.journal + 1 = ap (λ (cell : CellState M S D C). length cell.journal) written ∙ longer held.cell.journal entry in
      omega (arith, free, places, journal)

  -- there is also where the command was refused
  pub room_unwritten : (old got held : JournaledState M S D C) (new : ScheduledMachine M S D C) → held ≡ got → got.cell ≡ old.cell
      → length old.cell.journal + 1 < got.places → HasRoom (record held { cell = record held.cell { scheduled = new } })
  room_unwritten old got held new is same enough runs =
      let free : length held.cell.journal + 1 < held.places = places_got old got held is same enough in
      omega (arith, free)

  -- likewise
  pub room_left : (old got held after : JournaledState M S D C) (new : ScheduledMachine M S D C) → held ≡ got → got.cell ≡ old.cell
      → length old.cell.journal + 1 < got.places → after ≡ record held { cell = record held.cell { scheduled = new } } → HasRoom after
  room_left old got held after new at same enough is =
      subst (λ (one : JournaledState M S D C). HasRoom one) (sym is) (room_unwritten old got held new at same enough)

  -- there is room still where the counts of ports alone changed
  pub room_counted : (held after : JournaledState M S D C) (ports : List ℕ) → after.cell ≡ record held.cell { ports = ports } → after.places ≡ held.places
      → HasRoom held → HasRoom after
  room_counted held after ports is places room runs =
      let before = room (ap (λ (cell : CellState M S D C). cell.scheduled.core.machine.ended) (sym is) ∙ runs) in
      let journal : length after.cell.journal ≡ length held.cell.journal = ap (λ (cell : CellState M S D C). length cell.journal) is in
      omega (arith, before, journal, places)

  -- so there is where the machine was served after places were got
  pub room_got : (old got after : JournaledState M S D C) → got.cell ≡ old.cell → length old.cell.journal + 1 < got.places
      → after.cell ≡ record got.cell { scheduled = after.cell.scheduled } → after.places ≡ got.places → HasRoom after
  room_got old got after same enough rest places runs =
      let journal : length after.cell.journal ≡ length old.cell.journal =
      ap (λ (cell : CellState M S D C). length cell.journal) rest ∙ ap (λ (cell : CellState M S D C). length cell.journal) same in
      omega (arith, enough, places, journal)

  -- likewise, whatever the ports are
  pub room_ports : (old held : JournaledState M S D C) (ports : List ℕ) → held ≡ old → HasRoom old → HasRoom (record held { cell = record held.cell { ports = ports } })
  room_ports old held ports same room = subst (λ (one : JournaledState M S D C). HasRoom one) (sym same) room

-- a port that is open has a place
pub place_of : (port : ℕ) (ports now : List ℕ) → length ports ≡ length now → (0 < port) × (port ≤ length now) → port - 1 < length ports
place_of port ports now same within =
    let first = within.0 in
    let last = within.1 in
    omega (arith, same, first, last)

-- and its count is far from the largest number
pub count_within : (count now : ℕ) → count ≡ now → now < 2 ^ 63 → count + 1 < 2 ^ 64
count_within count now same bounded = omega (arith, same, bounded)

-- how many ports there are after one was opened
pub one_port_more : (ports before now : List ℕ) → ports ≡ before ++ 0 ∷ [] → before ≡ now → length ports ≡ length now + 1
one_port_more ports before now is same = ap length is ∙ (length-append before (0 ∷ []) ∙ ap (λ (l : List ℕ). length l + 1) same)

-- what is so anyway is so at success too
pub on_ok_too : {T E : Type 0} (P : Type 0) (result : Result T E) → P → OnOk result P
on_ok_too P (Ok x) holds = holds
on_ok_too P (Err e) holds = tt
