-- Turns one after another: each that is no refusal reports, where there is an event to handle.
use Rattle.std.proofs.Common.{◌≡◌, ℕ, ◌+◌, ◌^◌, Bool, true, false, Option, Some, None, List, [], ◌∷◌, ◌++◌, length, refl, sym, ap, ◌∙◌, inl, inr}
use Rattle.std.proofs.lemmas.List.{length-append}
use Rattle.std.specs.Prelude.{Result, Ok, Err, nat_lt, is_some, is_none, ◌&&◌}
use Rattle.st_events.specs.declared.event.Event.{Event}
use Rattle.st_events.specs.declared.refusal.Refusal.{Refusal}
use Rattle.st_answers.specs.declared.answer.Answer.{Answer}
use Rattle.st_answers.specs.declared.answer.Answer.TheVariants as answer
use Rattle.st_answers.specs.declared.command.Command.{Command}
use Rattle.st_answers.specs.declared.command.Command.TheVariants as command
use Rattle.st_answers.specs.declared.report.Report.{Report}
use Rattle.st_answers.specs.declared.turned.Turned.{Turned}
use Rattle.st_answers.specs.declared.turned.Turned.TheVariants.{Reported, Idle}
use Rattle.st_core.specs.declared.turns_end.TurnsEnd.TheVariants as end
use Rattle.st_core.specs.declared.machine_state.MachineState.{MachineState}
use Rattle.st_core.specs.MachineState.{Machine}
use Rattle.st_core.specs.Callbacks.{Callbacks, called_of}
use Rattle.st_core.specs.Choice.{has_event_of, next_event_of}
use Rattle.st_core.specs.Transition.{with_moment, transition_of, unless_refused, turn_running}
use Rattle.st_core.specs.Stop.{unless_ended}
use Rattle.st_core.specs.Run.{Does, Runs, turn_takes_memory}
use Rattle.st_core.specs.UntilIdle.{HasTurned, turns_at, answers_with}
use Rattle.st_core.proofs.RunLemmas.{run_more}
use Rattle.st_core.proofs.TransitionLemmas.{concluded_takes_memory}

module _ {S D C : Type 0} (callbacks : Callbacks S D C) where
  -- what takes memory is no idle turn
  no_idle : (result : Result (Turned S) Refusal) → turn_takes_memory result ≡ true → result ≡ Ok Idle → ⊥
  no_idle (Ok (Reported report)) takes idle = cc
  no_idle (Ok Idle) takes idle = cc
  no_idle (Err refusal) takes idle = cc

  -- with an event there is a report or a refusal
  event_reports : (old machine : MachineState S D C) (next : Option (Event C)) → is_some next ≡ true
      → (unless_refused old (transition_of callbacks machine next)).0 ≡ Ok Idle → ⊥
  event_reports old machine None some idle = cc
  event_reports old machine (Some event) some idle =
      let called = called_of callbacks machine event in
      no_idle _ (concluded_takes_memory callbacks machine event.number called called.reason) idle

  early_reports : (early : Bool) (machine : MachineState S D C) (now : ℕ) → nat_lt now (2 ^ 63) ≡ early → is_some (next_event_of machine) ≡ true
      → (turn_running callbacks machine now).0 ≡ Ok Idle → ⊥
  early_reports true machine now e some idle = event_reports machine (with_moment machine now) (next_event_of machine) some (rw e at idle)
  early_reports false machine now e some idle = let late = rw e at idle in cc

  ready_by : (ended : Option (ℕ × ℕ)) (machine : MachineState S D C) (now : ℕ) → (is_none ended && is_some (next_event_of machine)) ≡ true
      → (unless_ended ended (λ refusal. Err refusal) machine (turn_running callbacks machine now)).0 ≡ Ok Idle → ⊥
  ready_by None machine now ready idle = early_reports (nat_lt now (2 ^ 63)) machine now refl ready idle
  ready_by (Some end) machine now ready idle = cc

turn_injective : {S C : Type 0} {one other : Result (Turned S) Refusal} → ◌≡◌ {A = Answer S C} (answer.Turn one) (answer.Turn other) → one ≡ other
turn_injective h = cc

module _ {M S D C : Type 0} (callbacks : M → Callbacks S D C) where
  -- a turn of a machine that is ready, and that is not refused, reports
  pub ready_reports : (old new : Machine M S D C) (now : ℕ) (turned : Turned S) → has_event_of old.machine ≡ true
      → Does callbacks old (command.Turn now) (answer.Turn (Ok turned)) new → (report : Report S) × (turned ≡ Reported report)
  ready_reports old new now (Reported report) ready does = (report, refl)
  ready_reports old new now Idle ready (inl (same, after)) =
      absurd (ready_by (callbacks old.module_) old.machine.ended old.machine now ready (sym (turn_injective {S = S} {C = C} same)))
  ready_reports old new now Idle ready (inr (takes, same, stays)) = cc

  -- turns that were made so far, and the reports of each
  pub record TurnedSoFar (now : ℕ) (old : Machine M S D C) (reported : ℕ) (new : Machine M S D C) : Type 0 where
    pub reports : List (Report S)
    pub count : length reports ≡ reported
    pub runs : Runs callbacks old (turns_at now reports) (answers_with reports) new

  turns_more : (now : ℕ) (reports : List (Report S)) (report : Report S)
      → turns_at {S = S} {C = C} now (reports ++ report ∷ []) ≡ turns_at now reports ++ command.Turn now ∷ []
  turns_more now [] report = refl
  turns_more now (one ∷ reports) report = ap (λ (commands : List (Command C)). command.Turn now ∷ commands) (turns_more now reports report)

  answers_more : (reports : List (Report S)) (report : Report S)
      → answers_with {S = S} {C = C} (reports ++ report ∷ []) ≡ answers_with reports ++ answer.Turn (Ok (Reported report)) ∷ []
  answers_more [] report = refl
  answers_more (one ∷ reports) report = ap (λ (answers : List (Answer S C)). answer.Turn (Ok (Reported one)) ∷ answers) (answers_more reports report)

  -- one more turn was made
  pub one_turn_more : (now : ℕ) (old mid new : Machine M S D C) (reported : ℕ) (turned : Turned S) → TurnedSoFar now old reported mid
      → has_event_of mid.machine ≡ true → Does callbacks mid (command.Turn now) (answer.Turn (Ok turned)) new → TurnedSoFar now old (reported + 1) new
  one_turn_more now old mid new reported turned so_far ready does =
      let (report, same) = ready_reports mid new now turned ready does in
      record {
        reports = so_far.reports ++ report ∷ [];
        count = length-append so_far.reports (report ∷ []) ∙ ap (λ count. count + 1) so_far.count;
        runs = rw (turns_more now so_far.reports report, answers_more so_far.reports report)
            (run_more callbacks old (turns_at now so_far.reports) (answers_with so_far.reports) mid (command.Turn now) (answer.Turn (Ok (Reported report))) new
            so_far.runs (rw same at does));
      }

  -- the last turn was refused
  pub refused_turn : (now : ℕ) (old mid new : Machine M S D C) (reported : ℕ) (refusal : Refusal) → TurnedSoFar now old reported mid
      → Does callbacks mid (command.Turn now) (answer.Turn (Err refusal)) new
      → HasTurned callbacks now old (record { reported = reported; end = end.Refused refusal }) new
  refused_turn now old mid new reported refusal so_far does = record {
    reports = so_far.reports;
    count = so_far.count;
    runs = run_more callbacks old (turns_at now so_far.reports) (answers_with so_far.reports) mid (command.Turn now) (answer.Turn (Err refusal)) new so_far.runs does;
  }
