-- A turn of the next event reports.
--     reports        a turn that is made of a machine with a next event reports
--     never_idle     and is no idle one
use Rattle.std.proofs.Common.{◌≡◌, ℕ, Bool, true, false, ◌&&◌, Option, Some, None, Result, Ok, Err, is_some, refl, sym, ◌∙◌, inl, inr}
use Rattle.std.specs.Prelude.{is_none}
use Rattle.std.specs.Option.{option_map}
use Rattle.st_events.specs.declared.event.Event.{Event}
use Rattle.st_events.specs.declared.refusal.Refusal.{Refusal}
use Rattle.st_answers.specs.declared.answer.Answer.{Answer}
use Rattle.st_answers.specs.declared.answer.Answer.TheVariants as answer
use Rattle.st_answers.specs.declared.command.Command.TheVariants as command
use Rattle.st_answers.specs.declared.report.Report.{Report}
use Rattle.st_answers.specs.declared.turned.Turned.{Turned}
use Rattle.st_answers.specs.declared.turned.Turned.TheVariants.{Reported, Idle}
use Rattle.st_core.specs.declared.machine_state.MachineState.{MachineState}
use Rattle.st_core.specs.MachineState.{Machine}
use Rattle.st_core.specs.Callbacks.{Callbacks}
use Rattle.st_core.specs.Choice.{next_event_of}
use Rattle.st_core.specs.Run.{Does}
use Rattle.st_core.specs.Stop.{unless_ended}
use Rattle.st_core.specs.Transition.{turn_running}
use Rattle.st_core.proofs.UntilIdleLemmas.{ready_reports}
use Rattle.st_hosted.specs.Turning.{IsNext}

both : (one other : Bool) → one ≡ true → other ≡ true → (one && other) ≡ true
both true true p q = refl
both true false p q = cc
both false other p q = cc

some_by : {C : Type 0} (next : Option (Event C)) (number : ℕ) → option_map (λ (event : Event C). event.number) next ≡ Some number → is_some next ≡ true
some_by None number h = cc
some_by (Some event) number h = refl

module _ {S D C : Type 0} where
  runs_by : (callbacks : Callbacks S D C) (ended : Option (ℕ × ℕ)) (machine : MachineState S D C) (now : ℕ) (turned : Turned S)
      → (unless_ended ended (λ refusal. Err refusal) machine (turn_running callbacks machine now)).0 ≡ Ok turned → is_none ended ≡ true
  runs_by callbacks None machine now turned h = refl
  runs_by callbacks (Some end) machine now turned h = cc

turned_injective : {S C : Type 0} {one other : Result (Turned S) Refusal} → ◌≡◌ {A = Answer S C} (answer.Turn one) (answer.Turn other) → one ≡ other
turned_injective h = cc

unlike : {S : Type 0} (report : Report S) → ◌≡◌ {A = Turned S} Idle (Reported report) → ⊥
unlike report h = cc

module _ {M S D C : Type 0} (callbacks : M → Callbacks S D C) where
  pub reports : (old new : Machine M S D C) (now number : ℕ) (turned : Turned S) → IsNext old.machine number
      → Does callbacks old (command.Turn now) (answer.Turn (Ok turned)) new → (report : Report S) × (turned ≡ Reported report)
  reports old new now number turned next (inl (same, after)) =
      ready_reports callbacks old new now turned
      (both (is_none old.machine.ended) (is_some (next_event_of old.machine))
      (runs_by (callbacks old.module_) old.machine.ended old.machine now turned (sym (turned_injective {S = S} {C = C} same)))
      (some_by (next_event_of old.machine) number next))
      (inl (same, after))
  reports old new now number turned next (inr (takes, same, stays)) = cc

  pub never_idle : (old new : Machine M S D C) (now number : ℕ) (turned : Turned S) → turned ≡ Idle → IsNext old.machine number
      → Does callbacks old (command.Turn now) (answer.Turn (Ok turned)) new → ⊥
  never_idle old new now number turned idle next does = let reported = reports old new now number turned next does in unlike reported.0 (sym idle ∙ reported.1)
