-- When a start takes memory.
use Rattle.std.proofs.Common.{◌≡◌, Bool, true, false, refl, ap, ◌∙◌, ◌⊎◌, inl, inr, if◌then◌else◌}
use Rattle.std.specs.Prelude.{ℕ, Option, Some, None, Result, Ok}
use Rattle.st_events.specs.declared.machine_id.MachineId.{MachineId}
use Rattle.st_events.specs.declared.refused.Refused.{Refused}
use Rattle.st_events.specs.declared.refusal.Refusal.{Refusal}
use Rattle.st_events.specs.declared.refusal.Refusal.TheVariants.{Exhausted, NoMemory}
use Rattle.st_actions.specs.Plan.{settings_of}
use Rattle.st_answers.specs.declared.done.Done.TheVariants.{Started}
use Rattle.st_answers.specs.declared.report.Report.{Report}
use Rattle.st_core.specs.declared.start.Start.{Start}
use Rattle.st_core.specs.declared.start.Start.TheVariants.{Running}
use Rattle.st_core.specs.declared.machine_state.MachineState.{MachineState}
use Rattle.st_core.specs.Callbacks.{Callbacks, Called}
use Rattle.st_core.specs.Start.{first_state, started_with, ended_with, begun_on, begun_as, with_begun, start_takes_memory, start_refused, start_report_of, Starts}
use Rattle.st_core.specs.Transition.{has_numbers, inserted_by, sent_by, decisions_of}

module _ (A : Type 0) {M S D C : Type 0} where
  of_both : (enough : Bool) (a b : Result (Start M S D C A) (Refused M)) → start_takes_memory a ≡ true → start_takes_memory b ≡ true
      → start_takes_memory (if enough then a else b) ≡ true
  of_both true a b h k = h
  of_both false a b h k = k

  -- what comes of the callbacks of a start takes memory
  pub started_takes_memory : (module_ : M) (machine : MachineState S D C) (called : Called S D C)
      → start_takes_memory (started_with {A = A} module_ machine called) ≡ true
  started_takes_memory module_ machine called = of_both (has_numbers machine called) _ _ refl refl

  pub begun_takes_memory : (callbacks : Callbacks S D C) (module_ : M) (machine : MachineState S D C) (called : Called S D C) (reason : Option ℕ)
      → start_takes_memory (begun_on {A = A} callbacks module_ machine called reason) ≡ true
  begun_takes_memory callbacks module_ machine called None = started_takes_memory module_ machine called
  begun_takes_memory callbacks module_ machine called (Some reason) = refl

  -- a start meets a definition that is the same
  pub starts_same : (module_ : M) (answer : Result (Start M S D C A) (Refused M)) {definition other : Result (Start M S D C A) (Refused M)}
      → other ≡ definition → Starts module_ answer definition → Starts module_ answer other
  starts_same module_ answer same starts = rw same starts

  module _ (callbacks : Callbacks S D C) (module_ : M) (id : MachineId) (called : Called S D C) (now first : ℕ) where
    -- the callbacks give no reason to stop
    pub begins : {state : S} {held : D} → called.reason ≡ None → called.state ≡ state → called.data ≡ held
        → begun_as {A = A} callbacks module_ id called now first ≡ started_with module_ (first_state id state held now first) called
    begins {state = state} none same_state same_data =
        ap (λ (reason : Option ℕ). begun_on {A = A} callbacks module_ (first_state id called.state called.data now first) called reason) none
        ∙ ap (λ (s : S). started_with {A = A} module_ (first_state id s called.data now first) called) same_state
        ∙ ap (λ (d : D). started_with {A = A} module_ (first_state id state d now first) called) same_data

    -- they give one
    pub ends : {state : S} {held : D} (reason : ℕ) → called.reason ≡ Some reason → called.state ≡ state → called.data ≡ held
        → begun_as {A = A} callbacks module_ id called now first ≡ ended_with callbacks module_ (first_state id state held now first) called reason
    ends {state = state} reason some same_state same_data =
        ap (λ (reason : Option ℕ). begun_on {A = A} callbacks module_ (first_state id called.state called.data now first) called reason) some
        ∙ ap (λ (s : S). ended_with {A = A} callbacks module_ (first_state id s called.data now first) called reason) same_state
        ∙ ap (λ (d : D). ended_with {A = A} callbacks module_ (first_state id state d now first) called reason) same_data

  module _ (module_ : M) (machine : MachineState S D C) (called : Called S D C) where
    -- too few numbers are left
    pub started_exhausted : has_numbers machine called ≡ false
        → {answer : Result (Start M S D C A) (Refused M)} → answer ≡ start_refused module_ Exhausted
        → Starts module_ answer (started_with module_ machine called)
    started_exhausted h same = rw h (inl same)

    -- the machine runs
    pub started_is : has_numbers machine called ≡ true
        → {after : MachineState S D C} {report : Report S} → after ≡ with_begun machine called.actions
        → report ≡ start_report_of Started called.calls machine.state (inserted_by machine called.actions) (decisions_of (settings_of called.actions)) (sent_by machine called.actions)
        → Starts {A = A} module_ (Ok (Running (record { module_ = module_; machine = after }) report)) (started_with module_ machine called)
    started_is h same_after same_report =
        rw (h, same_after, same_report) (inl refl)

    -- it was refused, for want of memory or of numbers
    pub started_refused : (refusal : Refusal) → ((refusal ≡ NoMemory) ⊎ ((refusal ≡ Exhausted) × (has_numbers machine called ≡ false)))
        → {answer : Result (Start M S D C A) (Refused M)} → answer ≡ start_refused module_ refusal
        → Starts module_ answer (started_with module_ machine called)
    started_refused refusal (inl memory) same = inr (started_takes_memory module_ machine called, same ∙ ap (start_refused module_) memory)
    started_refused refusal (inr numbers) same = started_exhausted numbers.1 (same ∙ ap (start_refused module_) numbers.0)
