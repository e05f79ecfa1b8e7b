-- A machine that started has the id and the module that it was started with.
use Rattle.std.proofs.Common.{◌≡◌, ℕ, ◌<◌, ◌^◌, Bool, true, false, nat_lt, if◌then◌else◌, Option, Some, None, Result, Ok, Err, ◌⊎◌, inl, inr, ⊎_elim, refl, sym, ap, ◌∙◌, subst}
use Rattle.st_events.specs.declared.init.Init.{Init}
use Rattle.st_events.specs.declared.init.Init.TheVariants as init
use Rattle.st_events.specs.declared.machine_id.MachineId.{MachineId}
use Rattle.st_events.specs.declared.refusal.Refusal.TheVariants.{NoMemory}
use Rattle.st_events.specs.declared.refused.Refused.{Refused}
use Rattle.st_core.specs.Callbacks.{Callbacks, Called, begun_by}
use Rattle.st_core.specs.MachineState.{Machine}
use Rattle.st_core.specs.declared.machine_state.MachineState.{MachineState}
use Rattle.st_answers.specs.declared.report.Report.{Report}
use Rattle.st_core.specs.declared.start.Start.{Start}
use Rattle.st_core.specs.declared.start.Start.TheVariants.{Running, Ignored, Stopped}
use Rattle.st_core.specs.Transition.{has_numbers}
use Rattle.st_core.specs.Start.{first_state, started_with, begun_on, started_by, start_of, start_takes_memory, start_refused, Starts}

-- it has this id and this module
pub record IsOwn {M S D C : Type 0} (module_ : M) (id : MachineId) (core : Machine M S D C) : Type 0 where
  pub of_id : core.machine.id ≡ id
  pub of_module : core.module_ ≡ module_

module _ (A : Type 0) {M S D C : Type 0} where
  -- where a machine started, it is so; and what is refused gives the module back
  abbrev StartsOwn : M → MachineId → Result (Start M S D C A) (Refused M) → Type 0
  StartsOwn module_ id (Ok (Running core report)) = IsOwn module_ id core
  StartsOwn module_ id (Ok Ignored) = Unit {0}
  StartsOwn module_ id (Ok (Stopped reason)) = Unit {0}
  StartsOwn module_ id (Err refused) = refused.value ≡ module_

  either_owns : (module_ : M) (id : MachineId) (test : Bool) (chosen other : Result (Start M S D C A) (Refused M)) → StartsOwn module_ id chosen → StartsOwn module_ id other
      → StartsOwn module_ id (if test then chosen else other)
  either_owns module_ id true chosen other first second = first
  either_owns module_ id false chosen other first second = second

  begun_owns : (callbacks : Callbacks S D C) (module_ : M) (id : MachineId) (called : Called S D C) (now first : ℕ) (reason : Option ℕ)
      → StartsOwn module_ id (begun_on {A = A} callbacks module_ (first_state id called.state called.data now first) called reason)
  begun_owns callbacks module_ id called now first None =
      either_owns module_ id (has_numbers (first_state id called.state called.data now first) called) _ _ (record { of_id = refl; of_module = refl }) refl
  begun_owns callbacks module_ id called now first (Some reason) = record { of_id = refl; of_module = refl }

  answer_owns : (callbacks : Callbacks S D C) (module_ : M) (id : MachineId) (answer : Init S D C) (now first : ℕ)
      → StartsOwn module_ id (started_by {A = A} callbacks module_ id answer now first)
  answer_owns callbacks module_ id (init.Ok state held actions) now first =
      let called = begun_by callbacks state held actions in
      begun_owns callbacks module_ id called now first called.reason
  answer_owns callbacks module_ id (init.Stop reason) now first = tt
  answer_owns callbacks module_ id init.Ignore now first = tt

  start_owns : (callbacks : Callbacks S D C) (module_ : M) (id : MachineId) (answer : Init S D C) (now first : ℕ)
      → StartsOwn module_ id (start_of {A = A} callbacks module_ id answer now first)
  start_owns callbacks module_ id answer now first =
      either_owns module_ id (nat_lt now (2 ^ 63)) _ _ (answer_owns callbacks module_ id answer now first) refl

module _ {M S D C A : Type 0} where
  -- an answer that is no refusal is the definition's
  own_start : (module_ : M) (start : Start M S D C A) (own : Result (Start M S D C A) (Refused M)) → Starts module_ (Ok start) own → own ≡ Ok start
  own_start module_ start own starts = ⊎_elim
      (λ (same : Ok start ≡ own). sym same)
      (λ (t : (start_takes_memory own ≡ true) × (Ok start ≡ start_refused module_ NoMemory)). let no : Ok start ≡ start_refused module_ NoMemory = t.1 in absurd cc)
      starts

  -- where a start at an id ran, its machine has that id and its module
  pub started_at : (callbacks : Callbacks S D C) (module_ : M) (id other : MachineId) (answer : Init S D C) (now first : ℕ) (start : Start M S D C A)
      (core : Machine M S D C) (report : Report S) → id ≡ other → start ≡ Running core report → Starts module_ (Ok start) (start_of {A = A} callbacks module_ id answer now first)
      → (start_of {A = A} callbacks module_ other answer now first ≡ Ok (Running core report)) × IsOwn module_ other core
  started_at callbacks module_ id other answer now first start core report same is starts =
      let own : start_of {A = A} callbacks module_ other answer now first ≡ Ok (Running core report) =
      ap (λ (one : MachineId). start_of {A = A} callbacks module_ one answer now first) (sym same)
      ∙ (own_start module_ start (start_of callbacks module_ id answer now first) starts ∙ ap (λ (one : Start M S D C A). Ok one) is) in
      (own, subst (λ one. StartsOwn A module_ other one) own (start_owns A callbacks module_ other answer now first))

  -- where it was refused, the module comes back
  pub refused_at : (callbacks : Callbacks S D C) (module_ : M) (id other : MachineId) (answer : Init S D C) (now first : ℕ) (refused : Refused M)
      → id ≡ other → Starts module_ (Err refused) (start_of {A = A} callbacks module_ id answer now first)
      → ((start_of {A = A} callbacks module_ other answer now first ≡ Err refused) ⊎ (refused.refusal ≡ NoMemory)) × (refused.value ≡ module_)
  refused_at callbacks module_ id other answer now first refused same starts = ⊎_elim
      (λ (is : Err refused ≡ start_of {A = A} callbacks module_ id answer now first).
      let own : start_of {A = A} callbacks module_ other answer now first ≡ Err refused =
      ap (λ (one : MachineId). start_of {A = A} callbacks module_ one answer now first) (sym same) ∙ sym is in
      (inl own, subst (λ one. StartsOwn A module_ other one) own (start_owns A callbacks module_ other answer now first)))
      (λ (t : (start_takes_memory (start_of {A = A} callbacks module_ id answer now first) ≡ true) × (Err refused ≡ start_refused {M = M} {S = S} {D = D} {C = C} {A = A} module_ NoMemory)).
      let whole : Err refused ≡ start_refused {M = M} {S = S} {D = D} {C = C} {A = A} module_ NoMemory = t.1 in
      let is : refused ≡ record { refusal = NoMemory; value = module_ } = cc in
      (inr (ap (λ (one : Refused M). one.refusal) is), ap (λ (one : Refused M). one.value) is))
      starts
