-- What a start at a vacancy comes to, and that each machine stays under its own id.
use Rattle.std.proofs.Common.{◌≡◌, Result, Ok, Err, IfOk, IfErr, OnErr, All, inl, inr, sym, ap, ◌∙◌, subst}
use Rattle.std.specs.Arc.{arc_value}
use Rattle.st_events.specs.declared.machine_id.MachineId.{MachineId}
use Rattle.st_events.specs.declared.refusal.Refusal.TheVariants.{NoMemory}
use Rattle.st_events.specs.declared.refused.Refused.{Refused}
use Rattle.st_answers.specs.declared.report.Report.{Report}
use Rattle.st_core.specs.declared.start.Start.{Start}
use Rattle.st_core.specs.declared.start.Start.TheVariants as start
use Rattle.st_core.specs.MachineState as machine_state
use Rattle.st_directory.specs.DirectoryState.{DirectoryView, VacancyState}
use Rattle.st_directory.proofs.ValueLemmas.{All-with_value}
use Rattle.st_lock.specs.Machines.{id_of}
use Rattle.st_registry.specs.declared.started.Started.{Started}
use Rattle.st_registry.specs.declared.started.Started.TheVariants.{Running, Ignored, Stopped}
use Rattle.st_registry.specs.Registry.{RegistryState, Shared, HasIds, KeepsAs, StartsAs}

module _ {M S D C A : Type 0} where
  -- a machine that started is kept, or its module comes back
  pub kept_starts : (module_ : M) (own : Result (Start M S D C A) (Refused M)) (vacancy : VacancyState) (old new : DirectoryView (Shared M S D C A))
      (core : machine_state.Machine M S D C) (report : Report S) (result : Result Started (Refused M)) → own ≡ Ok (start.Running core report) → core.module_ ≡ module_
      → IfOk result (λ started. KeepsAs core vacancy old.state started new.state) → IfErr result (λ refused. refused ≡ record { refusal = NoMemory; value = core.module_ })
      → OnErr result (new ≡ old) → StartsAs module_ own vacancy old.state result new.state
  kept_starts module_ own vacancy old new core report (Ok (Running id wake)) is same keeps refusals unchanged = (core, report, is, keeps)
  kept_starts module_ own vacancy old new core report (Ok Ignored) is same keeps refusals unchanged = absurd keeps
  kept_starts module_ own vacancy old new core report (Ok (Stopped reason)) is same keeps refusals unchanged = absurd keeps
  kept_starts module_ own vacancy old new core report (Err refused) is same keeps refusals unchanged =
      (inr (ap (λ (one : Refused M). one.refusal) refusals), ap (λ (one : Refused M). one.value) refusals ∙ same, ap (λ (view : DirectoryView (Shared M S D C A)). view.state) unchanged)

  -- each machine is there under its own id after a start
  pub starts_own : (module_ : M) (own : Result (Start M S D C A) (Refused M)) (vacancy : VacancyState) (old : RegistryState M S D C A) (result : Result Started (Refused M))
      (new : RegistryState M S D C A) → StartsAs module_ own vacancy old result new → HasIds old → HasIds new
  starts_own module_ own vacancy old (Ok (Running id wake)) new starts ids =
      let keeps = starts.3 in
      subst (λ (state : RegistryState M S D C A). HasIds state) (sym keeps.kept)
      (All-with_value (λ (entry : MachineId × Shared M S D C A). id_of (arc_value entry.1) ≡ entry.0) vacancy.id keeps.machine old.values (keeps.identified ∙ keeps.under) ids)
  starts_own module_ own vacancy old (Ok Ignored) new starts ids = subst (λ (state : RegistryState M S D C A). HasIds state) (sym starts.1) ids
  starts_own module_ own vacancy old (Ok (Stopped reason)) new starts ids = subst (λ (state : RegistryState M S D C A). HasIds state) (sym starts.1) ids
  starts_own module_ own vacancy old (Err refused) new starts ids = subst (λ (state : RegistryState M S D C A). HasIds state) (sym starts.2) ids
