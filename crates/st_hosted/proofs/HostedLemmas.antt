-- A run with a host's answers leaves machines lawful, and is accounted for.
use Rattle.std.proofs.Common.{◌≡◌, ℕ, ◌+◌, min, None, List, [], ◌∷◌, refl, sym, ◌∙◌, arith}
use Rattle.st_agenda.specs.Lawful.{times}
use Rattle.st_agenda.proofs.LawfulSetting.{times-append}
use Rattle.st_answers.specs.declared.answer.Answer.{Answer}
use Rattle.st_answers.specs.declared.command.Command.{Command}
use Rattle.st_core.specs.declared.machine_state.MachineState.{MachineState}
use Rattle.st_core.specs.Callbacks.{Callbacks}
use Rattle.st_core.specs.Lawful.{IsLawful}
use Rattle.st_core.specs.Accounting.{waiting_in, accepted_by, finished_by, accepted_in, finished_in, IsAccounted}
use Rattle.st_core.proofs.LawfulLemmas.{does_lawful}
use Rattle.st_core.proofs.AccountingLemmas.{IsGone, waiting_once, marked_behind, counted_on, does_runs, does_accounts}
use Rattle.st_hosted.specs.HostedRuns.{told, HostedRuns}

module _ {M S D C : Type 0} (callbacks : M → Callbacks S D C) where
  pub hosted_lawful : (old : MachineState S D C) (steps : List (M × Command C)) (answers : List (Answer S C)) (new : MachineState S D C)
      → HostedRuns callbacks old steps answers new → IsLawful old → IsLawful new
  hosted_lawful old [] [] new ran law = rw ran law
  hosted_lawful old [] (a ∷ answers) new ran law = absurd ran
  hosted_lawful old (s ∷ steps) [] new ran law = absurd ran
  hosted_lawful old (s ∷ steps) (a ∷ answers) new ran law =
      hosted_lawful ran.0 steps answers new ran.2 (does_lawful callbacks (told s.0 old) (told s.0 ran.0) s.1 a ran.1 law)

  -- where the machine runs in the end, it ran all the time
  ran_before : (old : MachineState S D C) (steps : List (M × Command C)) (answers : List (Answer S C)) (new : MachineState S D C)
      → HostedRuns callbacks old steps answers new → new.ended ≡ None → old.ended ≡ None
  ran_before old [] [] new ran still = rw (← ran) still
  ran_before old [] (a ∷ answers) new ran still = absurd ran
  ran_before old (s ∷ steps) [] new ran still = absurd ran
  ran_before old (s ∷ steps) (a ∷ answers) new ran still =
      does_runs callbacks (told s.0 old) (told s.0 ran.0) s.1 a ran.1 (ran_before ran.0 steps answers new ran.2 still)

  -- what is gone is not accepted again
  never_again : (old : MachineState S D C) (steps : List (M × Command C)) (answers : List (Answer S C)) (new : MachineState S D C)
      → IsLawful old → HostedRuns callbacks old steps answers new → new.ended ≡ None → (n : ℕ) → IsGone n old.schedule
      → times n (accepted_in answers) ≡ 0
  never_again old [] [] new law ran still n is_gone = refl
  never_again old [] (a ∷ answers) new law ran still n is_gone = absurd ran
  never_again old (s ∷ steps) [] new law ran still n is_gone = absurd ran
  never_again old (s ∷ steps) (a ∷ answers) new law ran still n is_gone =
      let one = does_accounts callbacks (told s.0 old) (told s.0 ran.0) s.1 a law ran.1 (ran_before ran.0 steps answers new ran.2 still) in
      let others = never_again ran.0 steps answers new (does_lawful callbacks (told s.0 old) (told s.0 ran.0) s.1 a ran.1 law) ran.2 still n (one.stays_gone n is_gone) in
      omega (arith, times-append n (accepted_by a) (accepted_in answers), one.not_again n is_gone, others)

  accounted_times : (old : MachineState S D C) (steps : List (M × Command C)) (answers : List (Answer S C)) (new : MachineState S D C)
      → IsLawful old → HostedRuns callbacks old steps answers new → new.ended ≡ None → (n : ℕ)
      → times n (waiting_in new) + times n (finished_in answers) ≡ min 1 (times n (waiting_in old) + times n (accepted_in answers))
  accounted_times old [] [] new law ran still n =
      rw ran (omega (arith, waiting_once old.latest old.schedule n law.scheduled))
  accounted_times old [] (a ∷ answers) new law ran still n = absurd ran
  accounted_times old (s ∷ steps) [] new law ran still n = absurd ran
  accounted_times old (s ∷ steps) (a ∷ answers) new law ran still n =
      let one = does_accounts callbacks (told s.0 old) (told s.0 ran.0) s.1 a law ran.1 (ran_before ran.0 steps answers new ran.2 still) in
      let law_next = does_lawful callbacks (told s.0 old) (told s.0 ran.0) s.1 a ran.1 law in
      rw (times-append n (finished_by a) (finished_in answers), times-append n (accepted_by a) (accepted_in answers))
      (counted_on (times n (waiting_in new)) (times n (waiting_in ran.0)) (times n (waiting_in old)) (times n (accepted_by a)) (times n (accepted_in answers))
      (times n (finished_by a)) (times n (finished_in answers)) (one.moved n)
      (accounted_times ran.0 steps answers new law_next ran.2 still n)
      (λ finished. never_again ran.0 steps answers new law_next ran.2 still n (one.leaves n finished)))

  pub hosted_accounted : (old : MachineState S D C) (steps : List (M × Command C)) (answers : List (Answer S C)) (new : MachineState S D C)
      → IsLawful old → HostedRuns callbacks old steps answers new → new.ended ≡ None → IsAccounted old answers new
  hosted_accounted old steps answers new law ran still number =
      accounted_times old steps answers new law ran still number ∙ sym (marked_behind number (waiting_in old) (accepted_in answers))
