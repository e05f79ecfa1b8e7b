-- What a call of a cell of either form leaves, by what it leaves of the form at hand.
use Rattle.std.proofs.Common.{◌≡◌, ℕ, ◌≤◌, ◌<◌, ◌^◌, Bool, true, false, length, arith, refl, sym, ap, subst, ◌∙◌, Box, Global}
use Rattle.std.specs.Box.{with_value}
use Rattle.std.specs.Prelude.{Result, Ok, Err, OnErr, IfErr}
use Rattle.st_events.specs.declared.refused.Refused.{Refused}
use Rattle.st_events.specs.declared.token.Token.{Token}
use Rattle.st_core.specs.Callbacks.{Callbacks}
use Rattle.st_scheduled.specs.declared.next.Next.{Next}
use Rattle.st_cell.specs.Calls.{Turns}
use Rattle.st_cell.specs.Cell.{CellState, IsJournaled, IsOpen, count_for}
use Rattle.st_cell.proofs.CallLemmas.{turns_returned}
use Rattle.st_cell.proofs.CellLemmas.{cut_kept, turns_refused}
use Rattle.st_any_cell.specs.declared.any_cell.AnyCell.TheInside.{Inside}
use Rattle.st_any_cell.specs.declared.bare.Bare.{Bare}
use Rattle.st_any_cell.specs.declared.form.Form.{Form}
use Rattle.st_any_cell.specs.declared.form.Form.TheVariants.{Journaled, Unjournaled}
use Rattle.st_any_cell.specs.AnyCell.{AnyCellState, bare_cell, kept_as, state_of, IsAnyCell, IsCutBehind, Leaves}

module _ {M S D C A : Type 0} where
  -- ---- what is known of a cell is known of the form at hand
  pub in_journaled : (P : CellState M S D C → Type 0) (form : Form M S D C A) (box : Box (CellState M S D C) Global) (old : CellState M S D C) (any : AnyCellState M S D C)
      → form ≡ Journaled box → old ≡ box.value → state_of form ≡ any → P any.cell → P old
  in_journaled P form box old any is value seen known =
      subst P (sym value) (subst (λ (one : Form M S D C A). P (state_of one).cell) is (subst (λ (state : AnyCellState M S D C). P state.cell) (sym seen) known))

  pub in_unjournaled : (P : CellState M S D C → Type 0) (form : Form M S D C A) (old : Bare M S D C A) (any : AnyCellState M S D C)
      → form ≡ Unjournaled old → state_of form ≡ any → P any.cell → P (bare_cell old)
  in_unjournaled P form old any is seen known =
      subst (λ (one : Form M S D C A). P (state_of one).cell) is (subst (λ (state : AnyCellState M S D C). P state.cell) (sym seen) known)

  -- and what is known of the form at hand, of the cell
  pub of_journaled : (P : CellState M S D C → Type 0) (form : Form M S D C A) (box : Box (CellState M S D C) Global) (old : CellState M S D C) (any : AnyCellState M S D C)
      → form ≡ Journaled box → old ≡ box.value → state_of form ≡ any → P old → P any.cell
  of_journaled P form box old any is value seen known =
      subst (λ (state : AnyCellState M S D C). P state.cell) seen (subst (λ (one : Form M S D C A). P (state_of one).cell) (sym is) (subst P value known))

  pub of_unjournaled : (P : CellState M S D C → Type 0) (form : Form M S D C A) (old : Bare M S D C A) (any : AnyCellState M S D C)
      → form ≡ Unjournaled old → state_of form ≡ any → P (bare_cell old) → P any.cell
  of_unjournaled P form old any is seen known =
      subst (λ (state : AnyCellState M S D C). P state.cell) seen (subst (λ (one : Form M S D C A). P (state_of one).cell) (sym is) known)

  -- ---- calls
  -- of a cell that keeps its journal
  pub journaled_called : {R : Type 0} (does : CellState M S D C → R → CellState M S D C → Type 0) (form : Form M S D C A) (inside : Inside M S D C A)
      (box : Box (CellState M S D C) Global) (old new : CellState M S D C) (said result : R)
      → form ≡ Journaled box → old ≡ box.value → inside ≡ record { form = Journaled (with_value box new) } → result ≡ said
      → does old said new → Leaves (state_of form) (does (state_of form).cell result) (state_of inside.form)
  journaled_called does form inside box old new said result is value after same done =
      rw (after, is, same) (new, rw (← value) done, refl)

  -- of one that keeps none
  pub unjournaled_called : {R : Type 0} (does : CellState M S D C → R → CellState M S D C → Type 0) (form : Form M S D C A) (inside : Inside M S D C A)
      (old new : Bare M S D C A) (said result : R)
      → form ≡ Unjournaled old → inside ≡ record { form = Unjournaled new } → result ≡ said
      → IsCutBehind (does (bare_cell old) said) (bare_cell new) → Leaves (state_of form) (does (state_of form).cell result) (state_of inside.form)
  unjournaled_called does form inside old new said result is after same went =
      rw (after, is, same) (went.0, went.1, ap (λ (cell : CellState M S D C). record { cell = cell; keeps = false }) went.2)

module _ {M S D C : Type 0} where
  -- ---- ports
  kept_ports : (keeps : Bool) (after : CellState M S D C) → (kept_as keeps after).ports ≡ after.ports
  kept_ports true after = refl
  kept_ports false after = refl

  -- the open ports stay open behind a call
  pub any_open : (does : CellState M S D C → Type 0) (old new : AnyCellState M S D C) → ((after : CellState M S D C) → does after → length after.ports ≡ length old.cell.ports)
      → Leaves old does new → length new.cell.ports ≡ length old.cell.ports
  any_open does old new stays went =
      ap (λ (state : AnyCellState M S D C). length state.cell.ports) went.2 ∙ (ap length (kept_ports old.keeps went.0) ∙ stays went.0 went.1)

module _ {M S D C : Type 0} (callbacks : M → Callbacks S D C) where
  -- a port has posted no more events than there were commands
  pub far_below : (port : ℕ) (cell : CellState M S D C) → IsJournaled callbacks cell → IsOpen port cell → count_for port cell < 2 ^ 63
  far_below port cell is within =
      let bounded : count_for port cell ≤ cell.scheduled.count = is.counted.bounded port within in
      let limited : cell.scheduled.count < 2 ^ 63 = is.limited in
      omega (arith, bounded, limited)

  -- ---- it stays a cell
  left_kept : (keeps : Bool) (after : CellState M S D C) → IsJournaled callbacks after
      → IsAnyCell callbacks (record { cell = kept_as keeps after; keeps = keeps })
  left_kept true after is = record { journaled = is; kept = refl }
  left_kept false after is = record { journaled = cut_kept callbacks after is; kept = refl }

  -- behind a call
  pub any_kept : (does : CellState M S D C → Type 0) (old new : AnyCellState M S D C) → ((after : CellState M S D C) → does after → IsJournaled callbacks after)
      → Leaves old does new → IsAnyCell callbacks new
  any_kept does old new kept went =
      subst (λ (state : AnyCellState M S D C). IsAnyCell callbacks state) (sym went.2) (left_kept old.keeps went.0 (kept went.0 went.1))

  -- ---- a call that is refused
  pub any_unchanged : {T E : Type 0} (does : CellState M S D C → Type 0) (old new : AnyCellState M S D C) (result : Result T E)
      → ((after : CellState M S D C) → does after → OnErr result (after ≡ old.cell)) → IsAnyCell callbacks old → Leaves old does new → OnErr result (new ≡ old)
  any_unchanged does old new (Ok value) same is went = tt
  any_unchanged does old new (Err value) same is went =
      went.2 ∙ (ap (λ (cell : CellState M S D C). record old { cell = kept_as old.keeps cell }) (same went.0 went.1) ∙ ap (λ (cell : CellState M S D C). record old { cell = cell }) is.kept)

  -- ---- a turn that is refused
  turns_still : (cell : CellState M S D C) (token : Token) (now : ℕ) (result : Result Next (Refused Token)) (after : CellState M S D C)
      → Turns callbacks cell token now result after → OnErr result (after ≡ cell)
  turns_still cell token now (Ok next) after does = tt
  turns_still cell token now (Err refused) after does = turns_refused callbacks cell after token now (Err refused) does

  pub turn_unchanged : (old new : AnyCellState M S D C) (token : Token) (now : ℕ) (result : Result Next (Refused Token)) → IsAnyCell callbacks old
      → Leaves old (Turns callbacks old.cell token now result) new → OnErr result (new ≡ old)
  turn_unchanged old new token now result is went =
      any_unchanged (Turns callbacks old.cell token now result) old new result (turns_still old.cell token now result) is went

  pub turn_returned : (old new : AnyCellState M S D C) (token : Token) (now : ℕ) (result : Result Next (Refused Token))
      → Leaves old (Turns callbacks old.cell token now result) new → IfErr result (λ refused. refused.value ≡ token)
  turn_returned old new token now result went = turns_returned callbacks old.cell went.0 token now result went.1

module _ {M S D C A : Type 0} (callbacks : M → Callbacks S D C) where
  -- of either form
  pub journaled_kept : (inside : Inside M S D C A) (box : Box (CellState M S D C) Global) (new : CellState M S D C)
      → inside ≡ record { form = Journaled (with_value box new) } → IsJournaled callbacks new → IsAnyCell callbacks (state_of inside.form)
  journaled_kept inside box new after is = rw after (record { journaled = is; kept = refl })

  pub unjournaled_kept : (inside : Inside M S D C A) (new : Bare M S D C A)
      → inside ≡ record { form = Unjournaled new } → IsJournaled callbacks (bare_cell new) → IsAnyCell callbacks (state_of inside.form)
  unjournaled_kept inside new after is = rw after (record { journaled = is; kept = refl })

  -- and it was one
  pub was_journaled : (form : Form M S D C A) (box : Box (CellState M S D C) Global) (old : CellState M S D C)
      → form ≡ Journaled box → old ≡ box.value → IsAnyCell callbacks (state_of form) → IsJournaled callbacks old
  was_journaled form box old is value any =
      rw value (subst (λ (one : Form M S D C A). IsJournaled callbacks (state_of one).cell) is any.journaled)

  pub was_unjournaled : (form : Form M S D C A) (old : Bare M S D C A)
      → form ≡ Unjournaled old → IsAnyCell callbacks (state_of form) → IsJournaled callbacks (bare_cell old)
  was_unjournaled form old is any = subst (λ (one : Form M S D C A). IsJournaled callbacks (state_of one).cell) is any.journaled
