-- Whether a journal is too long.
use Rattle.std.proofs.Common.{◌≡◌, ℕ, ◌<◌, ◌≤◌, Bool, true, false, length, nat_lt, ap, sym, ◌∙◌, arith}
use Rattle.std.specs.Prelude.{◌&&◌, nat_le}
use Rattle.st_core.specs.Choice.{waiting_of}
use Rattle.st_cell.specs.Cell.{CellState}
use Rattle.st_lock_inner.specs.Inner.{is_long}

module _ {M S D C : Type 0} where
  -- where there are more entries than the limit, what waits decides
  pub long_enough : (cell : CellState M S D C) (limit waiting entries : ℕ) → entries ≡ length cell.journal → waiting ≡ waiting_of cell.scheduled.core.machine
      → limit < entries → nat_le waiting entries ≡ is_long limit cell
  long_enough cell limit waiting entries counted waits beyond =
      let more : nat_lt limit entries ≡ true = grind (arith, beyond) in
      sym (ap (λ (b : Bool). b && nat_le waiting entries) more)
      ∙ (ap (λ (n : ℕ). nat_lt limit n && nat_le waiting n) counted
      ∙ ap (λ (n : ℕ). nat_lt limit (length cell.journal) && nat_le n (length cell.journal)) waits)

  -- and else it is not
  pub short_enough : (cell : CellState M S D C) (limit entries : ℕ) → entries ≡ length cell.journal → entries ≤ limit → nat_lt limit entries ≡ is_long limit cell
  short_enough cell limit entries counted within =
      let less : nat_lt limit entries ≡ false = grind (arith, within) in
      less ∙ sym (ap (λ (b : Bool). b && nat_le (waiting_of cell.scheduled.core.machine) (length cell.journal)) (ap (λ (n : ℕ). nat_lt limit n) (sym counted) ∙ less))
