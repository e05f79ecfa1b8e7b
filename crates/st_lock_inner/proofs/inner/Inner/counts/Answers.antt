use Rattle.std.proofs.Common.{◌≡◌, ℕ, ◌<◌, ◌^◌, true, false, eqb-true, ap, sym, ◌∙◌, subst}
use Rattle.st_cell.specs.Cell.{IsOpen, count_for}
use Rattle.st_lock_inner.specs.Inner.{InnerState}
use Rattle.st_lock_inner.proofs.InnerLemmas.{ids_same}
use Rattle.st_lock_inner.proofs.inner.Inner.counts.Goals.{then-eq, else-eq}
use Rattle.st_lock_inner.proofs.inner.Inner.counts.Goals as goal

-- the port is open in the cell
pub count_for-requires : goal.count_for-requires
count_for-requires g c = elim c.if-eq.branch [
  | then-eq w ↦ w.is_open.ensures.0 (sym w.value-is ∙ c.if-is_open.true)
  | else-eq w ↦ let no : false ≡ true = sym w.if-eq.false ∙ (sym w.value-is ∙ c.if-is_open.true) in absurd cc
]

-- the ids are the same, and so are the counts
pub returns-then-is_open-clause-own : goal.returns-then-is_open-clause-own
returns-then-is_open-clause-own g c = λ found. elim c.if-eq.branch [
  | then-eq w ↦ sym c.id.ensures ∙ ids_same c.id.result c.args.id (sym c.eq.ensures ∙ w.if-eq.true)
  | else-eq w ↦ let no : false ≡ true = sym w.if-eq.false ∙ (sym w.value-is ∙ c.if-is_open.true) in absurd cc
]

pub returns-then-is_open-clause-open : goal.returns-then-is_open-clause-open
returns-then-is_open-clause-open g c = λ found. elim c.if-eq.branch [
  | then-eq w ↦ subst (λ (inner : InnerState _ _ _ _). IsOpen c.args.port inner.cell) c.self.view_is (w.is_open.ensures.0 (sym w.value-is ∙ c.if-is_open.true))
  | else-eq w ↦ let no : false ≡ true = sym w.if-eq.false ∙ (sym w.value-is ∙ c.if-is_open.true) in absurd cc
]

pub returns-then-is_open-clause-count : goal.returns-then-is_open-clause-count
returns-then-is_open-clause-count g c = λ found.
    sym (eqb-true c.count_for.result c.args.count found)
    ∙ (c.count_for.ensures ∙ ap (λ (inner : InnerState _ _ _ _). count_for c.args.port inner.cell) c.self.view_is)

pub returns-then-is_open-clause-limited : goal.returns-then-is_open-clause-limited
returns-then-is_open-clause-limited g c = λ found. elim c.if-eq.branch [
  | then-eq w ↦ subst (λ (n : ℕ). n < 2 ^ 63) (sym c.count_for.ensures ∙ eqb-true c.count_for.result c.args.count found)
      (c.any_cell_is_journaled.ensures.limited c.args.port (w.is_open.ensures.0 (sym w.value-is ∙ c.if-is_open.true)))
  | else-eq w ↦ let no : false ≡ true = sym w.if-eq.false ∙ (sym w.value-is ∙ c.if-is_open.true) in absurd cc
]

-- or it says no
pub returns-else-is_open-clause-own : goal.returns-else-is_open-clause-own
returns-else-is_open-clause-own g c = λ found. let no : false ≡ true = sym c.if-is_open.false ∙ found in absurd cc

pub returns-else-is_open-clause-open : goal.returns-else-is_open-clause-open
returns-else-is_open-clause-open g c = λ found. let no : false ≡ true = sym c.if-is_open.false ∙ found in absurd cc

pub returns-else-is_open-clause-count : goal.returns-else-is_open-clause-count
returns-else-is_open-clause-count g c = λ found. let no : false ≡ true = sym c.if-is_open.false ∙ found in absurd cc

pub returns-else-is_open-clause-limited : goal.returns-else-is_open-clause-limited
returns-else-is_open-clause-limited g c = λ found. let no : false ≡ true = sym c.if-is_open.false ∙ found in absurd cc
