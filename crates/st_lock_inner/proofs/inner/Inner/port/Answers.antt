use Rattle.std.proofs.Common.{◌≡◌, ℕ, ◌+◌, ◌++◌, ◌∷◌, [], length, refl, ap, sym, ◌∙◌}
use Rattle.st_cell.specs.Calls.{opened}
use Rattle.st_lock_inner.specs.Inner.{InnerState}
use Rattle.st_lock_inner.proofs.InnerLemmas.{inner_again, inner_opened, same_inner}
use Rattle.st_lock_inner.proofs.inner.Inner.port.Goals as goal

-- the next port has posted nothing, and the machine's endpoint of it has seen nothing
pub invariant_of-self-in-Ok : goal.invariant_of-self-in-Ok
invariant_of-self-in-Ok g c =
    let items : c.push_reserved.new.self.items ≡ c.self.inside.ends.items ++ c.args.end ∷ [] = c.push_reserved.ensures.items ∙ ap (λ ends. ends ++ c.args.end ∷ []) c.reserve.ensures.items in
    rw (c.in-Ok.ensures.opened, items) (inner_opened c.self.inside.cell.cell c.self.inside.ends.items c.args.end c.requires c.any_cell_is_journaled.ensures.others c.self.invariant)

-- the endpoints and the cell are those that were, with one more
pub returns-in-Ok-clause-opened : goal.returns-in-Ok-clause-opened
returns-in-Ok-clause-opened g c =
    c.push_reserved.ensures.items ∙ ap (λ ends. ends ++ c.args.end ∷ []) (c.reserve.ensures.items ∙ ap (λ (inner : InnerState _ _ _ _). inner.ends) c.self.view_is)

pub returns-in-Ok-clause-number : goal.returns-in-Ok-clause-number
returns-in-Ok-clause-number g c =
    c.in-Ok.ensures.number ∙ ap (λ (n : ℕ). n + 1) (sym c.self.invariant.lengths ∙ ap (λ (inner : InnerState _ _ _ _). length inner.ends) c.self.view_is)

pub returns-in-Ok-clause-cell : goal.returns-in-Ok-clause-cell
returns-in-Ok-clause-cell g c = ap (λ state. state.cell) c.in-Ok.ensures.opened ∙ ap (λ (inner : InnerState _ _ _ _). (opened inner.cell).1) c.self.view_is

-- or they are those that were
pub invariant_of-self : goal.invariant_of-self
invariant_of-self g c =
    inner_again c.self.inside.cell.cell c.self.inside.cell.cell c.self.inside.ends.items c.reserve.new.self.items refl c.reserve.ensures.items c.self.invariant

pub returns-then-is_err-clause-unchanged : goal.returns-then-is_err-clause-unchanged
returns-then-is_err-clause-unchanged g c =
    same_inner c.self.inside.cell.cell c.self.inside.cell.cell c.self.inside.ends.items c.reserve.new.self.items c.args.self.now refl c.reserve.ensures.items c.self.view_is

pub invariant_of-self-in-Err-1 : goal.invariant_of-self-in-Err-1
invariant_of-self-in-Err-1 g c =
    inner_again c.self.inside.cell.cell c.port.new.self.cell c.self.inside.ends.items c.reserve.new.self.items
    (ap (λ state. state.cell) c.in-Err.ensures.unchanged) c.reserve.ensures.items c.self.invariant

pub returns-in-Err-clause-unchanged : goal.returns-in-Err-clause-unchanged
returns-in-Err-clause-unchanged g c =
    same_inner c.self.inside.cell.cell c.port.new.self.cell c.self.inside.ends.items c.reserve.new.self.items c.args.self.now
    (ap (λ state. state.cell) c.in-Err.ensures.unchanged) c.reserve.ensures.items c.self.view_is

pub returns-in-Err-clause-refusals : goal.returns-in-Err-clause-refusals
returns-in-Err-clause-refusals g c = c.in-Err.ensures.refusals
