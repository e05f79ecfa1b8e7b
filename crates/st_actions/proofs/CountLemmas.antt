-- A list that is looked at from its end on.
use Rattle.std.proofs.Common.{◌≡◌, ℕ, zero, suc, ◌+◌, Some, List, [], ◌∷◌, ap, ◌∙◌, drop, arith}
use Rattle.std.specs.Prelude.{slice_get}
use Rattle.st_events.specs.declared.action.Action.{Action}
use Rattle.st_actions.specs.declared.counts.Counts.{Counts}
use Rattle.st_actions.specs.Counted.{IsCountOf}

drop_next : {X : Type 0} (xs : List X) (index : ℕ) (x : X) → slice_get xs index ≡ Some x → drop index xs ≡ x ∷ drop (suc index) xs
drop_next [] index x there = cc
drop_next (y ∷ xs) zero x there = let same : y ≡ x = cc in ap (λ z. z ∷ xs) same
drop_next (y ∷ xs) (suc index) x there = drop_next xs index x there

pub drop_there : {X : Type 0} (xs : List X) (index : ℕ) (x : X) → slice_get xs index ≡ Some x → drop index xs ≡ x ∷ drop (index + 1) xs
drop_there xs index x there =
    let next : suc index ≡ index + 1 = omega arith in drop_next xs index x there ∙ ap (λ n. x ∷ drop n xs) next

pub all_counted : {C : Type 0} (counts : Counts) (actions : List (Action C)) (index : ℕ) → index ≡ 0 → IsCountOf counts (drop index actions) → IsCountOf counts actions
all_counted counts actions zero none known = known
all_counted counts actions (suc index) none known = absurd (omega (arith, none))
