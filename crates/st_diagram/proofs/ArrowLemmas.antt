-- The arrow of an outcome that was looked at.
use Rattle.std.proofs.Common.{◌≡◌, IfOk, Result, Ok, Err, Option, sym, ap, ◌∙◌}
use Rattle.st_events.specs.declared.outcome.Outcome.{Outcome}
use Rattle.st_diagram.specs.declared.arrow.Arrow.{Arrow}
use Rattle.st_diagram.specs.Arrows.{arrow_of}

-- what is the arrow of one is that of an equal one
pub drawn_as : {E S D C : Type 0} (r : Result (Option (Arrow S)) E) (state : S) (outcome it : Outcome S D C)
    → outcome ≡ it → IfOk r (λ arrow. arrow ≡ arrow_of state it) → IfOk r (λ arrow. arrow ≡ arrow_of state outcome)
drawn_as (Ok arrow) state outcome it is drawn = drawn ∙ ap (λ o. arrow_of state o) (sym is)
drawn_as (Err error) state outcome it is drawn = drawn
