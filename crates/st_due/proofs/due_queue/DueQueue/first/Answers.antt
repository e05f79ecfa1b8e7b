use Rattle.std.proofs.Common.{sym, ap, ◌∙◌, arith}
use Rattle.std.specs.Option.{option_map}
use Rattle.st_due.specs.declared.due_machine.DueMachine.{DueMachine}
use Rattle.st_due.specs.Places.{ordered}
use Rattle.st_due.proofs.PlacesLemmas.{first_moment_is, earliest_is_first}
use Rattle.st_due.proofs.due_queue.DueQueue.first.Goals as goal

pub returns-in_err-first : goal.returns-in_err-first
returns-in_err-first c =
    let entries = c.self.inside.moments.entries in
    let first = c.first.ensures ∙ earliest_is_first c.self.inside.tournament entries c.self.invariant.at (omega (arith, c.self.invariant.fits)) in
    rw (← c.self.view_is) (c.from_residual.ensures ∙ (ap (option_map (λ (one : DueMachine). one.moment)) (sym c.in_err-first.was ∙ first)
    ∙ sym (first_moment_is (ordered entries))))

pub returns : goal.returns
returns c =
    let entries = c.self.inside.moments.entries in
    let first = c.first.ensures ∙ earliest_is_first c.self.inside.tournament entries c.self.invariant.at (omega (arith, c.self.invariant.fits)) in
    rw (← c.self.view_is) (ap (option_map (λ (one : DueMachine). one.moment)) (sym c.in_ok-first.was ∙ first)
    ∙ sym (first_moment_is (ordered entries)))
