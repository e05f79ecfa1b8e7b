use Rattle.std.proofs.Common.{sym, ◌∙◌, arith}
use Rattle.st_due.specs.Places.{ordered}
use Rattle.st_due.proofs.PlacesLemmas.{once_each, earliest_is_first, due_none, due_later, due_now, noted_is}
use Rattle.st_due.proofs.due_queue.DueQueue.take.Goals as goal

pub returns-in_err-first-clause-taken : goal.returns-in_err-first-clause-taken
returns-in_err-first-clause-taken c =
    let entries = c.self.inside.moments.entries in
    let first = c.first.ensures ∙ earliest_is_first c.self.inside.tournament entries c.self.invariant.at (omega (arith, c.self.invariant.fits)) in
    let none = due_none c.args.now (ordered entries) (sym first ∙ c.in_err-first.was) in
    rw (← c.self.view_is) (c.from_residual.ensures ∙ sym none.0)

pub returns-in_err-first-clause-left : goal.returns-in_err-first-clause-left
returns-in_err-first-clause-left c =
    let entries = c.self.inside.moments.entries in
    let first = c.first.ensures ∙ earliest_is_first c.self.inside.tournament entries c.self.invariant.at (omega (arith, c.self.invariant.fits)) in
    let none = due_none c.args.now (ordered entries) (sym first ∙ c.in_err-first.was) in
    rw (← c.self.view_is) (noted_is _ _ none.1)

pub returns-then-now-first-clause-taken : goal.returns-then-now-first-clause-taken
returns-then-now-first-clause-taken c =
    let entries = c.self.inside.moments.entries in
    let first = c.first.ensures ∙ earliest_is_first c.self.inside.tournament entries c.self.invariant.at (omega (arith, c.self.invariant.fits)) in
    let later = due_later c.args.now (ordered entries) c.in_ok-first.first (sym first ∙ c.in_ok-first.was) c.if-now-first.true in
    rw (← c.self.view_is) (sym later.0)

pub returns-then-now-first-clause-left : goal.returns-then-now-first-clause-left
returns-then-now-first-clause-left c =
    let entries = c.self.inside.moments.entries in
    let first = c.first.ensures ∙ earliest_is_first c.self.inside.tournament entries c.self.invariant.at (omega (arith, c.self.invariant.fits)) in
    let later = due_later c.args.now (ordered entries) c.in_ok-first.first (sym first ∙ c.in_ok-first.was) c.if-now-first.true in
    rw (← c.self.view_is) (noted_is _ _ later.1)

pub returns-clause-taken : goal.returns-clause-taken
returns-clause-taken c =
    let entries = c.self.inside.moments.entries in
    let first = c.first.ensures ∙ earliest_is_first c.self.inside.tournament entries c.self.invariant.at (omega (arith, c.self.invariant.fits)) in
    let due = due_now c.args.now (ordered entries) c.in_ok-first.first (sym first ∙ c.in_ok-first.was) c.if-now-first.false (once_each entries c.self.invariant.once_each) in
    rw (← c.self.view_is) (sym due.0)

pub returns-clause-left : goal.returns-clause-left
returns-clause-left c =
    let entries = c.self.inside.moments.entries in
    let first = c.first.ensures ∙ earliest_is_first c.self.inside.tournament entries c.self.invariant.at (omega (arith, c.self.invariant.fits)) in
    let due = due_now c.args.now (ordered entries) c.in_ok-first.first (sym first ∙ c.in_ok-first.was) c.if-now-first.false (once_each entries c.self.invariant.once_each) in
    c.forget.ensures ∙ rw (← c.self.view_is) (λ i. record { machines = sym due.1 i; reserved = c.self.inside.ready })
