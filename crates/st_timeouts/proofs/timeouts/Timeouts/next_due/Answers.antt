use Rattle.std.proofs.Common.{◌≡◌, refl, sym, ap, ◌∙◌}
use Rattle.std.specs.Prelude.{None, Some}
use Rattle.st_timeouts.specs.Entries.{listed_of}
use Rattle.st_timeouts.specs.Order.{first_key}
use Rattle.st_timeouts.specs.Waiting.{due_keys}
use Rattle.st_timeouts.proofs.HandedLemmas.{next_due_by_key}
use Rattle.st_timeouts.proofs.timeouts.Timeouts.next_due.Goals as goal

pub returns-in_err-first : goal.returns-in_err-first
returns-in_err-first g c =
    let listed = listed_of c.self.inside.entries.rows in
    let none : first_key (due_keys listed) ≡ None = sym (ap first_key c.self.invariant.keys_are) ∙ (sym c.first.ensures ∙ c.in_err-first.was) in
    rw (c.from_residual.ensures, ← c.self.view_is, next_due_by_key listed, none) refl

pub returns : goal.returns
returns g c =
    let listed = listed_of c.self.inside.entries.rows in
    let some : first_key (due_keys listed) ≡ Some c.in_ok-first.first = sym (ap first_key c.self.invariant.keys_are) ∙ (sym c.first.ensures ∙ c.in_ok-first.was) in
    rw (← c.self.view_is, next_due_by_key listed, some, c.milliseconds.ensures) refl
