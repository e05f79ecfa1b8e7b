use Rattle.std.proofs.Common.{◌≡◌, refl, sym, ap, ◌∙◌}
use Rattle.std.specs.Prelude.{None, Some}
use Rattle.st_timeouts.specs.Entries.{listed_of}
use Rattle.st_timeouts.specs.Running.{in_order}
use Rattle.st_timeouts.specs.Keys.{keys_of}
use Rattle.st_timeouts.specs.Order.{first_key}
use Rattle.st_timeouts.specs.Waiting.{waiting_of}
use Rattle.st_timeouts.proofs.HandedLemmas.{waiting_keys, name_by_key, expired_by_key, none_expired_by_key}
use Rattle.st_timeouts.proofs.RowLemmas.{listed_marked}
use Rattle.st_timeouts.proofs.SoundLemmas.{sound_handed}
use Rattle.st_timeouts.proofs.timeouts.Timeouts.take_due.Goals as goal

pub returns-in_err-first-clause-expiry : goal.returns-in_err-first-clause-expiry
returns-in_err-first-clause-expiry g c =
    let listed = listed_of c.self.inside.entries.rows in
    let none : first_key (keys_of (in_order (waiting_of listed))) ≡ None =
    ap first_key (waiting_keys listed) ∙ (sym (ap first_key c.self.invariant.keys_are) ∙ (sym c.take.ensures.first ∙ c.in_err-first.was)) in
    rw (c.from_residual.ensures, ← c.self.view_is, name_by_key (in_order (waiting_of listed)), none) refl

pub returns-in_err-first-clause-handed_out : goal.returns-in_err-first-clause-handed_out
returns-in_err-first-clause-handed_out g c =
    let listed = listed_of c.self.inside.entries.rows in
    let none : first_key (keys_of (in_order (waiting_of listed))) ≡ None =
    ap first_key (waiting_keys listed) ∙ (sym (ap first_key c.self.invariant.keys_are) ∙ (sym c.take.ensures.first ∙ c.in_err-first.was)) in
    rw (← c.self.view_is) (sym (none_expired_by_key (in_order (waiting_of listed)) _ none))

pub invariant_of-self-2 : goal.invariant_of-self-2
invariant_of-self-2 g c =
    let inside = c.self.inside in
    let first = sym c.take.ensures.first ∙ c.in_ok-first.was in
    rw c.mark.ensures (sound_handed inside.entries inside.zeros inside.order c.take.new.self c.in_ok-first.first c.self.invariant first c.take.ensures.others c.take.ensures.places)

pub returns-clause-expiry : goal.returns-clause-expiry
returns-clause-expiry g c =
    let listed = listed_of c.self.inside.entries.rows in
    let some : first_key (keys_of (in_order (waiting_of listed))) ≡ Some c.in_ok-first.first =
    ap first_key (waiting_keys listed) ∙ (sym (ap first_key c.self.invariant.keys_are) ∙ (sym c.take.ensures.first ∙ c.in_ok-first.was)) in
    rw (← c.self.view_is, name_by_key (in_order (waiting_of listed)), some) refl

pub returns-clause-handed_out : goal.returns-clause-handed_out
returns-clause-handed_out g c =
    let listed = listed_of c.self.inside.entries.rows in
    let some : first_key (keys_of (in_order (waiting_of listed))) ≡ Some c.in_ok-first.first =
    ap first_key (waiting_keys listed) ∙ (sym (ap first_key c.self.invariant.keys_are) ∙ (sym c.take.ensures.first ∙ c.in_ok-first.was)) in
    rw (← c.self.view_is, expired_by_key (in_order (waiting_of listed)) _ c.in_ok-first.first some, c.mark.ensures, listed_marked c.in_ok-first.first.timer c.self.inside.entries.rows) refl
