use Rattle.std.proofs.Common.{◌≡◌, false, refl, sym, ap, ◌∙◌}
use Rattle.std.specs.Prelude.{None, Some}
use Rattle.st_timeouts.specs.Entries.{listed_of}
use Rattle.st_timeouts.specs.Running.{in_order}
use Rattle.st_timeouts.specs.Timeouts.{expiring}
use Rattle.st_timeouts.specs.Keys.{keys_of}
use Rattle.st_timeouts.specs.Order.{has_come, first_key}
use Rattle.st_timeouts.specs.Waiting.{waiting_of, due_keys}
use Rattle.st_timeouts.proofs.DueLemmas.{ordered_is}
use Rattle.st_timeouts.proofs.HandedLemmas.{first_come, none_come_none, expiring_keys, waiting_keys, name_by_key, expired_by_key, none_expired_by_key}
use Rattle.st_timeouts.proofs.timeouts.Timeouts.next_expiry.Goals as goal

pub returns-in_err-first-clause-expiry : goal.returns-in_err-first-clause-expiry
returns-in_err-first-clause-expiry g c =
    let listed = listed_of c.self.inside.entries.rows in
    let now = c.args.now in
    let none : first_key (keys_of (expiring now listed)) ≡ None =
    ap first_key (expiring_keys now listed) ∙ none_come_none now (due_keys listed) (sym (ap first_key c.self.invariant.keys_are) ∙ (sym c.first.ensures ∙ c.in_err-first.was)) in
    rw (c.from_residual.ensures, ← c.self.view_is, name_by_key (expiring now listed), none) refl

pub returns-in_err-first-clause-handed_out : goal.returns-in_err-first-clause-handed_out
returns-in_err-first-clause-handed_out g c =
    let listed = listed_of c.self.inside.entries.rows in
    let now = c.args.now in
    let none : first_key (keys_of (expiring now listed)) ≡ None =
    ap first_key (expiring_keys now listed) ∙ none_come_none now (due_keys listed) (sym (ap first_key c.self.invariant.keys_are) ∙ (sym c.first.ensures ∙ c.in_err-first.was)) in
    rw (← c.self.view_is) (sym (none_expired_by_key (expiring now listed) _ none))

pub returns-then-not-reached-clause-expiry : goal.returns-then-not-reached-clause-expiry
returns-then-not-reached-clause-expiry g c =
    let listed = listed_of c.self.inside.entries.rows in
    let now = c.args.now in
    let key = c.in_ok-first.first in
    let some : first_key (due_keys listed) ≡ Some key = sym (ap first_key c.self.invariant.keys_are) ∙ (sym c.first.ensures ∙ c.in_ok-first.was) in
    let not_come : has_come now key ≡ false = sym c.reached.ensures.come ∙ c.if-not-reached.true in
    let none : first_key (keys_of (expiring now listed)) ≡ None =
    ap first_key (expiring_keys now listed) ∙ (first_come now (due_keys listed) key (ordered_is (keys_of (waiting_of listed))) some ∙ (rw not_come refl)) in
    rw (← c.self.view_is, name_by_key (expiring now listed), none) refl

pub returns-then-not-reached-clause-handed_out : goal.returns-then-not-reached-clause-handed_out
returns-then-not-reached-clause-handed_out g c =
    let listed = listed_of c.self.inside.entries.rows in
    let now = c.args.now in
    let key = c.in_ok-first.first in
    let some : first_key (due_keys listed) ≡ Some key = sym (ap first_key c.self.invariant.keys_are) ∙ (sym c.first.ensures ∙ c.in_ok-first.was) in
    let not_come : has_come now key ≡ false = sym c.reached.ensures.come ∙ c.if-not-reached.true in
    let none : first_key (keys_of (expiring now listed)) ≡ None =
    ap first_key (expiring_keys now listed) ∙ (first_come now (due_keys listed) key (ordered_is (keys_of (waiting_of listed))) some ∙ (rw not_come refl)) in
    rw (← c.self.view_is) (sym (none_expired_by_key (expiring now listed) _ none))

pub returns-clause-expiry : goal.returns-clause-expiry
returns-clause-expiry g c =
    let listed = listed_of c.self.inside.entries.rows in
    let now = c.args.now in
    let key = c.in_ok-first.first in
    let some : first_key (due_keys listed) ≡ Some key = sym (ap first_key c.self.invariant.keys_are) ∙ (sym c.first.ensures ∙ c.in_ok-first.was) in
    let come = sym c.reached.ensures.come ∙ c.if-not-reached.false in
    let due : first_key (keys_of (expiring now listed)) ≡ Some key =
    ap first_key (expiring_keys now listed) ∙ (first_come now (due_keys listed) key (ordered_is (keys_of (waiting_of listed))) some ∙ (rw come refl)) in
    let first : first_key (keys_of (in_order (waiting_of listed))) ≡ Some key = ap first_key (waiting_keys listed) ∙ some in
    rw (c.take_due.ensures.expiry, ← c.self.view_is, name_by_key (expiring now listed), name_by_key (in_order (waiting_of listed)), due, first) refl

pub returns-clause-handed_out : goal.returns-clause-handed_out
returns-clause-handed_out g c =
    let listed = listed_of c.self.inside.entries.rows in
    let now = c.args.now in
    let key = c.in_ok-first.first in
    let some : first_key (due_keys listed) ≡ Some key = sym (ap first_key c.self.invariant.keys_are) ∙ (sym c.first.ensures ∙ c.in_ok-first.was) in
    let come = sym c.reached.ensures.come ∙ c.if-not-reached.false in
    let due : first_key (keys_of (expiring now listed)) ≡ Some key =
    ap first_key (expiring_keys now listed) ∙ (first_come now (due_keys listed) key (ordered_is (keys_of (waiting_of listed))) some ∙ (rw come refl)) in
    let first : first_key (keys_of (in_order (waiting_of listed))) ≡ Some key = ap first_key (waiting_keys listed) ∙ some in
    rw (c.take_due.ensures.handed_out, ← c.self.view_is, expired_by_key (expiring now listed) _ key due, expired_by_key (in_order (waiting_of listed)) _ key first) refl
