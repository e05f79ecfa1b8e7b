use Rattle.std.proofs.Common.{◌≡◌, ◌<◌, ◌^◌, None, refl, sym, ◌∙◌, inr, arith}
use Rattle.st_requests.proofs.LawfulRequests.{fresh}
use Rattle.st_requests.specs.Requests.{held_for}
use Rattle.st_core.proofs.LawfulLemmas.{lawful_posted}
use Rattle.st_core.proofs.TransitionLemmas.{there}
use Rattle.st_core.proofs.TransitionLemmas.{machine_of, post_wants_memory}
use Rattle.st_core.proofs.engine.Core.post.Goals as goal

-- no request has the next number
pub open-requires : goal.open-requires
open-requires g c = rw c.next_number-number.ensures.next_number (fresh c.self.inside.id c.self.inside.agenda.schedule.next_number c.self.inside.requests c.self.invariant.own)

-- it can come about
pub invariant_of-self-in-Ok : goal.invariant_of-self-in-Ok
invariant_of-self-in-Ok g c =
    let old = c.self.inside in
    let machine = machine_of old.id old.state old.data old.agenda.schedule old.requests old.outgoing.outbox old.latest old.ended in
    let free : old.agenda.schedule.next_number < 2 ^ 63 = omega (arith, c.next_number-number.ensures.next_number, c.if-number-ge-NUMBER_LIMIT.false) in
    let opened = there c.open.result (sym c.is_err.ensures.value ∙ c.if-is_err.false) c.open.ensures.opened in
    rw (c.in-Ok.ensures.pushed, opened, c.kind_of.ensures, c.next_number-number.ensures.next_number)
    (lawful_posted machine c.args.entry c.args.content c.in_default.is free c.self.invariant)

-- the request that was opened is taken back
pub invariant_of-self-in-Err : goal.invariant_of-self-in-Err
invariant_of-self-in-Err g c =
    let old = c.self.inside in
    let opened = there c.open.result (sym c.is_err.ensures.value ∙ c.if-is_err.false) c.open.ensures.opened in
    let new : held_for old.requests (record { machine = old.id; request = c.next_number-number.result }) ≡ None =
    rw c.next_number-number.ensures.next_number (fresh old.id old.agenda.schedule.next_number old.requests c.self.invariant.own) in
    let back : c.withdraw.new.requests ≡ old.requests = c.withdraw.ensures old.requests new opened in
    rw (c.in-Err.ensures.unchanged, back) c.self.invariant

pub returns-in-Err-clause-does : goal.returns-in-Err-clause-does
returns-in-Err-clause-does g c =
    let old = c.self.inside in
    let machine = c.args.self.now.machine in
    let opened = there c.open.result (sym c.is_err.ensures.value ∙ c.if-is_err.false) c.open.ensures.opened in
    let new : held_for old.requests (record { machine = old.id; request = c.next_number-number.result }) ≡ None =
    rw c.next_number-number.ensures.next_number (fresh old.id old.agenda.schedule.next_number old.requests c.self.invariant.own) in
    let back : c.withdraw.new.requests ≡ old.requests = c.withdraw.ensures old.requests new opened in
    let running : machine.ended ≡ None = rw (← c.self.view_is) c.in_default.is in
    let early : old.agenda.schedule.next_number < 2 ^ 63 = omega (arith, c.next_number-number.ensures.next_number, c.if-number-ge-NUMBER_LIMIT.false) in
    let free : machine.schedule.next_number < 2 ^ 63 = rw (← c.self.view_is) early in
    inr (
      post_wants_memory machine c.args.entry c.args.content running free,
      rw (c.new-in-Err.ensures, c.in-Err.ensures.value_returned) refl,
      rw (c.in-Err.ensures.unchanged, back) c.self.view_is,
    )

pub returns-in-Err-clause-unchanged : goal.returns-in-Err-clause-unchanged
returns-in-Err-clause-unchanged g c =
    let old = c.self.inside in
    let opened = there c.open.result (sym c.is_err.ensures.value ∙ c.if-is_err.false) c.open.ensures.opened in
    let new : held_for old.requests (record { machine = old.id; request = c.next_number-number.result }) ≡ None =
    rw c.next_number-number.ensures.next_number (fresh old.id old.agenda.schedule.next_number old.requests c.self.invariant.own) in
    let back : c.withdraw.new.requests ≡ old.requests = c.withdraw.ensures old.requests new opened in
    rw (c.in-Err.ensures.unchanged, back) c.self.view_is
