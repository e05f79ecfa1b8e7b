use Rattle.std.proofs.Common.{arith, ◌≡◌, Ok, length, ap, sym, ◌∙◌, subst}
use Rattle.std.specs.Prelude.{IfSome}
use Rattle.std.specs.Arc.{arc_value}
use Rattle.st_events.specs.declared.machine_id.MachineId.{MachineId}
use Rattle.st_events.specs.declared.token.Token.{Token}
use Rattle.st_core.specs.Callbacks.{callbacks_of}
use Rattle.st_cell.specs.Cell.{IsOpen, count_for}
use Rattle.st_claim_lock.specs.Holders.{lock_id}
use Rattle.st_lock_inner.specs.Inner.{InnerState, HasEnd, counters_of}
use Rattle.st_lock.specs.Machines.{id_of}
use Rattle.st_lock.proofs.ClaimLemmas.{own_out, same_counters}
use Rattle.st_lock.proofs.PortLemmas.{port_kept, port_posted, seen_kept, seen_posted, taken_cell, wake_named}
use Rattle.st_lock.proofs.port.Port.post.Goals as goal

-- the port's claim is of this lock, and of the machine's endpoint
pub take-taken-requires-clause-lock : goal.take-taken-requires-clause-lock
take-taken-requires-clause-lock g c = c.self.invariant.lock ∙ sym (ap (λ machine. lock_id machine.lock) c.deref.ensures)

pub take-taken-requires-clause-claims : goal.take-taken-requires-clause-claims
take-taken-requires-clause-claims g c = c.self.invariant.claims

-- ---- the event is posted
-- the port is open in the cell under the lock, and the cell counts what its endpoint has seen
pub post-answer-requires-clause-open : goal.post-answer-requires-clause-open
post-answer-requires-clause-open g c =
    subst (λ (inner : InnerState _ _ _ _). IsOpen c.self.inside.number inner.cell) (sym c.deref_mut.ensures.value) c.take-taken.ensures.open

pub post-answer-requires-clause-end : goal.post-answer-requires-clause-end
post-answer-requires-clause-end g c =
    subst (λ (inner : InnerState _ _ _ _). HasEnd inner c.self.inside.number c.self.inside.counter) (sym c.deref_mut.ensures.value) c.take-taken.ensures.end

pub post-answer-requires-clause-mine : goal.post-answer-requires-clause-mine
post-answer-requires-clause-mine g c = (c.self.invariant.counter, c.self.invariant.part)

pub post-answer-requires-clause-count : goal.post-answer-requires-clause-count
post-answer-requires-clause-count g c =
    sym c.self.invariant.count ∙ (c.take-taken.ensures.count
    ∙ ap (λ (inner : InnerState _ _ _ _). count_for c.self.inside.number inner.cell) (sym c.deref_mut.ensures.value))

-- the inner state goes back with endpoints of the same counters
pub give_back-requires-clause-lock : goal.give_back-requires-clause-lock
give_back-requires-clause-lock g c = c.take-taken.ensures.lock

pub give_back-requires-clause-out : goal.give_back-requires-clause-out
give_back-requires-clause-out g c = own_out c.take-taken.new.holder _ _ c.take-taken.ensures.out

pub give_back-requires-clause-same : goal.give_back-requires-clause-same
give_back-requires-clause-same g c =
    same_counters _ c.take-taken.result.1 c.post-answer.new.self c.take-taken.ensures.taken
    (c.post-answer.ensures.same ∙ ap (λ (inner : InnerState _ _ _ _). counters_of inner.ends) c.deref_mut.ensures.value)

-- the port's endpoint saw the post, or is as it was
pub overflow_add-self : goal.overflow_add-self
overflow_add-self g c = omega (arith, c.take-taken.ensures.limited)

pub invariant_of-self : goal.invariant_of-self
invariant_of-self g c =
    port_posted c.self.inside c.post-answer.new.mine (record { number = c.in-Ok.posted.number; entry = c.args.entry; content = c.args.content })
    c.take-taken.new.holder c.give_back.new.holder _ c.self.invariant c.in-Ok.ensures.posted c.take-taken.ensures.out c.give_back.ensures.claims
    (c.give_back.ensures.same ∙ (c.take-taken.ensures.lock ∙ (c.take-taken.ensures.from ∙ ap (λ machine. lock_id machine.lock) c.deref.ensures)))

pub invariant_of-self-in-Err : goal.invariant_of-self-in-Err
invariant_of-self-in-Err g c =
    port_kept c.self.inside c.post-answer.new.mine c.take-taken.new.holder c.give_back.new.holder _ c.self.invariant c.in-Err.ensures.unchanged.1
    c.take-taken.ensures.out c.give_back.ensures.claims
    (c.give_back.ensures.same ∙ (c.take-taken.ensures.lock ∙ (c.take-taken.ensures.from ∙ ap (λ machine. lock_id machine.lock) c.deref.ensures)))

-- and so it is with what is seen of the port
pub returns-in-Ok-clause-posted : goal.returns-in-Ok-clause-posted
returns-in-Ok-clause-posted g c =
    seen_posted (id_of (arc_value c.self.inside.machine)) c.self.inside.end c.post-answer.new.mine
    (record { number = c.in-Ok.posted.number; entry = c.args.entry; content = c.args.content }) c.args.self.now c.in-Ok.ensures.posted c.self.view_is

pub returns-in-Err-clause-unchanged : goal.returns-in-Err-clause-unchanged
returns-in-Err-clause-unchanged g c =
    seen_kept (id_of (arc_value c.self.inside.machine)) c.self.inside.end c.post-answer.new.mine c.args.self.now c.in-Err.ensures.unchanged.1 c.self.view_is

pub returns-in-Err-clause-returned : goal.returns-in-Err-clause-returned
returns-in-Err-clause-returned g c = c.in-Err.ensures.returned

-- the cell under the lock is the one that is posted to
pub returns-in-Ok-clause-does : goal.returns-in-Ok-clause-does
returns-in-Ok-clause-does g c = let went = rw c.in-Ok.is at c.post-answer.ensures.does in (
  c.deref_mut.result.now.cell,
  went.0,
  c.self.inside.number,
  taken_cell (callbacks_of g.M.Module g.M.State.PartialEq.eq) c.args.self.now.machine c.take-taken.result.1.value c.deref-2.result.now c.deref_mut.result.now
      (c.take-taken.ensures.own ∙ (ap (λ machine. id_of machine) c.deref.ensures ∙ ap (λ port. port.machine) c.self.view_is))
      c.deref-2.ensures c.its_cell_is_journaled.ensures c.deref_mut.ensures.value,
  subst (λ (inner : InnerState _ _ _ _). IsOpen c.self.inside.number inner.cell) (sym c.deref_mut.ensures.value) c.take-taken.ensures.open,
  ap (λ (inner : InnerState _ _ _ _). count_for c.self.inside.number inner.cell) c.deref_mut.ensures.value
      ∙ (sym c.take-taken.ensures.count ∙ (c.self.invariant.count ∙ ap (λ port. length port.posts) c.self.view_is)),
  went.1,
)

pub returns-in-Err-clause-does : goal.returns-in-Err-clause-does
returns-in-Err-clause-does g c = let went = rw c.in-Err.is at c.post-answer.ensures.does in (
  c.deref_mut.result.now.cell,
  went.0,
  c.self.inside.number,
  taken_cell (callbacks_of g.M.Module g.M.State.PartialEq.eq) c.args.self.now.machine c.take-taken.result.1.value c.deref-2.result.now c.deref_mut.result.now
      (c.take-taken.ensures.own ∙ (ap (λ machine. id_of machine) c.deref.ensures ∙ ap (λ port. port.machine) c.self.view_is))
      c.deref-2.ensures c.its_cell_is_journaled.ensures c.deref_mut.ensures.value,
  subst (λ (inner : InnerState _ _ _ _). IsOpen c.self.inside.number inner.cell) (sym c.deref_mut.ensures.value) c.take-taken.ensures.open,
  ap (λ (inner : InnerState _ _ _ _). count_for c.self.inside.number inner.cell) c.deref_mut.ensures.value
      ∙ (sym c.take-taken.ensures.count ∙ (c.self.invariant.count ∙ ap (λ port. length port.posts) c.self.view_is)),
  went.1,
)

-- and the token that it hands out names the machine
pub returns-in-Ok-clause-token : goal.returns-in-Ok-clause-token
returns-in-Ok-clause-token g c =
    let cell = c.deref_mut.result.now.cell in
    let went = rw c.in-Ok.is at c.post-answer.ensures.does in
    let own : cell.scheduled.core.machine.id ≡ c.args.self.now.machine =
    ap (λ (inner : InnerState _ _ _ _). inner.cell.scheduled.core.machine.id) c.deref_mut.ensures.value
    ∙ (c.take-taken.ensures.own ∙ (ap (λ machine. id_of machine) c.deref.ensures ∙ ap (λ port. port.machine) c.self.view_is)) in
    subst (λ (id : MachineId). IfSome c.in-Ok.posted.wake (λ (token : Token). token.machine ≡ id)) own
    (wake_named (callbacks_of g.M.Module g.M.State.PartialEq.eq) cell went.0 c.self.inside.number c.args.entry c.args.content (Ok c.in-Ok.posted) went.1)
