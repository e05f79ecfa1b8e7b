use Rattle.std.proofs.Common.{length, ap, sym, ◌∙◌, subst}
use Rattle.std.specs.Prelude.{IfOk}
use Rattle.std.specs.Arc.{arc_value}
use Rattle.st_core.specs.Callbacks.{callbacks_of}
use Rattle.st_cell.specs.Cell.{IsOpen, count_for}
use Rattle.st_journal.specs.Journal.{numbers_of}
use Rattle.st_claim_lock.specs.Holders.{lock_id}
use Rattle.st_lock_inner.specs.Inner.{EndsWith, InnerState, HasEnd, counters_of}
use Rattle.st_lock.specs.Machines.{id_of}
use Rattle.st_lock.specs.Ports.{PortState}
use Rattle.st_lock.proofs.ClaimLemmas.{own_out, same_counters}
use Rattle.st_lock.proofs.PortLemmas.{look_at, mine_at, port_kept, seen_kept, taken_cell}
use Rattle.st_lock.proofs.port.Port.look.Goals as goal

-- the port's claim is of this lock, and of the machine's endpoint
pub take-taken-requires-clause-lock : goal.take-taken-requires-clause-lock
take-taken-requires-clause-lock g c = c.self.invariant.lock ∙ sym (ap (λ machine. lock_id machine.lock) c.deref.ensures)

pub take-taken-requires-clause-claims : goal.take-taken-requires-clause-claims
take-taken-requires-clause-claims g c = c.self.invariant.claims

-- the port is open in the cell under the lock, and the cell counts what its endpoint has seen
pub look-answer-requires-clause-open : goal.look-answer-requires-clause-open
look-answer-requires-clause-open g c =
    subst (λ (inner : InnerState _ _ _ _). IsOpen c.self.inside.number inner.cell) (sym c.deref_mut.ensures.value) c.take-taken.ensures.open

pub look-answer-requires-clause-end : goal.look-answer-requires-clause-end
look-answer-requires-clause-end g c =
    subst (λ (inner : InnerState _ _ _ _). HasEnd inner c.self.inside.number c.self.inside.counter) (sym c.deref_mut.ensures.value) c.take-taken.ensures.end

pub look-answer-requires-clause-mine : goal.look-answer-requires-clause-mine
look-answer-requires-clause-mine g c = (c.self.invariant.counter, c.self.invariant.part)

pub look-answer-requires-clause-count : goal.look-answer-requires-clause-count
look-answer-requires-clause-count g c =
    sym c.self.invariant.count ∙ (c.take-taken.ensures.count
    ∙ ap (λ (inner : InnerState _ _ _ _). count_for c.self.inside.number inner.cell) (sym c.deref_mut.ensures.value))

-- the inner state goes back with endpoints of the same counters
pub give_back-requires-clause-lock : goal.give_back-requires-clause-lock
give_back-requires-clause-lock g c = c.take-taken.ensures.lock

pub give_back-requires-clause-out : goal.give_back-requires-clause-out
give_back-requires-clause-out g c = own_out c.take-taken.new.holder _ _ c.take-taken.ensures.out

pub give_back-requires-clause-same : goal.give_back-requires-clause-same
give_back-requires-clause-same g c =
    same_counters _ c.take-taken.result.1 c.look-answer.new.self c.take-taken.ensures.taken
    (c.look-answer.ensures.same.0 ∙ ap (λ (inner : InnerState _ _ _ _). counters_of inner.ends) c.deref_mut.ensures.value)

-- and the port is as it was
pub invariant_of-self : goal.invariant_of-self
invariant_of-self g c =
    port_kept c.self.inside c.look-answer.new.mine c.take-taken.new.holder c.give_back.new.holder _ c.self.invariant c.look-answer.ensures.same.1
    c.take-taken.ensures.out c.give_back.ensures.claims
    (c.give_back.ensures.same ∙ (c.take-taken.ensures.lock ∙ (c.take-taken.ensures.from ∙ ap (λ machine. lock_id machine.lock) c.deref.ensures)))

pub returns-clause-same : goal.returns-clause-same
returns-clause-same g c =
    seen_kept (id_of (arc_value c.self.inside.machine)) c.self.inside.end c.look-answer.new.mine c.args.self.now c.look-answer.ensures.same.1 c.self.view_is

-- the cell under the lock is the one that is looked at
pub returns-clause-look : goal.returns-clause-look
returns-clause-look g c =
    look_at _ _ c.deref_mut.result.now.cell c.self.inside.number _ c.look-answer.result c.look-answer.ensures.look
    (taken_cell (callbacks_of g.M.Module g.M.State.PartialEq.eq) c.args.self.now.machine c.take-taken.result.1.value c.deref-2.result.now c.deref_mut.result.now
    (c.take-taken.ensures.own ∙ (ap (λ machine. id_of machine) c.deref.ensures ∙ ap (λ port. port.machine) c.self.view_is))
    c.deref-2.ensures c.its_cell_is_journaled.ensures c.deref_mut.ensures.value)
    (subst (λ (inner : InnerState _ _ _ _). IsOpen c.self.inside.number inner.cell) (sym c.deref_mut.ensures.value) c.take-taken.ensures.open)
    (ap (λ (inner : InnerState _ _ _ _). count_for c.self.inside.number inner.cell) c.deref_mut.ensures.value
    ∙ (sym c.take-taken.ensures.count ∙ (c.self.invariant.count ∙ ap (λ port. length port.posts) c.self.view_is)))

-- it shows the port's own posts
pub returns-clause-mine : goal.returns-clause-mine
returns-clause-mine g c =
    mine_at (callbacks_of g.M.Module g.M.State.PartialEq.eq) c.deref_mut.result.now.cell c.self.inside.number _ c.look-answer.result c.look-answer.ensures.look
    (ap (λ (inner : InnerState _ _ _ _). count_for c.self.inside.number inner.cell) c.deref_mut.ensures.value
    ∙ (sym c.take-taken.ensures.count ∙ (c.self.invariant.count ∙ ap (λ port. length port.posts) c.self.view_is)))

pub returns-clause-numbers : goal.returns-clause-numbers
returns-clause-numbers g c =
    subst (λ (port : PortState _). IfOk c.look-answer.result (λ look. EndsWith (numbers_of port.posts) look.numbers)) c.self.view_is c.look-answer.ensures.numbers

pub returns-clause-refusals : goal.returns-clause-refusals
returns-clause-refusals g c = c.look-answer.ensures.refusals
