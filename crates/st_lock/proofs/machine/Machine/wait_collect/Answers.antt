use Rattle.std.proofs.Common.{◌≡◌, true, false, ap, ◌∙◌}
use Rattle.st_core.specs.Callbacks.{callbacks_of}
use Rattle.st_lock_inner.specs.Inner.{InnerState, counters_of}
use Rattle.st_lock.specs.Machines.{id_of}
use Rattle.st_lock.proofs.ClaimLemmas.{same_counters}
use Rattle.st_lock.proofs.PortLemmas.{taken_cell}
use Rattle.st_lock.proofs.machine.Machine.wait_collect.Goals as goal

-- the inner state goes back with endpoints of the same counters
pub give_back-gate-requires-clause-lock : goal.give_back-gate-requires-clause-lock
give_back-gate-requires-clause-lock g c = c.arrive-held.ensures.lock

pub give_back-gate-requires-clause-out : goal.give_back-gate-requires-clause-out
give_back-gate-requires-clause-out g c = c.arrive-held.ensures.out

pub give_back-gate-requires-clause-same : goal.give_back-gate-requires-clause-same
give_back-gate-requires-clause-same g c =
    same_counters _ c.arrive-held.result.1 c.collect-answer.new.self c.arrive-held.ensures.taken
    (ap (λ ends. counters_of ends) c.collect-answer.ensures.same ∙ ap (λ (inner : InnerState _ _ _ _). counters_of inner.ends) c.deref_mut.ensures.value)

-- the cell that lay under the lock at last answers so
pub returns-in_default-clause-does : goal.returns-in_default-clause-does
returns-in_default-clause-does g c = (
  c.deref_mut.result.now.cell,
  c.collect-answer.ensures.does.0,
  taken_cell (callbacks_of g.M.Module g.M.State.PartialEq.eq) (id_of c.args.self.now) c.arrive-held.result.1.value c.deref.result.now c.deref_mut.result.now
      c.arrive-held.ensures.own c.deref.ensures c.its_cell_is_journaled.ensures c.deref_mut.ensures.value,
  c.collect-answer.ensures.does.1,
)

-- each wait is one of those that are left, and they do not run out
pub loop-smaller-in-Ok-Waiting : goal.loop-smaller-in-Ok-Waiting
loop-smaller-in-Ok-Waiting g c = (c.in-Some.ensures.goes.on tt).2

pub loop-smaller-in-Ok-Waiting-2 : goal.loop-smaller-in-Ok-Waiting-2
loop-smaller-in-Ok-Waiting-2 g c = (c.in-Some.ensures.goes.on tt).2

pub loop-smaller : goal.loop-smaller
loop-smaller g c = (c.in-Some.ensures.goes.on tt).2

pub unreachable-requires : goal.unreachable-requires
unreachable-requires g c = let no : false ≡ true = c.in-None.ensures.steps in cc

pub unreachable-unreachable : goal.unreachable-unreachable
unreachable-unreachable g c = c.unreachable.result
