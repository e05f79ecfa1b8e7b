use Rattle.std.proofs.Common.{◌∙◌, ap, sym}
use Rattle.std.specs.Arc.{arc_value}
use Rattle.st_lock.specs.Machines.{id_of}
use Rattle.st_registry.specs.Registry.{Shared}
use Rattle.st_registry.proofs.IdLemmas.{id_at, on_ok, removed_own}
use Rattle.st_registry.proofs.registry.Registry.remove_stopped.Goals as goal

-- those that stay are there under their own ids
pub invariant_of-self : goal.invariant_of-self
invariant_of-self g c =
    removed_own (λ (machine : Shared _ _ _ _ _). id_of (arc_value machine)) c.remove.result c.self.inside.directory c.remove.new.self c.args.id c.remove.ensures.removed
    c.remove.ensures.unchanged c.self.invariant

-- the machine that was asked is there under its own id, and has not ended
pub returns-then-not-removable-clause-running : goal.returns-then-not-removable-clause-running
returns-then-not-removable-clause-running g c refused =
    let own = id_at (λ (machine : Shared _ _ _ _ _). id_of (arc_value machine)) c.args.id c.in_ok-machine.machine.now c.self.inside.directory.state.values c.self.invariant
    c.in_ok-machine.ensures.found in
    let asked = c.removable.ensures in
    (asked.0, record { own = asked.1.own ∙ (ap id_of c.deref.ensures ∙ own); journaled = asked.1.journaled }, sym c.if-not-removable.true ∙ asked.2)

-- and here it has
pub returns-clause-stopped : goal.returns-clause-stopped
returns-clause-stopped g c =
    let own = id_at (λ (machine : Shared _ _ _ _ _). id_of (arc_value machine)) c.args.id c.in_ok-machine.machine.now c.self.inside.directory.state.values c.self.invariant
    c.in_ok-machine.ensures.found in
    let asked = c.removable.ensures in
    on_ok c.match-remove.result (asked.0, record { own = asked.1.own ∙ (ap id_of c.deref.ensures ∙ own); journaled = asked.1.journaled }, sym c.if-not-removable.false ∙ asked.2)
