use Rattle.std.proofs.Common.{sym, subst}
use Rattle.st_registry.specs.Registry.{RegistryState, HasIds}
use Rattle.st_registry.proofs.KeptLemmas.{starts_own}
use Rattle.st_registry.proofs.registry.Registry.start.Goals as goal

-- the machine that started is there under its own id
pub invariant_of-self : goal.invariant_of-self
invariant_of-self g c =
    starts_own c.args.module _ _ c.prepare.new.self.state c.start_at.result c.start_at.new.directory.state c.start_at.ensures.starts
    (subst (λ (state : RegistryState _ _ _ _ _). HasIds state) (sym c.prepare.ensures.unchanged) c.self.invariant)
