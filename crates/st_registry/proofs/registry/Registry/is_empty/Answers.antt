use Rattle.std.proofs.Common.{ap, ◌∙◌, ◌==◌, length}
use Rattle.st_registry.specs.Registry.{RegistryState}
use Rattle.st_registry.proofs.registry.Registry.is_empty.Goals as goal

pub returns : goal.returns
returns g c = c.is_empty.ensures ∙ ap (λ (state : RegistryState _ _ _ _ _). length state.values == 0) c.self.view_is
