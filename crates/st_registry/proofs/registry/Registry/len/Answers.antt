use Rattle.std.proofs.Common.{ap, ◌∙◌, length}
use Rattle.st_registry.specs.Registry.{RegistryState}
use Rattle.st_registry.proofs.registry.Registry.len.Goals as goal

pub returns : goal.returns
returns g c = c.len.ensures ∙ ap (λ (state : RegistryState _ _ _ _ _). length state.values) c.self.view_is
