use Rattle.std.proofs.Common.{Some, ap, sym, ◌∙◌}
use Rattle.std.specs.Arc.{arc_value}
use Rattle.std.specs.Option.{option_map}
use Rattle.st_directory.specs.DirectoryState.{found}
use Rattle.st_lock.specs.Machines.{id_of}
use Rattle.st_registry.specs.Registry.{RegistryState, Shared}
use Rattle.st_registry.proofs.IdLemmas.{id_at}
use Rattle.st_registry.proofs.registry.Registry.machine.Goals as goal

-- the machine that is there under the id has it
pub returns-in-Ok-clause-found : goal.returns-in-Ok-clause-found
returns-in-Ok-clause-found g c = (
  ap (λ (state : RegistryState _ _ _ _ _). option_map arc_value (found c.args.id state)) (sym c.self.view_is)
      ∙ (ap (option_map arc_value) c.in_ok-machine.ensures.found ∙ ap (λ one. Some one) (sym c.in-Ok.ensures)),
  ap id_of c.in-Ok.ensures
      ∙ id_at (λ (machine : Shared _ _ _ _ _). id_of (arc_value machine)) c.args.id c.in_ok-machine.machine.now c.self.inside.directory.state.values c.self.invariant
      c.in_ok-machine.ensures.found,
)
