use Rattle.st_directory.specs.DirectoryState.{unregistered}
use Rattle.st_cell.proofs.CellLemmas.{either_kept}
use Rattle.st_registry.specs.Registry.{HasIds}
use Rattle.st_registry.proofs.registry.Registry.unregister.Goals as goal

-- the machines stay as they are
pub invariant_of-self : goal.invariant_of-self
invariant_of-self g c =
    either_kept HasIds c.unregister.result c.unregister.new.self.state (unregistered c.args.name.now c.self.inside.directory.state) c.self.inside.directory.state
    c.unregister.ensures.unregistered c.unregister.ensures.unchanged c.self.invariant c.self.invariant
