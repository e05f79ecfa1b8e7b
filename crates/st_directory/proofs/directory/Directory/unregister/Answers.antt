use Rattle.st_directory.specs.DirectoryState.{state_of}
use Rattle.st_directory.proofs.OrderLemmas.{unregistered_in_order}
use Rattle.st_directory.proofs.directory.Directory.unregister.Goals as goal

-- a name less leaves it in order
pub invariant_of-self : goal.invariant_of-self
invariant_of-self g c = rw c.remove.ensures.removed (unregistered_in_order c.args.name.now
    (state_of c.self.inside.names.names c.self.inside.values.values c.self.inside.begun) c.self.invariant)
