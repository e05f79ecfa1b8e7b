use Rattle.st_directory.specs.DirectoryState.{state_of}
use Rattle.st_directory.proofs.OrderLemmas.{removed_in_order}
use Rattle.st_directory.proofs.directory.Directory.remove.Goals as goal

-- a value less, with its name, leaves it in order
pub invariant_of-self : goal.invariant_of-self
invariant_of-self g c = rw (c.remove_id.ensures.removed, c.in-Some.ensures.removed) (removed_in_order c.args.id
    (state_of c.self.inside.names.names c.self.inside.values.values c.self.inside.begun) c.self.invariant)
