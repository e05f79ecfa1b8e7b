use Rattle.std.proofs.Common.{◌≡◌, ◌++◌, length, map, vec_len, vec_capacity}
use Rattle.std.specs.Vec.Iter.{into_iter_items}
use Rattle.st_scheduled.specs.Serving.{scheduled_at_first}
use Rattle.st_pool_core.proofs.machines.Machines.new.Given as goal

-- the machines so far are taken in, and there is room for all
abbrev pub invariant-loop-core : goal.invariant-loop-core
invariant-loop-core g l =
    record {
      can_next : (goal.iterator-loop-core g).can_next l.core-iterator;
      is_finite : (goal.iterator-loop-core g).is_finite l.core-iterator;
      split : l.yielded ++ into_iter_items l.core-iterator ≡ l.fn.cores.items;
      reserved : vec_capacity l.all ≡ length l.fn.cores.items;
      count : vec_len l.all ≡ length l.yielded;
      machines : l.all.items ≡ map scheduled_at_first l.yielded;
    }
