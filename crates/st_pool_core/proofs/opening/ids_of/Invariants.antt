use Rattle.std.proofs.Common.{◌≡◌, map, take, All}
use Rattle.std.specs.HashSet.{IsUnique}
use Rattle.st_pool_core.specs.Opening.{core_id, HasItsOwn}
use Rattle.st_scheduled.specs.ScheduledMachine.{same_id}
use Rattle.st_pool_core.proofs.opening.ids_of.Given as goal

-- the ids so far, no two of which are one; each machine so far has its own messages
abbrev pub invariant-loop-core : goal.invariant-loop-core
invariant-loop-core g l = record {
  keys : l.ids.all.keys ≡ map core_id (take l.core-index l.cores);
  unique : IsUnique same_id l.ids.all;
  own : All HasItsOwn (take l.core-index l.cores);
}
