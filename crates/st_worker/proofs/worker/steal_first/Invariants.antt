use Rattle.std.proofs.Common.{◌≡◌, map, length}
use Rattle.st_runq.specs.Ends.{robbed_of, stolen_of}
use Rattle.st_worker.proofs.worker.steal_first.Given as goal

-- those that were asked have stolen nothing
abbrev pub invariant-loop-place : goal.invariant-loop-place
invariant-loop-place l = (map robbed_of l.thieves.items ≡ map robbed_of l.initial.thieves.items)
    × (map stolen_of l.thieves.items ≡ map stolen_of l.initial.thieves.items)
    × (length l.thieves.items ≡ l.place-end)
