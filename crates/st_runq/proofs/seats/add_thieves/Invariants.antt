use Rattle.std.proofs.Common.{◌++◌, map, take}
use Rattle.st_runq.specs.Ends.{robbed_of}
use Rattle.st_runq.specs.Seats.{lanes_of, AreThieves}
use Rattle.st_runq.proofs.seats.add_thieves.Given as goal

-- there are thieves of the run queues to which the loop has come
abbrev pub invariant-loop-seats : goal.invariant-loop-seats
invariant-loop-seats l = AreThieves (map robbed_of l.initial.thieves.items ++ lanes_of (take l.seats-index l.of)) l.thieves.items
