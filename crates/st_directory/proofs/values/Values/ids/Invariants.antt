use Rattle.std.proofs.Common.{◌≡◌, ◌++◌, map}
use Rattle.st_directory.specs.Slots.{ids_of}
use Rattle.st_directory.proofs.SlotLemmas.{id_of_entry}
use Rattle.st_directory.proofs.values.Values.ids.Given as goal

-- what was copied and what is left are the ids
abbrev pub invariant-loop-slot : goal.invariant-loop-slot
invariant-loop-slot g l = l.ids.items ++ map id_of_entry l.slot-iterator ≡ ids_of l.fn.self.values
