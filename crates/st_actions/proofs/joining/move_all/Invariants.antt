use Rattle.std.proofs.Common.{◌≡◌, ◌+◌, ◌++◌, length}
use Rattle.st_actions.proofs.joining.move_all.Given as goal

-- what was moved, with what is left, is all that there was
abbrev pub invariant-loop-element : goal.invariant-loop-element
invariant-loop-element g l = record {
  elements : l.onto.items ++ l.element-iterator ≡ l.fn.onto.items ++ l.fn.elements;
  reserved : l.onto.reserved + length l.fn.elements ≡ l.fn.onto.reserved + length l.element-iterator;
}

abbrev pub decreases-loop-element : goal.decreases-loop-element
decreases-loop-element g l = length l.element-iterator
