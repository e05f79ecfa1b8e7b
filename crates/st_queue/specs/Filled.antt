-- How chains of nodes, each of which may have an event, are read as one queue.
use Rattle.std.specs.Prelude.{Option, None, Some, List, [], ◌∷◌, ◌++◌, ◌≤◌, length}
use Rattle.st_queue.specs.Queue.{Queue}

-- the events of nodes, in their order
abbrev pub events_of : {E : Type 0} → List (Option E) → List E
events_of [] = []
events_of (Some event ∷ nodes) = event ∷ events_of nodes
events_of (None ∷ nodes) = events_of nodes

-- each node has an event
abbrev pub AreFilled : {E : Type 0} → List (Option E) → Type 0
AreFilled [] = Unit {0}
AreFilled (Some event ∷ nodes) = AreFilled nodes
AreFilled (None ∷ nodes) = ⊥

-- no node has an event
abbrev pub AreEmpty : {E : Type 0} → List (Option E) → Type 0
AreEmpty [] = Unit {0}
AreEmpty (Some event ∷ nodes) = ⊥
AreEmpty (None ∷ nodes) = AreEmpty nodes

-- the nodes that are kept: two at most, and none has an event
abbrev pub AreKept : {E : Type 0} → List (Option E) → Type 0
AreKept nodes = AreEmpty nodes × (length nodes ≤ 2)

-- the nodes before the cursor, those from it on, and those that are ready
abbrev pub queue_of : {E : Type 0} → List (Option E) → List (Option E) → List (Option E) → Queue E
queue_of passed rest spare = record { items = events_of passed ++ events_of rest; cursor = length passed; staged = length spare }
