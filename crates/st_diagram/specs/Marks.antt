-- The marks of an arrow: what a callback asks for.
use Rattle.std.specs.Prelude.{ℕ, true, false, List, codes, flat_map}
use Rattle.st_events.specs.declared.action.Action.{Action}
use Rattle.st_events.specs.declared.action.Action.TheVariants.{Reply, Postpone, NextEvent, Set, Cancel, Update, Send, Hibernate}

-- the mark of an action
abbrev pub mark_of : {C : Type 0} → Action C → List ℕ
mark_of (Reply tag content) = codes " / reply"
mark_of (Postpone true) = codes " / postpone"
mark_of (Postpone false) = codes " / no postpone"
mark_of (NextEvent kind content) = codes " / next event"
mark_of (Set timer time content) = codes " / timer"
mark_of (Cancel timer) = codes " / cancel timer"
mark_of (Update timer content) = codes " / update timer"
mark_of (Send id content) = codes " / send"
mark_of Hibernate = codes " / hibernate"

-- the marks of actions, in their order
abbrev pub marks_of : {C : Type 0} → List (Action C) → List ℕ
marks_of actions = flat_map mark_of actions
