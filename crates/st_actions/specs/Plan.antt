-- What a list of actions asks for: the manual's action(), one kind after another.
use Rattle.std.specs.Prelude.{Bool, false, if◌then◌else◌, List, [], ◌∷◌}
use Rattle.std.specs.List.{list_any}
use Rattle.st_events.specs.declared.tag.Tag.{Tag}
use Rattle.st_events.specs.declared.action.Action.{Action}
use Rattle.st_events.specs.declared.action.Action.TheVariants.{Reply, Postpone, NextEvent, Set, Cancel, Update, Send, Hibernate}
use Rattle.st_events.specs.declared.insert.Insert.{Insert}
use Rattle.st_events.specs.declared.machine_id.MachineId.{MachineId}
use Rattle.st_events.specs.declared.asked.Asked.{Asked}
use Rattle.st_events.specs.declared.asked.Asked.TheVariants as asked
use Rattle.st_events.specs.declared.setting.Setting.{Setting}
use Rattle.st_events.specs.declared.timer.Timer.{Timer}
use Rattle.st_events.specs.Timers.{same_timer}
use Rattle.st_actions.specs.declared.planned.Planned.{Planned}

-- the replies, in the order of the actions
abbrev pub replies_of : {C : Type 0} → List (Action C) → List (Tag × C)
replies_of [] = []
replies_of (Reply tag content ∷ actions) = (tag, content) ∷ replies_of actions
replies_of (Postpone last ∷ actions) = replies_of actions
replies_of (NextEvent kind content ∷ actions) = replies_of actions
replies_of (Set timer time content ∷ actions) = replies_of actions
replies_of (Cancel timer ∷ actions) = replies_of actions
replies_of (Update timer content ∷ actions) = replies_of actions
replies_of (Send target content ∷ actions) = replies_of actions
replies_of (Hibernate ∷ actions) = replies_of actions

-- the events to be inserted, in the order of the actions
abbrev pub inserts_of : {C : Type 0} → List (Action C) → List (Insert C)
inserts_of [] = []
inserts_of (Reply tag content ∷ actions) = inserts_of actions
inserts_of (Postpone last ∷ actions) = inserts_of actions
inserts_of (NextEvent kind content ∷ actions) =
    record { kind = kind; content = content } ∷ inserts_of actions
inserts_of (Set timer time content ∷ actions) = inserts_of actions
inserts_of (Cancel timer ∷ actions) = inserts_of actions
inserts_of (Update timer content ∷ actions) = inserts_of actions
inserts_of (Send target content ∷ actions) = inserts_of actions
inserts_of (Hibernate ∷ actions) = inserts_of actions

-- what the last postpone says, or what is given where there is none
abbrev pub postpone_or : {C : Type 0} → Bool → List (Action C) → Bool
postpone_or given [] = given
postpone_or given (Reply tag content ∷ actions) = postpone_or given actions
postpone_or given (Postpone last ∷ actions) = postpone_or last actions
postpone_or given (NextEvent kind content ∷ actions) = postpone_or given actions
postpone_or given (Set timer time content ∷ actions) = postpone_or given actions
postpone_or given (Cancel timer ∷ actions) = postpone_or given actions
postpone_or given (Update timer content ∷ actions) = postpone_or given actions
postpone_or given (Send target content ∷ actions) = postpone_or given actions
postpone_or given (Hibernate ∷ actions) = postpone_or given actions

-- whether the event is postponed: the last postpone decides, and with none it is not
abbrev pub postpone_of : {C : Type 0} → List (Action C) → Bool
postpone_of actions = postpone_or false actions

-- whether an action asks something of a timer: to set, cancel or update it
abbrev pub is_set : {C : Type 0} → Timer → Action C → Bool
is_set timer (Set other time content) = same_timer timer other
is_set timer (Cancel other) = same_timer timer other
is_set timer (Update other content) = same_timer timer other
is_set timer _ = false

-- whether one of the actions does
abbrev pub sets : {C : Type 0} → Timer → List (Action C) → Bool
sets {C} timer actions = list_any (λ (action : Action C). is_set timer action) actions

-- this is asked of a timer, unless a later action asks something of it
abbrev pub asked_unless : {C : Type 0} → Bool → Timer → Asked C → List (Setting C) → List (Setting C)
asked_unless later timer wanted settings = if later then settings else record { timer = timer; asked = wanted } ∷ settings

-- what is asked of timers: of each the last, in the order of these
abbrev pub settings_of : {C : Type 0} → List (Action C) → List (Setting C)
settings_of [] = []
settings_of (Reply tag content ∷ actions) = settings_of actions
settings_of (Postpone last ∷ actions) = settings_of actions
settings_of (NextEvent kind content ∷ actions) = settings_of actions
settings_of (Set timer time content ∷ actions) = asked_unless (sets timer actions) timer (asked.Set time content) (settings_of actions)
settings_of (Cancel timer ∷ actions) = asked_unless (sets timer actions) timer asked.Cancel (settings_of actions)
settings_of (Update timer content ∷ actions) = asked_unless (sets timer actions) timer (asked.Update content) (settings_of actions)
settings_of (Send target content ∷ actions) = settings_of actions
settings_of (Hibernate ∷ actions) = settings_of actions

-- what is to be sent, in the order of the actions
abbrev pub sends_of : {C : Type 0} → List (Action C) → List (MachineId × C)
sends_of [] = []
sends_of (Reply tag content ∷ actions) = sends_of actions
sends_of (Postpone last ∷ actions) = sends_of actions
sends_of (NextEvent kind content ∷ actions) = sends_of actions
sends_of (Set timer time content ∷ actions) = sends_of actions
sends_of (Cancel timer ∷ actions) = sends_of actions
sends_of (Update timer content ∷ actions) = sends_of actions
sends_of (Send target content ∷ actions) = (target, content) ∷ sends_of actions
sends_of (Hibernate ∷ actions) = sends_of actions

-- all that the actions ask for
abbrev pub plan_of : {C : Type 0} → List (Action C) → Planned C
plan_of actions = record {
  replies = replies_of actions;
  postpone = postpone_of actions;
  inserts = inserts_of actions;
  requests = settings_of actions;
  sends = sends_of actions;
}
