-- Actions that leave a list of actions, kind by kind: `Hibernate`, which has no effect, stands in their places.
use Rattle.std.specs.Prelude.{Option, Some, None, List, [], ◌∷◌}
use Rattle.st_events.specs.declared.action.Action.{Action}
use Rattle.st_events.specs.declared.action.Action.TheVariants.{Reply, Postpone, NextEvent, Set, Cancel, Update, Send, Hibernate}
use Rattle.st_events.specs.declared.asked.Asked.TheVariants as asked
use Rattle.st_events.specs.declared.insert.Insert.{Insert}
use Rattle.st_events.specs.declared.machine_id.MachineId.{MachineId}
use Rattle.st_events.specs.declared.setting.Setting.{Setting}
use Rattle.st_events.specs.declared.tag.Tag.{Tag}
use Rattle.st_events.specs.declared.timer.Timer.{Timer}

-- all that is asked of timers, in the order of the actions
abbrev pub all_settings_of : {C : Type 0} → List (Action C) → List (Setting C)
all_settings_of [] = []
all_settings_of (Reply tag content ∷ actions) = all_settings_of actions
all_settings_of (Postpone last ∷ actions) = all_settings_of actions
all_settings_of (NextEvent kind content ∷ actions) = all_settings_of actions
all_settings_of (Set timer time content ∷ actions) =
    record { timer = timer; asked = asked.Set time content } ∷ all_settings_of actions
all_settings_of (Cancel timer ∷ actions) =
    record { timer = timer; asked = asked.Cancel } ∷ all_settings_of actions
all_settings_of (Update timer content ∷ actions) =
    record { timer = timer; asked = asked.Update content } ∷ all_settings_of actions
all_settings_of (Send target content ∷ actions) = all_settings_of actions
all_settings_of (Hibernate ∷ actions) = all_settings_of actions

-- the reply that an action is
abbrev pub as_reply : {C : Type 0} → Action C → Option (Tag × C)
as_reply (Reply tag content) = Some (tag, content)
as_reply (Postpone last) = None
as_reply (NextEvent kind content) = None
as_reply (Set timer time content) = None
as_reply (Cancel timer) = None
as_reply (Update timer content) = None
as_reply (Send target content) = None
as_reply Hibernate = None

-- the event to be inserted that it is
abbrev pub as_insert : {C : Type 0} → Action C → Option (Insert C)
as_insert (Reply tag content) = None
as_insert (Postpone last) = None
as_insert (NextEvent kind content) = Some (record { kind = kind; content = content })
as_insert (Set timer time content) = None
as_insert (Cancel timer) = None
as_insert (Update timer content) = None
as_insert (Send target content) = None
as_insert Hibernate = None

-- what it asks of a timer
abbrev pub as_setting : {C : Type 0} → Action C → Option (Setting C)
as_setting (Reply tag content) = None
as_setting (Postpone last) = None
as_setting (NextEvent kind content) = None
as_setting (Set timer time content) = Some (record { timer = timer; asked = asked.Set time content })
as_setting (Cancel timer) = Some (record { timer = timer; asked = asked.Cancel })
as_setting (Update timer content) = Some (record { timer = timer; asked = asked.Update content })
as_setting (Send target content) = None
as_setting Hibernate = None

-- what it sends, and to which machine
abbrev pub as_send : {C : Type 0} → Action C → Option (MachineId × C)
as_send (Reply tag content) = None
as_send (Postpone last) = None
as_send (NextEvent kind content) = None
as_send (Set timer time content) = None
as_send (Cancel timer) = None
as_send (Update timer content) = None
as_send (Send target content) = Some (target, content)
as_send Hibernate = None

-- the timer of which it asks something
abbrev pub timer_set : {C : Type 0} → Action C → Option Timer
timer_set (Reply tag content) = None
timer_set (Postpone last) = None
timer_set (NextEvent kind content) = None
timer_set (Set timer time content) = Some timer
timer_set (Cancel timer) = Some timer
timer_set (Update timer content) = Some timer
timer_set (Send target content) = None
timer_set Hibernate = None
