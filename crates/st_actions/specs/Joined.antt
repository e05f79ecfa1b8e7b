-- What two lists of actions ask for, one after the other: those of an event, and those of the enter call
-- that follows it.
use Rattle.std.specs.Prelude.{Bool, if◌then◌else◌, List, [], ◌∷◌, ◌++◌, ◌+◌, ◌-◌, ◌≤◌, length, map}
use Rattle.std.specs.List.{list_any}
use Rattle.st_events.specs.declared.action.Action.{Action}
use Rattle.st_events.specs.declared.action.Action.TheVariants as action
use Rattle.st_events.specs.declared.enter_action.EnterAction.{EnterAction}
use Rattle.st_events.specs.declared.enter_action.EnterAction.TheVariants as enter
use Rattle.st_events.specs.declared.setting.Setting.{Setting}
use Rattle.st_events.specs.declared.timer.Timer.{Timer}
use Rattle.st_events.specs.Building.{Building}
use Rattle.st_events.specs.Timers.{same_timer}
use Rattle.st_actions.specs.declared.planned.Planned.{Planned}
use Rattle.st_actions.specs.Plan.{plan_of}

-- the action that an enter call's action is
abbrev pub as_action : {C : Type 0} → EnterAction C → Action C
as_action (enter.Reply tag content) = action.Reply tag content
as_action (enter.Set timer time content) = action.Set timer time content
as_action (enter.Cancel timer) = action.Cancel timer
as_action (enter.Update timer content) = action.Update timer content
as_action enter.Hibernate = action.Hibernate

-- the actions that an enter call's actions are
abbrev pub as_actions : {C : Type 0} → List (EnterAction C) → List (Action C)
as_actions {C} actions = map (λ (action : EnterAction C). as_action action) actions

-- all that an enter call's actions ask for
abbrev pub enter_plan_of : {C : Type 0} → List (EnterAction C) → Planned C
enter_plan_of actions = plan_of (as_actions actions)

-- whether a setting asks something of a timer
abbrev pub is_setting_of : {C : Type 0} → Timer → Setting C → Bool
is_setting_of timer setting = same_timer timer setting.timer

-- whether one of the settings asks something of a timer
abbrev pub is_set_by : {C : Type 0} → Timer → List (Setting C) → Bool
is_set_by {C} timer settings = list_any (λ (setting : Setting C). is_setting_of timer setting) settings

-- the settings whose timers the later ones leave alone, in their order
abbrev pub remaining_of : {C : Type 0} → List (Setting C) → List (Setting C) → List (Setting C)
remaining_of [] later = []
remaining_of (setting ∷ settings) later =
    if is_set_by setting.timer later
    then remaining_of settings later
    else setting ∷ remaining_of settings later

-- all that two lists ask for: the first decides whether the event is postponed, and of what is asked of one timer
-- the second list's
abbrev pub joined_of : {C : Type 0} → Planned C → Planned C → Planned C
joined_of first second = record {
  replies = first.replies ++ second.replies;
  postpone = first.postpone;
  inserts = first.inserts ++ second.inserts;
  requests = remaining_of first.requests second.requests ++ second.requests;
  sends = first.sends ++ second.sends;
}

-- two lists ask for so little that none of what they ask for together is longer than four
abbrev pub AreShort : {C : Type 0} → Planned C → Planned C → Type 0
AreShort first second =
    (length first.replies + length second.replies ≤ 4) × (length first.inserts + length second.inserts ≤ 4) × (length first.requests + length second.requests ≤ 4)
    × (length first.sends + length second.sends ≤ 4)

-- a list in the making with more elements at its end, and reserved for so many fewer
abbrev pub with_elements : {T : Type 0} → Building T → List T → Building T
with_elements old elements =
    record { items = old.items ++ elements; reserved = old.reserved - length elements }
