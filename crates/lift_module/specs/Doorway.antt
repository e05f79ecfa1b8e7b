-- The door's module: what `init`, `handle`, `enters`, `enter` and `terminate` answer, an equation for each row of its
-- table.
use Rattle.std.specs.Prelude.{ℕ, Bool, true, List, [], ◌∷◌}
use Rattle.st_events.specs.declared.action.Action.{Action}
use Rattle.st_events.specs.declared.action.Action.TheVariants.{Send, NextEvent}
use Rattle.st_events.specs.declared.enter_action.EnterAction.TheVariants as enter_action
use Rattle.st_events.specs.declared.enter_outcome.EnterOutcome.{EnterOutcome}
use Rattle.st_events.specs.declared.enter_outcome.EnterOutcome.TheVariants as enter_outcome
use Rattle.st_events.specs.declared.init.Init.{Init}
use Rattle.st_events.specs.declared.init.Init.TheVariants as init
use Rattle.st_events.specs.declared.kind.Kind.{Kind}
use Rattle.st_events.specs.declared.kind.Kind.TheVariants.{Timeout, Internal}
use Rattle.st_events.specs.declared.machine_id.MachineId.{MachineId}
use Rattle.st_events.specs.declared.outcome.Outcome.{Outcome}
use Rattle.st_events.specs.declared.outcome.Outcome.TheVariants.{NextState, KeepStateAndData}
use Rattle.st_events.specs.declared.time.Time.TheVariants.{After}
use Rattle.st_events.specs.declared.timer.Timer.TheVariants as timer
use Rattle.lift_module.specs.declared.content.Content.{Content}
use Rattle.lift_module.specs.declared.content.Content.TheVariants.{Close, OpenUp, Opened, Closed, Blocked}
use Rattle.lift_module.specs.declared.gap.Gap.{Gap}
use Rattle.lift_module.specs.declared.gap.Gap.TheVariants.{Open, Closing, Shut}

-- what a door's `handle` answers
abbrev pub Handled : Type 0
Handled = Outcome Gap MachineId Content

-- what a door's `enter` answers
abbrev pub Entered : Type 0
Entered = EnterOutcome MachineId Content

-- both stay, and nothing is asked for
abbrev pub stays : Handled
stays = KeepStateAndData []

-- the cabin is told something
abbrev pub tells : MachineId → Content → List (Action Content)
tells cabin content = Send cabin content ∷ []

-- the door is told something; the first row that fits counts
abbrev pub told_of : Content → Gap → MachineId → Handled
told_of Close Open cabin = NextState Closing cabin []
told_of Close Shut cabin = KeepStateAndData (tells cabin Closed)
told_of OpenUp state cabin = NextState Open cabin (tells cabin Opened)
told_of Blocked Closing cabin = NextState Open cabin (NextEvent Internal Close ∷ [])
told_of content state cabin = stays

-- what a door answers to an event: a time-out closes it where it is closing
abbrev pub handle_of : Kind → Content → Gap → MachineId → Handled
handle_of (Timeout timer) content Closing cabin = NextState Shut cabin (tells cabin Closed)
handle_of (Timeout timer) content state cabin = stays
handle_of kind content state cabin = told_of content state cabin

-- a door begins open
abbrev pub init_of : MachineId → Init Gap MachineId Content
init_of cabin = init.Ok Open cabin []

-- a door has enter calls
abbrev pub enters : Bool
enters = true

-- what a door answers where a state is entered: it takes 1,000 milliseconds to close
abbrev pub enter_of : Gap → Gap → MachineId → Entered
enter_of old Closing cabin = enter_outcome.KeepStateAndData (enter_action.Set timer.State (After 1000) Closed ∷ [])
enter_of old state cabin = enter_outcome.KeepStateAndData []

-- a door's last word: whether it is closed
abbrev pub terminate_of : ℕ → Gap → MachineId → ℕ
terminate_of reason Shut cabin = 1
terminate_of reason state cabin = 0
