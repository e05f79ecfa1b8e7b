-- The door module: what `init`, `handle`, `enters`, `enter` and `terminate` answer, an equation for each
-- row of its tables.
use Rattle.std.specs.Prelude.{ℕ, Bool, true, false, List, [], ◌∷◌, ◌++◌, drop, length, nat_lt, bytes_eq, if◌then◌else◌}
use Rattle.st_events.specs.declared.action.Action.{Action}
use Rattle.st_events.specs.declared.action.Action.TheVariants.{Reply, Postpone, Send, Set}
use Rattle.st_events.specs.declared.enter_action.EnterAction.{EnterAction}
use Rattle.st_events.specs.declared.enter_action.EnterAction.TheVariants as enter_action
use Rattle.st_events.specs.declared.enter_outcome.EnterOutcome.{EnterOutcome}
use Rattle.st_events.specs.declared.enter_outcome.EnterOutcome.TheVariants as enter_outcome
use Rattle.st_events.specs.declared.init.Init.{Init}
use Rattle.st_events.specs.declared.init.Init.TheVariants as init
use Rattle.st_events.specs.declared.kind.Kind.{Kind}
use Rattle.st_events.specs.declared.kind.Kind.TheVariants.{Call, Cast, Info, Timeout, Internal}
use Rattle.st_events.specs.declared.outcome.Outcome.{Outcome}
use Rattle.st_events.specs.declared.outcome.Outcome.TheVariants.{NextState, KeepStateAndData}
use Rattle.st_events.specs.declared.tag.Tag.{Tag}
use Rattle.st_events.specs.declared.time.Time.TheVariants.{After}
use Rattle.st_events.specs.declared.timer.Timer.{Timer}
use Rattle.st_events.specs.declared.timer.Timer.TheVariants as timer
use Rattle.st_doors.specs.declared.door_content.DoorContent.{DoorContent}
use Rattle.st_doors.specs.declared.door_content.DoorContent.TheVariants.{Button, CodeLength, Length, Nothing, Relay}
use Rattle.st_doors.specs.declared.door_data.DoorData.{DoorData}
use Rattle.st_doors.specs.declared.door_state.DoorState.{DoorState}
use Rattle.st_doors.specs.declared.door_state.DoorState.TheVariants.{Locked, Open}

-- what a door's `handle` answers
abbrev pub DoorOutcome : Type 0
DoorOutcome = Outcome DoorState DoorData DoorContent

-- what a door's `enter` answers
abbrev pub DoorEntered : Type 0
DoorEntered = EnterOutcome DoorData DoorContent

-- a door with this code begins locked, with no button pressed
abbrev pub init_of : List ℕ → Init DoorState DoorData DoorContent
init_of code = init.Ok Locked (record { code = code; buttons = [] }) []

-- the buttons after one more: where there are as many as the code has digits, the first one goes
abbrev pub with_button : List ℕ → List ℕ → ℕ → List ℕ
with_button code buttons digit =
    if nat_lt (length buttons) (length code) then buttons ++ digit ∷ [] else drop 1 buttons ++ digit ∷ []

-- the data with the same code and no button
abbrev pub without_buttons : DoorData → DoorData
without_buttons held = record { code = held.code; buttons = [] }

-- the event time-out: the buttons are forgotten after 30,000 milliseconds in which no event came
abbrev pub buttons_run_out : Action DoorContent
buttons_run_out = Set timer.Event (After 30000) Nothing

-- the state time-out: an open door is locked again after 10,000 milliseconds
abbrev pub locks_again : EnterAction DoorContent
locks_again = enter_action.Set timer.State (After 10000) Nothing

-- a locked door opens where its buttons are the code, and else keeps them
abbrev pub unlocked_by : DoorData → List ℕ → DoorOutcome
unlocked_by held buttons =
    if bytes_eq buttons held.code
    then NextState Open (without_buttons held) []
    else NextState Locked (record { code = held.code; buttons = buttons }) (buttons_run_out ∷ [])

-- a button of a locked door
abbrev pub pressed : DoorData → ℕ → DoorOutcome
pressed held digit = unlocked_by held (with_button held.code held.buttons digit)

-- a cast: a button counts while the door is locked, and is postponed while it is open; one that is to be relayed is sent
-- on
abbrev pub cast_of : DoorContent → DoorState → DoorData → DoorOutcome
cast_of (Button digit) Locked held = pressed held digit
cast_of (Button digit) Open held = KeepStateAndData (Postpone true ∷ [])
cast_of CodeLength state held = KeepStateAndData []
cast_of (Length digits) state held = KeepStateAndData []
cast_of Nothing state held = KeepStateAndData []
cast_of (Relay target digit) state held = KeepStateAndData (Send target (Button digit) ∷ [])

-- an info: a button is as one that is cast
abbrev pub info_of : DoorContent → DoorState → DoorData → DoorOutcome
info_of (Button digit) state held = cast_of (Button digit) state held
info_of CodeLength state held = KeepStateAndData []
info_of (Length digits) state held = KeepStateAndData []
info_of Nothing state held = KeepStateAndData []
info_of (Relay target digit) state held = KeepStateAndData []

-- a time-out: that of the event makes a locked door forget its buttons, that of the state locks an open one
abbrev pub timeout_of : Timer → DoorState → DoorData → DoorOutcome
timeout_of timer.Event Locked held = NextState Locked (without_buttons held) []
timeout_of timer.State Open held = NextState Locked held []
timeout_of _ _ held = KeepStateAndData []

-- a call: the length of the code is told
abbrev pub call_of : Tag → DoorContent → DoorData → DoorOutcome
call_of tag CodeLength held = KeepStateAndData (Reply tag (Length (length held.code)) ∷ [])
call_of tag (Button digit) held = KeepStateAndData []
call_of tag (Length digits) held = KeepStateAndData []
call_of tag Nothing held = KeepStateAndData []
call_of tag (Relay target digit) held = KeepStateAndData []

-- what a door answers to an event
abbrev pub handle_of : Kind → DoorContent → DoorState → DoorData → DoorOutcome
handle_of (Call tag) content state held = call_of tag content held
handle_of Cast content state held = cast_of content state held
handle_of Info content state held = info_of content state held
handle_of (Timeout timer) content state held = timeout_of timer state held
handle_of Internal content state held = KeepStateAndData []

-- a door has enter calls
abbrev pub enters : Bool
enters = true

-- what a door answers where a state is entered: a locked one has no button, and an open one is to be locked again
abbrev pub enter_of : DoorState → DoorState → DoorData → DoorEntered
enter_of old Locked held = enter_outcome.KeepState (without_buttons held) []
enter_of old Open held = enter_outcome.KeepStateAndData (locks_again ∷ [])

-- a door's last word: how many buttons count
abbrev pub terminate_of : ℕ → DoorState → DoorData → ℕ
terminate_of reason state held = length held.buttons

-- whether two states of a door are the same
abbrev pub is_same_state : DoorState → DoorState → Bool
is_same_state Locked Locked = true
is_same_state Open Open = true
is_same_state Locked Open = false
is_same_state Open Locked = false
