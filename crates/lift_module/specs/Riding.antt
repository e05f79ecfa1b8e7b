-- The cabin's module: what `init`, `handle`, `enters`, `enter` and `terminate` answer, an equation for each row of its
-- tables.
use Rattle.std.specs.Prelude.{ℕ, Bool, true, List, [], ◌∷◌, Option, None, Some, ◌+◌, ◌==◌, ◌-◌, nat_lt, if◌then◌else◌}
use Rattle.st_events.specs.declared.action.Action.{Action}
use Rattle.st_events.specs.declared.action.Action.TheVariants.{Reply, Postpone, Send, Set, Cancel, Update}
use Rattle.st_events.specs.declared.enter_action.EnterAction.TheVariants as enter_action
use Rattle.st_events.specs.declared.enter_outcome.EnterOutcome.{EnterOutcome}
use Rattle.st_events.specs.declared.enter_outcome.EnterOutcome.TheVariants as enter_outcome
use Rattle.st_events.specs.declared.init.Init.{Init}
use Rattle.st_events.specs.declared.init.Init.TheVariants as init
use Rattle.st_events.specs.declared.kind.Kind.{Kind}
use Rattle.st_events.specs.declared.kind.Kind.TheVariants.{Call, Timeout}
use Rattle.st_events.specs.declared.machine_id.MachineId.{MachineId}
use Rattle.st_events.specs.declared.outcome.Outcome.{Outcome}
use Rattle.st_events.specs.declared.outcome.Outcome.TheVariants.{NextState, KeepState, KeepStateAndData, RepeatState}
use Rattle.st_events.specs.declared.tag.Tag.{Tag}
use Rattle.st_events.specs.declared.time.Time.TheVariants.{After}
use Rattle.st_events.specs.declared.timer.Timer.TheVariants as timer
use Rattle.lift_module.specs.declared.content.Content.{Content}
use Rattle.lift_module.specs.declared.content.Content.TheVariants.{Go, Arrived, Failed, Close, OpenUp, Opened, Closed, Park, Halt}
use Rattle.lift_module.specs.declared.journey.Journey.{Journey}
use Rattle.lift_module.specs.declared.motion.Motion.{Motion}
use Rattle.lift_module.specs.declared.motion.Motion.TheVariants.{Resting, Leaving, Moving, Stopped}

-- what a cabin's `handle` answers
abbrev pub Handled : Type 0
Handled = Outcome Motion Journey Content

-- what a cabin's `enter` answers
abbrev pub Entered : Type 0
Entered = EnterOutcome Journey Content

-- what is asked for
abbrev pub Asks : Type 0
Asks = List (Action Content)

-- both stay, and nothing is asked for
abbrev pub stays : Handled
stays = KeepStateAndData []

-- the event waits for another state
abbrev pub postpones : Handled
postpones = KeepStateAndData (Postpone true ∷ [])

-- the parking is no longer waited for
abbrev pub no_parking : Action Content
no_parking = Cancel (timer.Named 1)

-- the caller, if there is one, gets a reply
abbrev pub replies : Option Tag → Content → Asks
replies None content = []
replies (Some tag) content = Reply tag content ∷ []

-- the journey to this floor, for this caller, with two more tries
abbrev pub journey_to : Option Tag → ℕ → Journey → Journey
journey_to caller target held =
    record { door = held.door; floor = held.floor; target = target; caller = caller; tries = 2 }

-- the journey with one try less
abbrev pub with_try : Journey → Journey
with_try held =
    record { door = held.door; floor = held.floor; target = held.target; caller = held.caller; tries = held.tries - 1 }

-- the journey at this floor
abbrev pub at_floor : Journey → ℕ → Journey
at_floor held floor =
    record { door = held.door; floor = floor; target = held.target; caller = held.caller; tries = held.tries }

-- the journey at its target, this floor, with two more tries
abbrev pub at_target : Journey → ℕ → Journey
at_target held floor =
    record { door = held.door; floor = floor; target = held.target; caller = held.caller; tries = 2 }

-- the journey that nobody waits for any more
abbrev pub at_rest : Journey → Journey
at_rest held =
    record { door = held.door; floor = held.floor; target = held.target; caller = None; tries = held.tries }

-- it is to go to another floor: the door is to close first
abbrev pub leaves : Option Tag → ℕ → Journey → Handled
leaves caller target held = NextState Leaving (journey_to caller target held) (no_parking ∷ Send held.door Close ∷ [])

-- who waits for a cabin that is halted is told, and the parking is no longer waited for
abbrev pub last_asks : Option Tag → Asks
last_asks None = no_parking ∷ []
last_asks (Some tag) = Reply tag Failed ∷ no_parking ∷ []

-- it stays where it is, for good
abbrev pub halts : Journey → Handled
halts held = NextState Stopped held (last_asks held.caller)

-- the door did not close in time: it is told again, so many times
abbrev pub tries_again : Journey → Handled
tries_again held =
    if held.tries == 0
    then halts held
    else RepeatState (with_try held) (Send held.door Close ∷ [])

-- the next floor on its way
abbrev pub nearer : Journey → ℕ
nearer held = if nat_lt held.floor held.target then held.floor + 1 else held.floor - 1

-- it is at its floor: the door is told to open, and waited for 5,000 milliseconds
abbrev pub opens : Journey → Handled
opens held = KeepState held (Send held.door OpenUp ∷ Set timer.State (After 5000) OpenUp ∷ [])

-- the door did not open in time: it is told again, so many times
abbrev pub opens_again : Journey → Handled
opens_again held =
    if held.tries == 0
    then halts held
    else opens (with_try held)

-- it is at the next floor: the door is to open, or it moves on
abbrev pub passes : Journey → Handled
passes held =
    if nearer held == held.target
    then opens (at_target held (nearer held))
    else RepeatState (at_floor held (nearer held)) []

-- who waited for it is told, and it is to park at floor 0 after 60,000 milliseconds; where it has parked nobody waited
abbrev pub rests : Option Tag → Asks
rests None = []
rests (Some tag) = Reply tag Arrived ∷ Set (timer.Named 1) (After 60000) (Go 0) ∷ []

-- the door is open at its floor
abbrev pub arrives : Journey → Handled
arrives held = NextState Resting (at_rest held) (rests held.caller)

-- the door is open: where the cabin is not at its floor somebody opened it
abbrev pub opened : Journey → Handled
opened held =
    if held.floor == held.target
    then arrives held
    else halts held

-- it is wanted at a floor, where it is, or to which it goes
abbrev pub wanted : Tag → ℕ → Journey → Handled
wanted tag floor held =
    if floor == held.floor
    then KeepStateAndData (Reply tag Arrived ∷ [])
    else leaves (Some tag) floor held

-- a call to a floor; the first row that fits counts
abbrev pub call_of : Tag → ℕ → Motion → Journey → Handled
call_of tag floor Resting held = wanted tag floor held
call_of tag floor Stopped held = KeepStateAndData (Reply tag Failed ∷ [])
call_of tag floor state held = postpones

-- nobody wants it: it parks
abbrev pub parks : ℕ → Journey → Handled
parks floor held =
    if floor == held.floor
    then stays
    else leaves None floor held

-- a time-out: that of the door, that of a floor, or that of the parking
abbrev pub timeout_of : Content → Motion → Journey → Handled
timeout_of Close Leaving held = tries_again held
timeout_of Arrived Moving held = passes held
timeout_of OpenUp Moving held = opens_again held
timeout_of (Go floor) Resting held = parks floor held
timeout_of content state held = stays

-- it is told something, by the door or from outside; the first row that fits counts
abbrev pub told_of : Content → Motion → Journey → Handled
told_of content Stopped held = stays
told_of Halt state held = halts held
told_of Closed Leaving held = NextState Moving held []
told_of Opened Moving held = opened held
told_of (Park floor) Resting held = KeepStateAndData (Update (timer.Named 1) (Go floor) ∷ [])
told_of (Park floor) state held = postpones
told_of content state held = stays

-- what a cabin answers to an event
abbrev pub handle_of : Kind → Content → Motion → Journey → Handled
handle_of (Call tag) (Go floor) state held = call_of tag floor state held
handle_of (Timeout timer) content state held = timeout_of content state held
handle_of kind content state held = told_of content state held

-- a cabin begins at floor 0, with its door open
abbrev pub init_of : MachineId → Init Motion Journey Content
init_of door = init.Ok Resting (record { door = door; floor = 0; target = 0; caller = None; tries = 2 }) []

-- a cabin has enter calls
abbrev pub enters : Bool
enters = true

-- what a cabin answers where a state is entered: the door is waited for 5,000 milliseconds, a floor takes 2,000
abbrev pub enter_of : Motion → Motion → Journey → Entered
enter_of old Leaving held = enter_outcome.KeepStateAndData (enter_action.Set timer.State (After 5000) Close ∷ [])
enter_of old Moving held = enter_outcome.KeepStateAndData (enter_action.Set timer.State (After 2000) Arrived ∷ [])
enter_of old state held = enter_outcome.KeepStateAndData []

-- a cabin's last word: its floor
abbrev pub terminate_of : ℕ → Motion → Journey → ℕ
terminate_of reason state held = held.floor
