-- The module of a connection: what `init`, `handle`, `enters`, `enter` and `terminate` answer, an equation for each row of
-- its table.
use Rattle.std.specs.Prelude.{ℕ, Bool, true, [], ◌∷◌, None, ◌+◌, ◌*◌, ◌==◌, nat_lt, if◌then◌else◌}
use Rattle.st_events.specs.declared.action.Action.{Action}
use Rattle.st_events.specs.declared.action.Action.TheVariants.{Reply, Postpone, NextEvent, Send, Set, Cancel}
use Rattle.st_events.specs.declared.enter_action.EnterAction.TheVariants as enter_action
use Rattle.st_events.specs.declared.enter_outcome.EnterOutcome.{EnterOutcome}
use Rattle.st_events.specs.declared.enter_outcome.EnterOutcome.TheVariants as enter_outcome
use Rattle.st_events.specs.declared.init.Init.{Init}
use Rattle.st_events.specs.declared.init.Init.TheVariants as init
use Rattle.st_events.specs.declared.kind.Kind.{Kind}
use Rattle.st_events.specs.declared.kind.Kind.TheVariants.{Call, Cast, Info, Timeout}
use Rattle.st_events.specs.declared.outcome.Outcome.{Outcome}
use Rattle.st_events.specs.declared.outcome.Outcome.TheVariants.{NextState, KeepStateAndData, RepeatStateAndData, Stop}
use Rattle.st_events.specs.declared.tag.Tag.{Tag}
use Rattle.st_events.specs.declared.time.Time.TheVariants.{After}
use Rattle.st_events.specs.declared.timer.Timer.{Timer}
use Rattle.st_events.specs.declared.timer.Timer.TheVariants as timer
use Rattle.keeper_module.specs.declared.content.Content.{Content}
use Rattle.keeper_module.specs.declared.content.Content.TheVariants.{CheckOut, CheckedOut, CheckIn, Renew, Count, Counted, Connect, Close, Reclaimed, Connected, Progress, Failed, Lost, TimeOut}
use Rattle.keeper_module.specs.declared.history.History.{History}
use Rattle.keeper_module.specs.declared.link.Link.{Link}
use Rattle.keeper_module.specs.declared.link.Link.TheVariants.{Down, Connecting, Free, Busy, BackingOff}
use Rattle.keeper_module.specs.declared.place.Place.{Place}

-- what a connection's `handle` answers
abbrev pub Handled : Type 0
Handled = Outcome Link History Content

-- what a connection's `enter` answers
abbrev pub Entered : Type 0
Entered = EnterOutcome History Content

-- both stay, and nothing is asked for
abbrev pub stays : Handled
stays = KeepStateAndData []

-- the event waits for another state
abbrev pub postpones : Handled
postpones = KeepStateAndData (Postpone true ∷ [])

-- the owner is told something
abbrev pub tells : History → Content → Action Content
tells held word = Send held.place.owner word

-- the lease: a client may keep the connection for 30,000 milliseconds
abbrev pub lease_runs : Action Content
lease_runs = Set (timer.Named 1) (After 30000) TimeOut

-- the lease is no longer waited for
abbrev pub lease_ends : Action Content
lease_ends = Cancel (timer.Named 1)

-- the history with no failure
abbrev pub without_failures : History → History
without_failures held = record { place = held.place; failures = 0; pause = 1000; count = held.count }

-- the history with one failure more
abbrev pub with_failure : History → History
with_failure held = record { place = held.place; failures = held.failures + 1; pause = held.pause; count = held.count }

-- twice the pause, or 30,000 milliseconds where that is less
abbrev pub doubled : ℕ → ℕ
doubled pause = if nat_lt pause 15000 then pause * 2 else 30000

-- the history with twice the pause
abbrev pub with_longer_pause : History → History
with_longer_pause held = record { place = held.place; failures = held.failures; pause = doubled held.pause; count = held.count }

-- the history with one check-out more
abbrev pub with_check_out : History → History
with_check_out held =
    record { place = held.place; failures = held.failures; pause = held.pause; count = (if nat_lt held.count 4294967295 then held.count + 1 else held.count) }

-- an attempt to connect begins
abbrev pub connects : History → Handled
connects held = NextState Connecting held (tells held Connect ∷ [])

-- an attempt has failed: it is made again after a pause, but for the eighth in a row
abbrev pub fails : History → Handled
fails held =
    if nat_lt held.failures 7
    then NextState BackingOff (with_failure held) []
    else Stop 1 None

-- a client has the connection, for 30,000 milliseconds
abbrev pub lends : Tag → ℕ → History → Handled
lends tag client held = NextState (Busy client) (with_check_out held) (Reply tag (CheckedOut held.place.number) ∷ lease_runs ∷ [])

-- a client wants the connection
abbrev pub check_out_of : Tag → ℕ → Link → History → Handled
check_out_of tag client Down held = NextState Connecting held (Postpone true ∷ tells held Connect ∷ [])
check_out_of tag client Free held = lends tag client held
check_out_of tag client state held = postpones

-- a call; the first row that fits counts
abbrev pub call_of : Tag → Content → Link → History → Handled
call_of tag (CheckOut client) state held = check_out_of tag client state held
call_of tag Count state held = KeepStateAndData (Reply tag (Counted held.count) ∷ [])
call_of tag other state held = stays

-- a client gives the connection back: that of somebody else is not given back
abbrev pub check_in_of : ℕ → ℕ → History → Handled
check_in_of client holder held = if client == holder then NextState Free held (lease_ends ∷ []) else stays

-- a client wants the connection for longer: the lease of somebody else does not become longer
abbrev pub renew_of : ℕ → ℕ → Handled
renew_of client holder = if client == holder then KeepStateAndData (lease_runs ∷ []) else stays

-- a cast; the first row that fits counts
abbrev pub cast_of : Content → Link → History → Handled
cast_of (CheckIn client) (Busy holder) held = check_in_of client holder held
cast_of (Renew client) (Busy holder) held = renew_of client holder
cast_of other state held = stays

-- the attempt is done: the connection is free, and no failure is remembered
abbrev pub connected : History → Handled
connected held = NextState Free (without_failures held) []

-- the socket is closed while a client has it: the lease is no longer waited for, and an attempt to connect begins
abbrev pub lost : History → Handled
lost held = NextState Connecting held (lease_ends ∷ tells held Connect ∷ [])

-- the owner's word on the socket; the first row that fits counts
abbrev pub info_of : Content → Link → History → Handled
info_of Connected Connecting held = connected held
info_of Progress Connecting held = RepeatStateAndData []
info_of Failed Connecting held = fails held
info_of Lost Free held = connects held
info_of Lost (Busy holder) held = lost held
info_of other state held = stays

-- an attempt takes too long: that counts as a failure, before all that waits, and the owner is to let it be
abbrev pub overdue : History → Handled
overdue held = KeepStateAndData (NextEvent Info Failed ∷ tells held Close ∷ [])

-- the connection leaves its state, and the owner is told why
abbrev pub leaves : Link → Content → History → Handled
leaves state word held = NextState state held (tells held word ∷ [])

-- a time-out; the first row that fits counts
abbrev pub timeout_of : Timer → Link → History → Handled
timeout_of timer.State Connecting held = overdue held
timeout_of timer.State BackingOff held = connects (with_longer_pause held)
timeout_of timer.State Free held = leaves Down Close held
timeout_of (timer.Named name) (Busy holder) held = leaves Free (Reclaimed holder) held
timeout_of timer state held = stays

-- what a connection answers to an event
abbrev pub handle_of : Kind → Content → Link → History → Handled
handle_of (Call tag) asked state held = call_of tag asked state held
handle_of Cast asked state held = cast_of asked state held
handle_of Info asked state held = info_of asked state held
handle_of (Timeout timer) asked state held = timeout_of timer state held
handle_of kind asked state held = stays

-- a connection begins without a socket: the first client brings it about
abbrev pub init_of : Place → Init Link History Content
init_of place = init.Ok Down (record { place = place; failures = 0; pause = 1000; count = 0 }) []

-- a connection has enter calls
abbrev pub enters : Bool
enters = true

-- the state lasts so many milliseconds at most
abbrev pub lasts : ℕ → Entered
lasts time = enter_outcome.KeepStateAndData (enter_action.Set timer.State (After time) TimeOut ∷ [])

-- what a connection answers where a state is entered: an attempt may take 5,000 milliseconds, nobody may want a connection
-- for 60,000, and a pause is as long as the history says
abbrev pub enter_of : Link → Link → History → Entered
enter_of old Connecting held = lasts 5000
enter_of old Free held = lasts 60000
enter_of old BackingOff held = lasts held.pause
enter_of old state held = enter_outcome.KeepStateAndData []

-- a connection's last word: how often it was checked out
abbrev pub terminate_of : ℕ → Link → History → ℕ
terminate_of reason state held = held.count
