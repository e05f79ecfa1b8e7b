-- The mailbox module: what `init`, `handle`, `enters`, `enter` and `terminate` answer, an equation for each row of its
-- tables.
use Rattle.std.specs.Prelude.{ℕ, Bool, true, List, [], ◌∷◌, None, ◌+◌, ◌==◌, ◌-◌, ◌&&◌, nat_lt, if◌then◌else◌}
use Rattle.st_events.specs.declared.action.Action.{Action}
use Rattle.st_events.specs.declared.action.Action.TheVariants.{Reply, Postpone, Send, Set, Cancel}
use Rattle.st_events.specs.declared.enter_action.EnterAction.TheVariants as enter_action
use Rattle.st_events.specs.declared.enter_outcome.EnterOutcome.{EnterOutcome}
use Rattle.st_events.specs.declared.enter_outcome.EnterOutcome.TheVariants as enter_outcome
use Rattle.st_events.specs.declared.init.Init.{Init}
use Rattle.st_events.specs.declared.init.Init.TheVariants as init
use Rattle.st_events.specs.declared.kind.Kind.{Kind}
use Rattle.st_events.specs.declared.kind.Kind.TheVariants.{Call, Info, Timeout}
use Rattle.st_events.specs.declared.outcome.Outcome.{Outcome}
use Rattle.st_events.specs.declared.outcome.Outcome.TheVariants.{NextState, KeepState, KeepStateAndData, Stop}
use Rattle.st_events.specs.declared.tag.Tag.{Tag}
use Rattle.st_events.specs.declared.time.Time.TheVariants.{After}
use Rattle.st_events.specs.declared.timer.Timer.{Timer}
use Rattle.st_events.specs.declared.timer.Timer.TheVariants as timer
use Rattle.mail_module.specs.declared.answer.Answer.{Answer}
use Rattle.mail_module.specs.declared.answer.Answer.TheVariants.{Ready, Fine, Mails, Mail, Bye, Not}
use Rattle.mail_module.specs.declared.command.Command.{Command}
use Rattle.mail_module.specs.declared.command.Command.TheVariants.{User, Pass, Stat, Take, Noop, Quit, Unknown}
use Rattle.mail_module.specs.declared.content.Content.{Content}
use Rattle.mail_module.specs.declared.content.Content.TheVariants.{Asked, Said, Done, TimeOut}
use Rattle.mail_module.specs.declared.fault.Fault.TheVariants as fault
use Rattle.mail_module.specs.declared.mailbox.Mailbox.{Mailbox}
use Rattle.mail_module.specs.declared.phase.Phase.{Phase}
use Rattle.mail_module.specs.declared.phase.Phase.TheVariants.{Greeted, Named, Open, Busy, Closing}
use Rattle.mail_module.specs.declared.session.Session.{Session}

-- what a mailbox's `handle` answers
abbrev pub Handled : Type 0
Handled = Outcome Phase Session Content

-- what a mailbox's `enter` answers
abbrev pub Entered : Type 0
Entered = EnterOutcome Session Content

-- what is asked for
abbrev pub Asks : Type 0
Asks = List (Action Content)

-- the event time-out: 30,000 milliseconds in which no event came
abbrev pub idle_runs : Action Content
idle_runs = Set timer.Event (After 30000) TimeOut

-- the time-out of the login, from the greeting on: 60,000 milliseconds, whatever comes
abbrev pub login_runs : Action Content
login_runs = Set (timer.Named 1) (After 60000) TimeOut

-- a call is answered
abbrev pub says : Tag → Answer → Action Content
says tag answer = Reply tag (Said answer)

-- the client is told something that answers no call
abbrev pub tells : Session → Answer → Action Content
tells held answer = Send held.mailbox.client (Said answer)

-- a call is answered, and the client is waited for
abbrev pub answers : Tag → Answer → Asks
answers tag answer = says tag answer ∷ idle_runs ∷ []

-- both stay, a call is answered
abbrev pub keeps : Tag → Answer → Handled
keeps tag answer = KeepStateAndData (answers tag answer)

-- the last word to the client is said
abbrev pub closes : Session → Action Content → Handled
closes held last = NextState Closing held (last ∷ [])

-- the session with this name
abbrev pub with_user : Session → ℕ → Session
with_user held user = record { mailbox = held.mailbox; user = user; tries = held.tries }

-- the session with so many wrong PINs left
abbrev pub with_tries : Session → ℕ → Session
with_tries held tries = record { mailbox = held.mailbox; user = held.user; tries = tries }

-- whether this PIN opens the mailbox
abbrev pub is_right : Session → ℕ → Bool
is_right held pin = held.user == held.mailbox.owner && pin == held.mailbox.pin

-- whether there is a mail of this number
abbrev pub has_mail : Session → ℕ → Bool
has_mail held number = nat_lt 0 number && nat_lt number (held.mailbox.mails + 1)

-- a wrong PIN: the last one ends it
abbrev pub wrong : Tag → Session → Handled
wrong tag held =
    if held.tries - 1 == 0
    then closes held (says tag (Not fault.Wrong))
    else KeepState (with_tries held (held.tries - 1)) (answers tag (Not fault.Wrong))

-- a PIN: the right one opens the mailbox, and the time of the login is no longer counted
abbrev pub passed : Tag → ℕ → Session → Handled
passed tag pin held =
    if is_right held pin
    then NextState Open held (Cancel (timer.Named 1) ∷ answers tag Fine)
    else wrong tag held

-- a mail is wanted: it is being taken, where there is one
abbrev pub wanted : Tag → ℕ → Session → Handled
wanted tag number held =
    if has_mail held number
    then NextState (Busy (record { tag = tag; number = number })) held []
    else keeps tag (Not fault.NoMail)

-- a command of the client; the first row that fits counts
abbrev pub call_of : Tag → Command → Phase → Session → Handled
call_of tag command (Busy take) held = KeepStateAndData (Postpone true ∷ [])
call_of tag command Closing held = KeepStateAndData (says tag (Not fault.Closing) ∷ [])
call_of tag Quit state held = closes held (says tag Bye)
call_of tag Unknown state held = keeps tag (Not fault.NoCommand)
call_of tag (User user) Greeted held = NextState Named (with_user held user) (answers tag Fine)
call_of tag (Pass pin) Named held = passed tag pin held
call_of tag Stat Open held = keeps tag (Mails held.mailbox.mails)
call_of tag Noop Open held = keeps tag Fine
call_of tag (Take number) Open held = wanted tag number held
call_of tag command state held = keeps tag (Not fault.NotNow)

-- a time-out; the first row that fits counts
abbrev pub timeout_of : Timer → Phase → Session → Handled
timeout_of timer.State Closing held = Stop 0 None
timeout_of timer.State (Busy take) held = closes held (says take.tag (Not fault.Idle))
timeout_of timer.Event Greeted held = closes held (tells held (Not fault.Idle))
timeout_of timer.Event Named held = closes held (tells held (Not fault.Idle))
timeout_of timer.Event Open held = closes held (tells held (Not fault.Idle))
timeout_of (timer.Named name) Greeted held = closes held (tells held (Not fault.Late))
timeout_of (timer.Named name) Named held = closes held (tells held (Not fault.Late))
timeout_of timer state held = KeepStateAndData []

-- an event that means nothing here: the client is still waited for
abbrev pub stray_of : Phase → Handled
stray_of (Busy take) = KeepStateAndData []
stray_of Closing = KeepStateAndData []
stray_of state = KeepStateAndData (idle_runs ∷ [])

-- the mail that is being taken is there: its call is answered, and the commands that waited come
abbrev pub info_of : Content → Phase → Session → Handled
info_of Done (Busy take) held = NextState Open held (answers take.tag (Mail take.number))
info_of content state held = stray_of state

-- what a mailbox answers to an event
abbrev pub handle_of : Kind → Content → Phase → Session → Handled
handle_of (Call tag) (Asked command) state held = call_of tag command state held
handle_of (Timeout timer) content state held = timeout_of timer state held
handle_of Info content state held = info_of content state held
handle_of kind content state held = stray_of state

-- a mailbox greets the client, and the times run
abbrev pub init_of : Mailbox → Init Phase Session Content
init_of mailbox =
    init.Ok Greeted (record { mailbox = mailbox; user = 0; tries = 3 })
    (Send mailbox.client (Said Ready) ∷ login_runs ∷ idle_runs ∷ [])

-- a mailbox has enter calls
abbrev pub enters : Bool
enters = true

-- what a mailbox answers where a state is entered: a mail is waited for 30,000 milliseconds, and what closes stops at once
abbrev pub enter_of : Phase → Phase → Session → Entered
enter_of old (Busy take) held = enter_outcome.KeepStateAndData (enter_action.Set timer.State (After 30000) TimeOut ∷ [])
enter_of old Closing held = enter_outcome.KeepStateAndData (enter_action.Set timer.State (After 0) TimeOut ∷ [])
enter_of old state held = enter_outcome.KeepStateAndData []

-- a mailbox's last word: the client's name
abbrev pub terminate_of : ℕ → Phase → Session → ℕ
terminate_of reason state held = held.user
