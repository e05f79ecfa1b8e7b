-- The module of the examples and of the tests, by a table: states, data and contents are numbers. It stands
-- here because the clauses of a test can name nothing else.
use Rattle.std.specs.Prelude.{ℕ, Bool, ◌==◌, nat_le, if◌then◌else◌, true, false, Some, None, List, [], ◌∷◌}
use Rattle.st_events.specs.declared.action.Action.{Action}
use Rattle.st_events.specs.declared.action.Action.TheVariants.{Reply, Postpone, NextEvent, Set, Cancel, Update, Send, Hibernate}
use Rattle.st_events.specs.declared.enter_action.EnterAction.{EnterAction}
use Rattle.st_events.specs.declared.enter_action.EnterAction.TheVariants as enter_action
use Rattle.st_events.specs.declared.enter_outcome.EnterOutcome.{EnterOutcome}
use Rattle.st_events.specs.declared.enter_outcome.EnterOutcome.TheVariants as enter
use Rattle.st_events.specs.declared.init.Init.{Init}
use Rattle.st_events.specs.declared.init.Init.TheVariants as init
use Rattle.st_events.specs.declared.kind.Kind.TheVariants.{Cast, Internal}
use Rattle.st_events.specs.declared.machine_id.MachineId.{MachineId}
use Rattle.st_events.specs.declared.outcome.Outcome.{Outcome}
use Rattle.st_events.specs.declared.outcome.Outcome.TheVariants.{NextState, KeepState, KeepStateAndData, RepeatState, RepeatStateAndData, Stop, StopAndReply}
use Rattle.st_events.specs.declared.tag.Tag.{Tag}
use Rattle.st_events.specs.declared.time.Time.TheVariants.{After, Infinity}
use Rattle.st_events.specs.declared.timer.Timer.TheVariants as timer

-- the request to which the table replies
abbrev pub first_tag : Tag
first_tag = record { machine = record { slot = 0; serial = 1 }; request = 1 }

-- another request to the same machine
abbrev pub second_tag : Tag
second_tag = record { machine = record { slot = 0; serial = 1 }; request = 2 }

-- a third request to the same machine
abbrev pub third_tag : Tag
third_tag = record { machine = record { slot = 0; serial = 1 }; request = 3 }

-- a request to another machine
abbrev pub foreign_tag : Tag
foreign_tag = record { machine = record { slot = 0; serial = 2 }; request = 1 }

-- another machine
abbrev pub other_machine : MachineId
other_machine = record { slot = 1; serial = 2 }

-- a third machine
abbrev pub third_machine : MachineId
third_machine = record { slot = 2; serial = 3 }

-- five actions, one more than a list holds without memory
abbrev pub five_actions : List (Action ℕ)
five_actions = Hibernate ∷ Hibernate ∷ Hibernate ∷ Hibernate ∷ Hibernate ∷ []

-- two events are inserted, which the table keeps
abbrev pub two_inserts : List (Action ℕ)
two_inserts = NextEvent Internal 20 ∷ NextEvent Cast 21 ∷ []

-- nine actions, of each kind one or more
abbrev pub actions_of_each_kind : List (Action ℕ)
actions_of_each_kind =
    Set (timer.Named 1) (After 5) 0 ∷ Reply second_tag 54 ∷ NextEvent Internal 20 ∷ Postpone true ∷ Hibernate
    ∷ Set timer.State (After 10) 0 ∷ NextEvent Cast 21 ∷ Set (timer.Named 1) (After 7) 0 ∷ Reply first_tag 55 ∷ []

-- five replies, one more than a list holds without memory
abbrev pub five_replies : List (Tag × ℕ)
five_replies = (third_tag, 57) ∷ (first_tag, 40) ∷ (foreign_tag, 58) ∷ (second_tag, 51) ∷ (third_tag, 59) ∷ []

-- six requests to timers, and a message: of two for one timer the last decides
abbrev pub six_requests : List (Action ℕ)
six_requests =
    Update (timer.Named 1) 4 ∷ Set (timer.Named 5) (After 20) 0 ∷ Cancel (timer.Named 1) ∷ Send foreign_tag.machine 0
    ∷ Update (timer.Named 5) 3 ∷ Update timer.State 4 ∷ []

-- two messages, with another action between
abbrev pub two_sends : List (Action ℕ)
two_sends = Send other_machine 5 ∷ Postpone false ∷ Send third_machine 6 ∷ []

-- a message, a setting of a timer and an insert
abbrev pub send_set_insert : List (Action ℕ)
send_set_insert = Send other_machine 7 ∷ Set (timer.Named 5) (After 5) 0 ∷ NextEvent Internal 20 ∷ []

-- five messages, one more than a list holds without memory, the fourth to the machine itself
abbrev pub five_sends : List (Action ℕ)
five_sends =
    Send other_machine 1 ∷ Send third_machine 2 ∷ Send other_machine 3 ∷ Send first_tag.machine 4 ∷ Send foreign_tag.machine 5 ∷ []

-- what `handle` answers to the contents that send
abbrev pub handled_by_sending : ℕ → ℕ → Outcome ℕ ℕ ℕ
handled_by_sending content held =
    if content == 52 then KeepStateAndData two_sends
    else (if content == 53 then NextState 1 held send_set_insert
    else (if content == 54 then KeepStateAndData five_sends
    else (if content == 55 then KeepStateAndData (Send other_machine 8 ∷ [])
    else KeepStateAndData [])))

-- what `handle` answers to the contents that update and cancel
abbrev pub handled_by_updating : ℕ → ℕ → Outcome ℕ ℕ ℕ
handled_by_updating content held =
    if content == 43 then KeepStateAndData (Update (timer.Named 5) 4 ∷ [])
    else (if content == 44 then KeepStateAndData (Set (timer.Named 5) (After 20) 0 ∷ Update (timer.Named 5) 4 ∷ [])
    else (if content == 45 then KeepStateAndData (Update (timer.Named 5) 4 ∷ Set (timer.Named 5) (After 20) 0 ∷ [])
    else (if content == 46 then KeepStateAndData (Cancel (timer.Named 5) ∷ [])
    else (if content == 47 then KeepStateAndData (Set (timer.Named 5) (After 10) 0 ∷ [])
    else (if content == 48 then KeepStateAndData (Update timer.Event 4 ∷ [])
    else (if content == 49 then KeepStateAndData (Update timer.State 4 ∷ [])
    else (if content == 50 then NextState 1 held (Update timer.State 4 ∷ [])
    else (if content == 51 then KeepStateAndData six_requests
    else handled_by_sending content held))))))))

-- what `handle` answers to the contents that ask for more than a list holds without memory
abbrev pub handled_at_length : ℕ → ℕ → Outcome ℕ ℕ ℕ
handled_at_length content held =
    if content == 41 then NextState 1 held actions_of_each_kind
    else (if content == 42 then StopAndReply 9 five_replies None
    else handled_by_updating content held)

-- what `handle` answers to the contents that reply
abbrev pub handled_by_replying : ℕ → ℕ → Outcome ℕ ℕ ℕ
handled_by_replying content held =
    if content == 37 then StopAndReply 9 ((first_tag, 40) ∷ (second_tag, 51) ∷ []) None
    else (if content == 38 then NextState 1 held (Reply second_tag 52 ∷ [])
    else (if content == 39 then KeepStateAndData (Reply first_tag 50 ∷ Reply first_tag 51 ∷ [])
    else (if content == 40 then KeepStateAndData (Reply foreign_tag 53 ∷ [])
    else handled_at_length content held)))

-- what `handle` answers to the contents that have a state entered
abbrev pub handled_by_entering : ℕ → ℕ → Outcome ℕ ℕ ℕ
handled_by_entering content held =
    if content == 32 then RepeatStateAndData []
    else (if content == 33 then RepeatState 9 []
    else (if content == 34 then NextState 2 9 []
    else (if content == 35 then NextState 1 held (Postpone true ∷ Set (timer.Named 1) (After 5) 0 ∷ Set timer.State (After 10) 0 ∷ Set (timer.Named 2) (After 5) 0 ∷ [])
    else (if content == 36 then RepeatStateAndData (Postpone true ∷ [])
    else handled_by_replying content held))))

-- what `handle` answers to the contents that set timers
abbrev pub handled_by_setting : ℕ → ℕ → Outcome ℕ ℕ ℕ
handled_by_setting content held =
    if content == 22 then KeepStateAndData (Set timer.State (After 0) 0 ∷ Set timer.Event (After 0) 0 ∷ [])
    else (if content == 23 then KeepStateAndData (Set timer.Event (After 0) 0 ∷ Set timer.State (After 0) 0 ∷ [])
    else (if content == 24 then KeepStateAndData (Set (timer.Named 5) Infinity 0 ∷ [])
    else (if content == 25 then KeepStateAndData (Set (timer.Named 1) (After 0) 0 ∷ NextEvent Internal 26 ∷ [])
    else (if content == 26 then KeepStateAndData (Set (timer.Named 1) (After 5) 0 ∷ [])
    else (if content == 27 then NextState 1 held (Set timer.State (After 10) 0 ∷ [])
    else (if content == 28 then KeepStateAndData (Set timer.State (After 5) 0 ∷ [])
    else (if content == 29 then KeepStateAndData (Set timer.Event (After 5) 0 ∷ [])
    else (if content == 30 then KeepStateAndData (Set (timer.Named 2) (After 0) 10 ∷ [])
    else (if content == 31 then KeepStateAndData (Set (timer.Named 1) (After 5) 0 ∷ Set (timer.Named 1) (After 7) 0 ∷ [])
    else handled_by_entering content held)))))))))

-- what `handle` answers in any state, where the content is not one of those of the first state
abbrev pub handled_anywhere : ℕ → ℕ → Outcome ℕ ℕ ℕ
handled_anywhere content held =
    if content == 3 then NextState 1 held []
    else (if content == 4 then KeepState 9 []
    else (if content == 5 then KeepStateAndData (Reply first_tag 50 ∷ Hibernate ∷ [])
    else (if content == 6 then KeepStateAndData five_actions
    else (if content == 7 then KeepStateAndData two_inserts
    else (if content == 8 then KeepStateAndData (NextEvent Internal 7 ∷ NextEvent Cast 21 ∷ [])
    else (if content == 9 then NextState 0 held []
    else (if content == 15 then Stop 9 None
    else (if content == 16 then Stop 9 (Some 8)
    else (if content == 17 then StopAndReply 9 ((first_tag, 40) ∷ []) (Some 8)
    else handled_by_setting content held)))))))))

-- what `handle` answers in the first state
abbrev pub handled_at_first : ℕ → ℕ → Outcome ℕ ℕ ℕ
handled_at_first content held =
    if content == 10 then KeepStateAndData (Postpone true ∷ [])
    else (if content == 11 then NextState 1 held (Postpone true ∷ two_inserts)
    else (if content == 12 then KeepStateAndData (Postpone true ∷ two_inserts)
    else (if content == 13 then KeepStateAndData (Postpone false ∷ Postpone true ∷ [])
    else (if content == 14 then KeepStateAndData (Postpone true ∷ Postpone false ∷ [])
    else handled_anywhere content held))))

-- what `handle` answers to a content, in a state, with data
abbrev pub handled_by_table : ℕ → ℕ → ℕ → Outcome ℕ ℕ ℕ
handled_by_table content state held =
    if state == 0 then handled_at_first content held else handled_anywhere content held

-- whether the module with this number has enter calls
abbrev pub enters_by_table : ℕ → Bool
enters_by_table number = nat_le 60 number

-- the actions of the module 62's enter call
abbrev pub entering_actions : List (EnterAction ℕ)
entering_actions = enter_action.Reply first_tag 60 ∷ enter_action.Set timer.State (After 20) 0 ∷ enter_action.Set (timer.Named 1) (After 9) 0 ∷ []

-- five actions of an enter call
abbrev pub five_enter_actions : List (EnterAction ℕ)
five_enter_actions = enter_action.Hibernate ∷ enter_action.Hibernate ∷ enter_action.Hibernate ∷ enter_action.Hibernate ∷ enter_action.Hibernate ∷ []

-- six actions of the module 66's enter call, of each kind one or more
abbrev pub enter_actions_of_each_kind : List (EnterAction ℕ)
enter_actions_of_each_kind =
    enter_action.Set (timer.Named 2) (After 3) 0 ∷ enter_action.Reply third_tag 63 ∷ enter_action.Hibernate
    ∷ enter_action.Set timer.State (After 20) 0 ∷ enter_action.Set (timer.Named 2) (After 9) 0 ∷ enter_action.Reply first_tag 64 ∷ []

-- what `enter` answers where a state is come to from another
abbrev pub changed_by_table : ℕ → ℕ → ℕ → EnterOutcome ℕ ℕ
changed_by_table number old held =
    if number == 61 then enter.KeepState (if old == 0 then 31 else 32) []
    else (if number == 71 then enter.StopAndReply 4 ((first_tag, 61) ∷ []) (Some 8)
    else (if number == 72 then enter.Stop 4 None
    else (if number == 73 then enter.StopAndReply 4 five_replies (Some 8)
    else (if number == 66 then enter.KeepStateAndData enter_actions_of_each_kind
    else (if number == 67 then enter.KeepStateAndData (enter_action.Update (timer.Named 5) 4 ∷ [])
    else (if number == 68 then enter.KeepStateAndData (enter_action.Cancel (timer.Named 5) ∷ [])
    else (if number == 65 then enter.KeepStateAndData (enter_action.Reply first_tag 62 ∷ [])
    else enter.KeepStateAndData [])))))))

-- what `enter` of the module with this number answers, for the old state and the new, with data
abbrev pub entered_by_table : ℕ → ℕ → ℕ → ℕ → EnterOutcome ℕ ℕ
entered_by_table number old state held =
    if number == 62 then enter.KeepStateAndData entering_actions
    else (if number == 63 then enter.KeepStateAndData five_enter_actions
    else (if number == 64 then enter.KeepState (if held == 9 then 40 else 41) []
    else (if number == 70 then enter.Stop 4 None
    else (if old == state then enter.KeepStateAndData []
    else changed_by_table number old held))))

-- three timers are set, two of them for the same time
abbrev pub three_settings : List (Action ℕ)
three_settings =
    Set (timer.Named 1) (After 20) 0 ∷ Set (timer.Named 2) (After 10) 0 ∷ Set (timer.Named 3) (After 20) 0 ∷ []

-- what `init` answers to an argument
abbrev pub begun_by_table : ℕ → Init ℕ ℕ ℕ
begun_by_table arg =
    if arg == 0 then init.Ok 0 7 []
    else (if arg == 1 then init.Ignore
    else (if arg == 2 then init.Ok 0 7 five_actions
    else (if arg == 3 then init.Ok 0 7 (Postpone true ∷ two_inserts)
    else (if arg == 5 then init.Ok 0 7 (Set (timer.Named 5) (After 5) 0 ∷ [])
    else (if arg == 6 then init.Ok 0 7 (Set (timer.Named 1) (After 4294967295) 0 ∷ [])
    else (if arg == 7 then init.Ok 0 7 three_settings
    else (if arg == 8 then init.Ok 0 7 (Set (timer.Named 1) (After 0) 0 ∷ two_inserts)
    else (if arg == 9 then init.Ok 0 7 actions_of_each_kind
    else (if arg == 10 then init.Ok 0 7 (Update (timer.Named 5) 4 ∷ [])
    else (if arg == 11 then init.Ok 0 7 (Set (timer.Named 5) (After 5) 43 ∷ [])
    else (if arg == 12 then init.Ok 0 7 (Send other_machine 5 ∷ [])
    else init.Stop arg)))))))))))
