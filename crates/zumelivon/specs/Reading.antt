-- What the numbers and bytes that a host hands in mean. Whether they mean anything is said apart (`is_..`): where they
-- do not, the meaning is of no account.
use Rattle.std.specs.Prelude.{ℕ, Bool, false, List, [], Option, None, Some, ◌+◌, ◌-◌, ◌==◌, ◌&&◌, ◌||◌, not, nat_lt, nat_le, length, map, slice_range, if◌then◌else◌}
use Rattle.std.specs.List.{list_all}
use Rattle.st_answers.specs.declared.entry.Entry.{Entry}
use Rattle.st_answers.specs.declared.entry.Entry.TheVariants as entry
use Rattle.st_events.specs.declared.action.Action.{Action}
use Rattle.st_events.specs.declared.action.Action.TheVariants as action
use Rattle.st_events.specs.declared.enter_action.EnterAction.{EnterAction}
use Rattle.st_events.specs.declared.enter_action.EnterAction.TheVariants as enter
use Rattle.st_events.specs.declared.kind.Kind.{Kind}
use Rattle.st_events.specs.declared.kind.Kind.TheVariants as kind
use Rattle.st_events.specs.declared.machine_id.MachineId.{MachineId}
use Rattle.st_events.specs.declared.tag.Tag.{Tag}
use Rattle.st_events.specs.declared.time.Time.{Time}
use Rattle.st_events.specs.declared.time.Time.TheVariants.{After, Infinity}
use Rattle.st_events.specs.declared.timer.Timer.{Timer}
use Rattle.st_events.specs.declared.timer.Timer.TheVariants as timer
use Rattle.st_hosted.specs.declared.begin.Begin.{Begin}
use Rattle.st_hosted.specs.declared.host_answer.HostAnswer.{HostAnswer}
use Rattle.st_hosted.specs.declared.host_entered.HostEntered.{HostEntered}
use Rattle.st_hosted.specs.declared.host_entered.HostEntered.TheVariants as entered
use Rattle.st_hosted.specs.declared.host_outcome.HostOutcome.{HostOutcome}
use Rattle.st_hosted.specs.declared.host_outcome.HostOutcome.TheVariants as outcome
use Rattle.st_hosted.specs.declared.payload.Payload.{Payload}
use Rattle.zumelivon.specs.declared.flat_action.FlatAction.{FlatAction}
use Rattle.zumelivon.specs.declared.flat_answer.FlatAnswer.{FlatAnswer}
use Rattle.zumelivon.specs.declared.flat_begin.FlatBegin.{FlatBegin}

-- ---- single numbers

-- a way to post an event
abbrev pub is_entry : ℕ → Bool
is_entry n = nat_lt n 3

abbrev pub entry_in : ℕ → Entry
entry_in n = if n == 0 then entry.Call else (if n == 1 then entry.Cast else entry.Info)

abbrev pub is_timer : ℕ → Bool
is_timer n = nat_lt n 3

abbrev pub timer_in : ℕ → ℕ → Timer
timer_in n name = if n == 0 then timer.Event else (if n == 1 then timer.State else timer.Named name)

-- the machine of a number
abbrev pub id_in : ℕ → MachineId
id_in number = record { slot = 0; serial = number }

-- ---- contents

-- so many bytes are there from a place on
abbrev pub is_within : List ℕ → ℕ → ℕ → Bool
is_within bytes from count = nat_le from (length bytes) && nat_le count (length bytes - from)

abbrev pub payload_in : List ℕ → FlatAction → Payload
payload_in bytes it = record { code = it.code; bytes = slice_range bytes it.from (it.from + it.length) }

abbrev pub has_content : List ℕ → FlatAction → Bool
has_content bytes it = is_within bytes it.from it.length

-- ---- actions

abbrev pub tag_in : FlatAction → Tag
tag_in it = record { machine = id_in it.machine; request = it.request }

abbrev pub time_in : FlatAction → Time
time_in it = if it.infinite == 0 then After it.time else Infinity

abbrev pub timer_of : FlatAction → Timer
timer_of it = timer_in it.timer it.name

abbrev pub is_kind : FlatAction → Bool
is_kind it = nat_lt it.kind 3 || (it.kind == 4) || ((it.kind == 3) && is_timer it.timer)

abbrev pub kind_in : FlatAction → Kind
kind_in it =
    if it.kind == 0 then kind.Call (tag_in it) else (
    if it.kind == 1 then kind.Cast else (
    if it.kind == 2 then kind.Info else (
    if it.kind == 3 then kind.Timeout (timer_of it) else kind.Internal)))

-- the content of an action is there, where it has one
abbrev pub has_its_content : List ℕ → FlatAction → Bool
has_its_content bytes it = (it.what == 2) || (it.what == 5) || (it.what == 8) || has_content bytes it

-- the timer of an action is one, where it has one
abbrev pub has_its_timer : FlatAction → Bool
has_its_timer it = not (nat_le 4 it.what && nat_le it.what 6) || is_timer it.timer

abbrev pub is_action : List ℕ → FlatAction → Bool
is_action bytes it =
    nat_le 1 it.what && (nat_lt it.what 9 && (has_its_content bytes it && (has_its_timer it && (not (it.what == 3) || is_kind it))))

unfoldable pub action_in : List ℕ → FlatAction → Action Payload
action_in bytes it =
    if it.what == 1 then action.Reply (tag_in it) (payload_in bytes it) else (
    if it.what == 2 then action.Postpone (not (it.postpone == 0)) else (
    if it.what == 3 then action.NextEvent (kind_in it) (payload_in bytes it) else (
    if it.what == 4 then action.Set (timer_of it) (time_in it) (payload_in bytes it) else (
    if it.what == 5 then action.Cancel (timer_of it) else (
    if it.what == 6 then action.Update (timer_of it) (payload_in bytes it) else (
    if it.what == 7 then action.Send (id_in it.machine) (payload_in bytes it) else action.Hibernate))))))

-- an enter call has no postponing, no inserted event and no message
abbrev pub is_enter_action : List ℕ → FlatAction → Bool
is_enter_action bytes it = is_action bytes it && (not (it.what == 2) && (not (it.what == 3) && not (it.what == 7)))

abbrev pub enter_action_in : List ℕ → FlatAction → EnterAction Payload
enter_action_in bytes it =
    if it.what == 1 then enter.Reply (tag_in it) (payload_in bytes it) else (
    if it.what == 4 then enter.Set (timer_of it) (time_in it) (payload_in bytes it) else (
    if it.what == 5 then enter.Cancel (timer_of it) else (
    if it.what == 6 then enter.Update (timer_of it) (payload_in bytes it) else enter.Hibernate)))

-- behind a stop only replies are asked for
abbrev pub is_reply : List ℕ → FlatAction → Bool
is_reply bytes it = (it.what == 1) && has_content bytes it

abbrev pub reply_in : List ℕ → FlatAction → Tag × Payload
reply_in bytes it = (tag_in it, payload_in bytes it)

-- ---- answers

abbrev pub data_in : FlatAnswer → Option ℕ
data_in it = if it.has_data == 0 then None else Some it.«data»

-- which actions an answer to an event may have: a stop none, one with replies these alone, and the others any
abbrev pub is_outcome : List ℕ → FlatAnswer → List FlatAction → Bool
is_outcome bytes it actions =
    if it.what == 7 then list_all (is_reply bytes) actions else (
    if it.what == 6 then length actions == 0 else
    (nat_le 1 it.what && (nat_lt it.what 6 && list_all (is_action bytes) actions)))

abbrev pub outcome_in : List ℕ → FlatAnswer → List FlatAction → HostOutcome
outcome_in bytes it actions =
    if it.what == 1 then outcome.NextState it.state it.«data» (map (action_in bytes) actions) else (
    if it.what == 2 then outcome.KeepState it.«data» (map (action_in bytes) actions) else (
    if it.what == 3 then outcome.KeepStateAndData (map (action_in bytes) actions) else (
    if it.what == 4 then outcome.RepeatState it.«data» (map (action_in bytes) actions) else (
    if it.what == 5 then outcome.RepeatStateAndData (map (action_in bytes) actions) else (
    if it.what == 6 then outcome.Stop it.reason (data_in it) else
    outcome.StopAndReply it.reason (map (reply_in bytes) actions) (data_in it))))))

-- an enter call is answered by nothing, by keeping, or by a stop
abbrev pub is_entered : List ℕ → FlatAnswer → List FlatAction → Bool
is_entered bytes it actions =
    if it.what == 7 then list_all (is_reply bytes) actions else (
    if (it.what == 0) || (it.what == 6) then length actions == 0 else
    (((it.what == 2) || (it.what == 3)) && list_all (is_enter_action bytes) actions))

abbrev pub entered_in : List ℕ → FlatAnswer → List FlatAction → Option HostEntered
entered_in bytes it actions =
    if it.what == 0 then None else (
    if it.what == 2 then Some (entered.KeepState it.«data» (map (enter_action_in bytes) actions)) else (
    if it.what == 3 then Some (entered.KeepStateAndData (map (enter_action_in bytes) actions)) else (
    if it.what == 6 then Some (entered.Stop it.reason (data_in it)) else
    Some (entered.StopAndReply it.reason (map (reply_in bytes) actions) (data_in it)))))

-- ---- what a turn and a start are handed

-- the answer to an event and the one to the enter call that it leads to, with their actions, their bytes and a last word
pub record Handed : Type 0 where
  pub handled : FlatAnswer
  pub actions : List FlatAction
  pub entered : FlatAnswer
  pub enter_actions : List FlatAction
  pub bytes : List ℕ
  pub word : ℕ

abbrev pub is_answer : Handed → Bool
is_answer it = is_outcome it.bytes it.handled it.actions && is_entered it.bytes it.entered it.enter_actions

abbrev pub answer_in : Handed → HostAnswer
answer_in it = record {
  enters = false;
  outcome = outcome_in it.bytes it.handled it.actions;
  entered = entered_in it.bytes it.entered it.enter_actions;
  word = it.word;
}

-- how a machine begins
abbrev pub begin_in : List ℕ → FlatBegin → List FlatAction → Begin
begin_in bytes it actions = record { state = it.state; «data» = it.«data»; actions = map (action_in bytes) actions }

-- the answers of a start: that to its first enter call
abbrev pub first_answer_in : List ℕ → FlatBegin → FlatAnswer → List FlatAction → HostAnswer
first_answer_in bytes it entered enter_actions = record {
  enters = not (it.enters == 0);
  outcome = outcome.KeepStateAndData [];
  entered = entered_in bytes entered enter_actions;
  word = it.word;
}
