-- What the module of the load does with each kind of work.
use Rattle.std.specs.Prelude.{ℕ, zero, suc, Bool, true, false, List, [], ◌∷◌, ◌++◌, ◌+◌, ◌-◌, ◌==◌, nat_lt, if◌then◌else◌}
use Rattle.st_events.specs.declared.action.Action.{Action}
use Rattle.st_events.specs.declared.action.Action.TheVariants as action
use Rattle.st_events.specs.declared.kind.Kind.{Kind}
use Rattle.st_events.specs.declared.kind.Kind.TheVariants as kind
use Rattle.st_events.specs.declared.outcome.Outcome.{Outcome}
use Rattle.st_events.specs.declared.outcome.Outcome.TheVariants as outcome
use Rattle.st_events.specs.declared.time.Time.TheVariants as time
use Rattle.st_events.specs.declared.timer.Timer.TheVariants as timer
use Rattle.bench.specs.declared.load.Work.{Work}
use Rattle.bench.specs.declared.load.Work.TheVariants as work

-- the named timers below a number are set, from 0 on, far into the future
abbrev pub settings_below : ℕ → List (Action Work)
settings_below zero = []
settings_below (suc number) = settings_below number ++ action.Set (timer.Named number) (time.After 1000000000) work.Keep ∷ []

-- so many events are inserted
abbrev pub inserts_of : ℕ → List (Action Work)
inserts_of zero = []
inserts_of (suc count) = inserts_of count ++ action.NextEvent kind.Internal work.Keep ∷ []

-- a call is answered, and nothing else
abbrev pub answer_to : Kind → List (Action Work)
answer_to asked = elim asked as (λ k. List (Action Work)) [
  | kind.Call tag ↦ action.Reply tag work.Keep ∷ []
  | kind.Cast ↦ []
  | kind.Info ↦ []
  | kind.Timeout timer ↦ []
  | kind.Internal ↦ []
]

-- the place that follows one in a ring, whose last place this is
abbrev pub next_place : ℕ → ℕ → ℕ
next_place here last = if nat_lt here last then here + 1 else 0

-- a message is sent to the next machine of the ring, unless it was passed on often enough
abbrev pub passed : ℕ → ℕ → ℕ → List (Action Work)
passed left here last =
    let next = next_place here last in
    if left == 0 then [] else action.Send (record { slot = next; serial = next + 1 }) (work.Pass (left - 1) next last) ∷ []

-- the actions that a piece of work asks for in a state
abbrev pub actions_of : Kind → Work → ℕ → List (Action Work)
actions_of asked content state = elim content as (λ w. List (Action Work)) [
  | work.Keep ↦ []
  | work.PutOffBefore last ↦ (if nat_lt state last then action.Postpone true ∷ [] else [])
  | work.Next ↦ []
  | work.Answer ↦ answer_to asked
  | work.SetMany count ↦ settings_below count
  | work.InsertMany count ↦ inserts_of count
  | work.Set number after ↦ action.Set (timer.Named number) (time.After after) work.Keep ∷ []
  | work.Cancel number ↦ action.Set (timer.Named number) time.Infinity work.Keep ∷ []
  | work.Update number ↦ action.Update (timer.Named number) work.Keep ∷ []
  | work.Send serial ↦ action.Send (record { slot = 0; serial = serial }) work.Keep ∷ []
  | work.Pass left here last ↦ passed left here last
]

-- whether a piece of work leads to another state
abbrev pub leads_on : Work → ℕ → Bool
leads_on content state = elim content as (λ w. Bool) [
  | work.Keep ↦ false
  | work.PutOffBefore last ↦ false
  | work.Next ↦ nat_lt state 4294967295
  | work.Answer ↦ false
  | work.SetMany count ↦ false
  | work.InsertMany count ↦ false
  | work.Set number after ↦ false
  | work.Cancel number ↦ false
  | work.Update number ↦ false
  | work.Send serial ↦ false
  | work.Pass left here last ↦ false
]

-- the outcome: the next state, or both are kept
abbrev pub loaded : Kind → Work → ℕ → Outcome ℕ ℕ Work
loaded asked content state =
    if leads_on content state then outcome.NextState (state + 1) 0 (actions_of asked content state) else outcome.KeepStateAndData (actions_of asked content state)
