-- Machines and doors that have seen a later moment, at which nothing was due.
use Rattle.std.proofs.Common.{◌≡◌, ℕ, suc, ◌^◌, ◌<◌, ◌≤◌, ◌⊎◌, max, nat_lt, nat_le, Bool, true, false, not, ◌&&◌, List, [], ◌∷◌, Option, Some, None, Result, Ok, Err, filter, length, refl, ap, ◌∙◌, arith, inl, inr, append-nil}
use Rattle.std.proofs.lemmas.Bool.{cases_Bool}
use Rattle.st_core.specs.declared.machine_state.MachineState.{MachineState}
use Rattle.st_answers.specs.declared.command.Command.{Command}
use Rattle.st_answers.specs.declared.command.Command.TheVariants as command
use Rattle.st_answers.specs.declared.answer.Answer.{Answer}
use Rattle.st_answers.specs.declared.answer.Answer.TheVariants as answer
use Rattle.st_core.specs.Callbacks.{Callbacks, Called, called_of}
use Rattle.st_core.specs.Choice.{next_event_of}
use Rattle.st_core.specs.Post.{post_running}
use Rattle.st_core.specs.Run.{step_of}
use Rattle.st_core.specs.Stop.{stop_running, unless_ended}
use Rattle.st_core.specs.Tick.{tick_running, expiring_of, with_expiries}
use Rattle.st_core.specs.Transition.{turn_running, transition_of, with_moment, concluded, left_by, went_on, has_numbers}
use Rattle.st_answers.specs.declared.entry.Entry.{Entry}
use Rattle.st_events.specs.declared.event.Event.{Event}
use Rattle.st_events.specs.declared.refusal.Refusal.{Refusal}
use Rattle.st_timeouts.specs.declared.due.Due.{Due}
use Rattle.st_timeouts.specs.declared.due.Due.TheVariants.{Zero, At}
use Rattle.st_timeouts.specs.declared.running.Running.{Running}
use Rattle.st_timeouts.specs.Running.{is_before, is_due_by, is_zero, moment_of, put_in_order, in_order}
use Rattle.st_timeouts.specs.Timeouts.{first_of}
use Rattle.st_agenda.specs.declared.item.Item.{Item}
use Rattle.st_agenda.specs.Timing.{expiry_waits, expiring_by, next_due_among}
use Rattle.st_doors.specs.Late.{later, later_by}

pub cases_ended : (ended : Option (ℕ × ℕ)) → (ended ≡ None) ⊎ ((end : ℕ × ℕ) × (ended ≡ Some end))
cases_ended None = inl refl
cases_ended (Some end) = inr (end, refl)

module _ {S D C : Type 0} where
  -- ---- the latest moment never goes back
  latest-unless : {A : Type 0} (end : Option (ℕ × ℕ)) (refused : Refusal → A) (machine : MachineState S D C) (done : A × MachineState S D C)
      → machine.latest ≤ done.1.latest → machine.latest ≤ (unless_ended end refused machine done).1.latest
  latest-unless None refused machine done kept = kept
  latest-unless (Some end) refused machine done kept = omega arith

  latest-went_on : (machine : MachineState S D C) (number : ℕ) (called : Called S D C) → (went_on machine number called).1.latest ≡ machine.latest
  latest-went_on machine number called = elim (cases_Bool (has_numbers machine called)) [
    | inl enough ↦ rw enough refl
    | inr none ↦ rw none refl
  ]

  latest-left : {A : Type 0} (answer : Result A Refusal) (old new : MachineState S D C) → old.latest ≤ new.latest → old.latest ≤ (left_by answer old new).latest
  latest-left (Ok answer) old new grows = grows
  latest-left (Err refusal) old new grows = omega arith

  module _ (callbacks : Callbacks S D C) where
    latest-concluded : (machine : MachineState S D C) (number : ℕ) (called : Called S D C) (reason : Option ℕ)
        → (concluded callbacks machine number called reason).1.latest ≡ machine.latest
    latest-concluded machine number called None = latest-went_on machine number called
    latest-concluded machine number called (Some reason) = refl

    latest-transition : (machine : MachineState S D C) (next : Option (Event C)) → (transition_of callbacks machine next).1.latest ≡ machine.latest
    latest-transition machine None = refl
    latest-transition machine (Some event) =
        let called = called_of callbacks machine event in
        latest-concluded machine event.number called called.reason

    latest-turn : (machine : MachineState S D C) (moment : ℕ) → machine.latest ≤ (turn_running callbacks machine moment).1.latest
    latest-turn machine moment =
        let at : MachineState S D C = with_moment machine moment in
        let done = transition_of callbacks at (next_event_of at) in
        let same : done.1.latest ≡ max machine.latest moment = latest-transition at (next_event_of at) in
        elim (cases_Bool (nat_lt moment (2 ^ 63))) [
          | inl early ↦ rw early (latest-left done.0 machine done.1 (grind (arith, same)))
          | inr late ↦ rw late (omega arith)
        ]

    latest-tick : (machine : MachineState S D C) (moment : ℕ) → machine.latest ≤ (tick_running machine moment).1.latest
    latest-tick machine moment = elim (cases_Bool (nat_lt moment (2 ^ 63))) [
      | inl early ↦ rw early (grind arith)
      | inr late ↦ rw late (omega arith)
    ]

    latest-post : (machine : MachineState S D C) (entry : Entry) (content : C) → machine.latest ≤ (post_running machine entry content).1.latest
    latest-post machine entry content = elim (cases_Bool (nat_lt machine.schedule.next_number (2 ^ 63))) [
      | inl reserved ↦ rw reserved (omega arith)
      | inr full ↦ rw full (omega arith)
    ]

    pub latest-told : (machine : MachineState S D C) (command : Command C) → machine.latest ≤ (step_of callbacks machine command).1.latest
    latest-told machine (command.Post entry content) = latest-unless machine.ended _ machine (post_running machine entry content) (latest-post machine entry content)
    latest-told machine (command.Tick moment) = latest-unless machine.ended _ machine (tick_running machine moment) (latest-tick machine moment)
    latest-told machine (command.Turn moment) = latest-unless machine.ended _ machine (turn_running callbacks machine moment) (latest-turn machine moment)
    latest-told machine (command.Reply tag content) = omega arith
    latest-told machine (command.Collect tag) = omega arith
    latest-told machine (command.Stop reason) = latest-unless machine.ended _ machine (stop_running callbacks machine reason) (omega arith)
    latest-told machine command.TakeOut = omega arith

    -- ---- a machine that has ended stays so
    pub ended-told : (machine : MachineState S D C) (command : Command C) (end : ℕ × ℕ) → machine.ended ≡ Some end → (step_of callbacks machine command).1.ended ≡ Some end
    ended-told machine (command.Post entry content) end is = rw is refl
    ended-told machine (command.Tick moment) end is = rw is refl
    ended-told machine (command.Turn moment) end is = rw is refl
    ended-told machine (command.Reply tag content) end is = is
    ended-told machine (command.Collect tag) end is = is
    ended-told machine (command.Stop reason) end is = rw is refl
    ended-told machine command.TakeOut end is = is

  -- ---- a machine that has seen a moment
  ended-later_by : (end : Option (ℕ × ℕ)) (moment : ℕ) (machine : MachineState S D C) → (later_by end moment machine).ended ≡ machine.ended
  ended-later_by None moment machine = refl
  ended-later_by (Some end) moment machine = refl

  pub ended-later : (moment : ℕ) (machine : MachineState S D C) → (later moment machine).ended ≡ machine.ended
  ended-later moment machine = ended-later_by machine.ended moment machine

  seen-by : (end : Option (ℕ × ℕ)) (moment : ℕ) (machine : MachineState S D C) → moment ≤ machine.latest → later_by end moment machine ≡ machine
  seen-by None moment machine seen =
      let same : max machine.latest moment ≡ machine.latest = grind (arith, seen) in
      ap (λ (latest : ℕ). record machine { latest = latest }) same
  seen-by (Some end) moment machine seen = refl

  -- what was seen comes to nothing
  pub later-seen : (moment : ℕ) (machine : MachineState S D C) → moment ≤ machine.latest → later moment machine ≡ machine
  later-seen moment machine seen = seen-by machine.ended moment machine seen

  pub later-ended : (moment : ℕ) (machine : MachineState S D C) (end : ℕ × ℕ) → machine.ended ≡ Some end → later moment machine ≡ machine
  later-ended moment machine end is = rw is refl

  saw-by : (end : Option (ℕ × ℕ)) (moment : ℕ) (machine : MachineState S D C) → end ≡ None → later_by end moment machine ≡ machine → moment ≤ machine.latest
  saw-by None moment machine runs same =
      let most : max machine.latest moment ≡ machine.latest = ap (λ (m : MachineState S D C). m.latest) same in
      grind (arith, most)
  saw-by (Some end) moment machine runs same = cc

  -- a machine that runs and is as it would be has seen the moment
  pub later-saw : (moment : ℕ) (machine : MachineState S D C) → machine.ended ≡ None → later moment machine ≡ machine → moment ≤ machine.latest
  later-saw moment machine runs same = saw-by machine.ended moment machine runs same

  -- a machine that has seen a moment has seen it after each command too
  pub later-told : (callbacks : Callbacks S D C) (machine : MachineState S D C) (command : Command C) (moment : ℕ) → later moment machine ≡ machine
      → later moment (step_of callbacks machine command).1 ≡ (step_of callbacks machine command).1
  later-told callbacks machine command moment same =
      let new : MachineState S D C = (step_of callbacks machine command).1 in
      let grows : machine.latest ≤ new.latest = latest-told callbacks machine command in
      elim (cases_ended machine.ended) [
        | inl runs ↦ let seen : moment ≤ machine.latest = saw-by machine.ended moment machine runs same in seen-by new.ended moment new (omega (arith, seen, grows))
        | inr ended ↦ rw (ended-told callbacks machine command ended.0 ended.1) refl
      ]

  -- ---- moments that follow one another
  with_moment-twice : (first second : ℕ) (machine : MachineState S D C) → first ≤ second → with_moment (with_moment machine first) second ≡ with_moment machine second
  with_moment-twice first second machine order =
      let same : max (max machine.latest first) second ≡ max machine.latest second = grind (arith, order) in
      ap (λ (latest : ℕ). record machine { latest = latest }) same

  later-twice-by : (end : Option (ℕ × ℕ)) (first second : ℕ) (machine : MachineState S D C) → first ≤ second
      → later_by end second (later_by end first machine) ≡ later_by end second machine
  later-twice-by None first second machine order = with_moment-twice first second machine order
  later-twice-by (Some end) first second machine order = refl

  pub later-twice : (first second : ℕ) (machine : MachineState S D C) → first ≤ second → later second (later first machine) ≡ later second machine
  later-twice first second machine order =
      ap (λ (end : Option (ℕ × ℕ)). later_by end second (later first machine)) (ended-later first machine) ∙ later-twice-by machine.ended first second machine order

  -- ---- a tick
  tick-running-later : (machine : MachineState S D C) (first second : ℕ) → first ≤ second → second < 2 ^ 63
      → tick_running (with_moment machine first) second ≡ tick_running machine second
  tick-running-later machine first second order below =
      let early : nat_lt second (2 ^ 63) ≡ true = grind (arith, below) in
      rw early (ap (λ (at : MachineState S D C). (Ok (length (expiring_of at)), with_expiries at)) (with_moment-twice first second machine order))

  -- what a tick comes to, by the end of the machine
  abbrev ticked : Option (ℕ × ℕ) → MachineState S D C → ℕ → Answer S C × MachineState S D C
  ticked end machine moment =
      let told = unless_ended end (λ (refusal : Refusal). Err refusal) machine (tick_running machine moment) in
      (answer.Tick told.0, told.1)

  ticked-later : (end : Option (ℕ × ℕ)) (machine : MachineState S D C) (first second : ℕ) → first ≤ second → second < 2 ^ 63
      → ticked end (later_by end first machine) second ≡ ticked end machine second
  ticked-later None machine first second order below =
      ap (λ (told : Result ℕ Refusal × MachineState S D C). (answer.Tick told.0, told.1)) (tick-running-later machine first second order below)
  ticked-later (Some end) machine first second order below = refl

  -- is the same where a moment before it was not seen
  pub tick-later : (callbacks : Callbacks S D C) (machine : MachineState S D C) (first second : ℕ) → first ≤ second → second < 2 ^ 63
      → step_of callbacks (later first machine) (command.Tick second) ≡ step_of callbacks machine (command.Tick second)
  tick-later callbacks machine first second order below =
      ap (λ (end : Option (ℕ × ℕ)). ticked end (later first machine) second) (ended-later first machine) ∙ ticked-later machine.ended machine first second order below

  none-expires : (machine : MachineState S D C) → expiring_of machine ≡ [] → with_expiries machine ≡ machine
  none-expires machine none =
      rw none (ap (λ (pending : List (Item C)). record machine { schedule = record machine.schedule { pending = pending } }) (append-nil machine.schedule.pending))

  both : (count : ℕ) (new at : MachineState S D C) → count ≡ 0 → new ≡ at → ◌≡◌ {A = Result ℕ Refusal × MachineState S D C} (Ok count, new) (Ok 0, at)
  both count new at none same = rw (none, same) refl

  running-nothing : (machine : MachineState S D C) (moment : ℕ) → moment < 2 ^ 63 → expiring_of (with_moment machine moment) ≡ []
      → tick_running machine moment ≡ (Ok 0, with_moment machine moment)
  running-nothing machine moment below none =
      let early : nat_lt moment (2 ^ 63) ≡ true = grind (arith, below) in
      let at : MachineState S D C = with_moment machine moment in
      rw early (both (length (expiring_of at)) (with_expiries at) at (ap (λ (all : List (Running C)). length all) none) (none-expires at none))

  ticked-nothing : (end : Option (ℕ × ℕ)) (machine : MachineState S D C) (moment : ℕ) → end ≡ None → moment < 2 ^ 63 → expiring_of (with_moment machine moment) ≡ []
      → ticked end machine moment ≡ (answer.Tick (Ok 0), later_by end moment machine)
  ticked-nothing None machine moment runs below none =
      ap (λ (told : Result ℕ Refusal × MachineState S D C). (answer.Tick told.0, told.1)) (running-nothing machine moment below none)
  ticked-nothing (Some end) machine moment runs below none = cc

  -- at which nothing expires comes to a later moment
  pub tick-nothing : (callbacks : Callbacks S D C) (machine : MachineState S D C) (moment : ℕ) → machine.ended ≡ None → moment < 2 ^ 63 → expiring_of (with_moment machine moment) ≡ []
      → step_of callbacks machine (command.Tick moment) ≡ (answer.Tick (Ok 0), later moment machine)
  tick-nothing callbacks machine moment runs below none = ticked-nothing machine.ended machine moment runs below none

expires-by : (now : ℕ) (due : Due) (waits : Bool) → (is_due_by now due && not waits) ≡ true → ((not (is_zero due) && not waits) ≡ true) × (moment_of due ≤ now)
expires-by now Zero waits is = cc
expires-by now (At moment) true is = elim (cases_Bool (nat_le moment now)) [
  | inl less ↦ let never = rw less at is in cc
  | inr more ↦ let never = rw more at is in cc
]
expires-by now (At moment) false is = elim (cases_Bool (nat_le moment now)) [
  | inl less ↦ (refl, grind (arith, less))
  | inr more ↦ let never = rw more at is in cc
]

module _ {C : Type 0} where
  -- ---- the first of what is due
  put-first : (x : Running C) (ys : List (Running C)) (m : Running C) → first_of (put_in_order x ys) ≡ Some m
      → (moment_of m.due ≤ moment_of x.due) × ((y : Running C) → first_of ys ≡ Some y → moment_of m.due ≤ moment_of y.due)
  put-first x [] m first = let same : x ≡ m = cc in (rw same (omega arith), λ y none. cc)
  put-first x (y ∷ ys) m first = elim (cases_Bool (is_before x y)) [
    | inl before ↦
        let found = rw before at first in
        let same : x ≡ m = cc in
        let order : moment_of x.due ≤ moment_of y.due = grind (arith, before) in
        (rw same (omega arith), λ z is. let it : y ≡ z = cc in rw (← it, ← same) order)
    | inr after ↦
        let found = rw after at first in
        let same : y ≡ m = cc in
        let order : moment_of y.due ≤ moment_of x.due = grind (arith, after) in
        (rw (← same) order, λ z is. let it : y ≡ z = cc in rw (← it, ← same) (omega arith))
  ]

  put-some : (x : Running C) (ys : List (Running C)) → (y : Running C) × (first_of (put_in_order x ys) ≡ Some y)
  put-some x [] = (x, refl)
  put-some x (y ∷ ys) = elim (cases_Bool (is_before x y)) [
    | inl before ↦ (x, rw before refl)
    | inr after ↦ (y, rw after refl)
  ]

  -- none of these is due before a moment
  abbrev pub AreFrom : ℕ → List (Running C) → Type 0
  AreFrom due [] = Unit {0}
  AreFrom due (one ∷ others) = (due ≤ moment_of one.due) × AreFrom due others

  from-lower : (low due : ℕ) (running : List (Running C)) → low ≤ due → AreFrom due running → AreFrom low running
  from-lower low due [] less from = tt
  from-lower low due (one ∷ others) less from = (omega (arith, less, from.0), from-lower low due others less from.1)

  first-least : (running : List (Running C)) (m : Running C) → first_of (in_order running) ≡ Some m → AreFrom (moment_of m.due) running
  first-least [] m first = cc
  first-least (one ∷ []) m first = let same : one ≡ m = cc in (rw same (omega arith), tt)
  first-least (one ∷ (two ∷ others)) m first =
      let some = put-some two (in_order others) in
      let least = put-first one (in_order (two ∷ others)) m first in
      (least.0, from-lower (moment_of m.due) (moment_of some.0.due) (two ∷ others) (least.1 some.0 some.1) (first-least (two ∷ others) some.0 some.1))

  -- whether a time-out's expiry is to come at some moment
  abbrev waits_on : List (Item C) → Running C → Bool
  waits_on items one = not (is_zero one.due) && not (expiry_waits one.timer items)

  abbrev expires_by : ℕ → List (Item C) → Running C → Bool
  expires_by now items one = is_due_by now one.due && not (expiry_waits one.timer items)

  none-due : (now due : ℕ) (items : List (Item C)) (running : List (Running C)) → now < due → AreFrom due (filter (waits_on items) running)
      → filter (expires_by now items) running ≡ []
  none-due now due items [] less from = refl
  none-due now due items (one ∷ others) less from = elim (cases_Bool (expires_by now items one)) [
    | inl expires ↦
        let is = expires-by now one.due (expiry_waits one.timer items) expires in
        let here = rw is.0 at from in
        let early : due ≤ moment_of one.due = here.0 in
        absurd (omega (arith, less, early, is.1))
    | inr not_yet ↦ elim (cases_Bool (waits_on items one)) [
      | inl waits ↦ rw not_yet (none-due now due items others less (rw waits at from).1)
      | inr gone ↦ rw not_yet (none-due now due items others less (rw gone at from))
    ]
  ]

  in_order-none : (running : List (Running C)) → first_of (in_order running) ≡ None → running ≡ []
  in_order-none [] none = refl
  in_order-none (one ∷ others) none = let some = put-some one (in_order others) in let is = some.1 in cc

  -- before the next moment at which one is due none expires
  pub nothing-expires : (now due : ℕ) (items : List (Item C)) (running : List (Running C)) → next_due_among items running ≡ Some due → now < due → expiring_by now items running ≡ []
  nothing-expires now due items running next less = by_first (first_of (in_order (filter (waits_on items) running))) refl
    where
      by_first : (first : Option (Running C)) → first_of (in_order (filter (waits_on items) running)) ≡ first → expiring_by now items running ≡ []
      by_first None is = let none = rw is at next in cc
      by_first (Some m) is =
          let some = rw is at next in
          let same : moment_of m.due ≡ due = cc in
          let from = first-least (filter (waits_on items) running) m is in
          ap in_order (none-due now due items running less (rw (← same) from))

  pub nothing-ever : (now : ℕ) (items : List (Item C)) (running : List (Running C)) → next_due_among items running ≡ None → expiring_by now items running ≡ []
  nothing-ever now items running next = by_first (first_of (in_order (filter (waits_on items) running))) refl
    where
      by_first : (first : Option (Running C)) → first_of (in_order (filter (waits_on items) running)) ≡ first → expiring_by now items running ≡ []
      by_first None is =
          let empty : filter (waits_on items) running ≡ [] = in_order-none (filter (waits_on items) running) is in
          ap in_order (none-due now (suc now) items running (omega arith) (rw empty tt))
      by_first (Some m) is = let some = rw is at next in cc
