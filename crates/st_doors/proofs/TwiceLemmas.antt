-- Doors that were ticked at a moment: nothing of them is due by it, so that a second tick at it changes nothing.
use Rattle.std.proofs.Common.{◌≡◌, ℕ, zero, suc, ◌+◌, ◌^◌, ◌<◌, ◌≤◌, max, nat_lt, Bool, true, false, cond, not, ◌&&◌, List, [], ◌∷◌, ◌++◌, Option, Some, None, Ok, filter, length, get_or, set, map, refl, ap, ◌∙◌, arith, inl, inr}
use Rattle.std.proofs.lemmas.Bool.{cases_Bool}
use Rattle.std.proofs.lemmas.List.Sums.{sum_by-cons}
use Rattle.st_answers.specs.declared.answer.Answer.TheVariants as answer
use Rattle.st_answers.specs.declared.command.Command.TheVariants as command
use Rattle.st_core.specs.Run.{step_of}
use Rattle.st_core.specs.Tick.{expiring_of, with_expiries}
use Rattle.st_core.specs.Transition.{with_moment}
use Rattle.st_events.specs.declared.timer.Timer.{Timer}
use Rattle.st_events.specs.Timers.{same_timer}
use Rattle.st_events.proofs.ComparedLemmas.{same_timer_self}
use Rattle.st_timeouts.specs.declared.running.Running.{Running}
use Rattle.st_timeouts.specs.Running.{is_before, is_due_by, put_in_order, in_order}
use Rattle.st_agenda.specs.declared.item.Item.{Item}
use Rattle.st_agenda.specs.declared.item.Item.TheVariants.{Expiry}
use Rattle.st_agenda.specs.Timing.{expiry_waits, expiring_by, is_expiry}
use Rattle.st_journal.specs.declared.source.Source.TheVariants as source
use Rattle.st_doors.specs.Doors.{DoorMachine, History, KeptDoor, NamedDoor, all_expired_of, door_callbacks, door_named, expired_of, history_told, kept_of, ticked_doors, told_door, told_kept}
use Rattle.st_doors.specs.Late.{IsInTime, IsQuietUntil, caught_kept, later}
use Rattle.st_doors.proofs.IdleLemmas.{no_door}
use Rattle.st_doors.proofs.LateLemmas.{cases_ended, ended-told, later-seen, later-ended, tick-nothing}
use Rattle.st_doors.proofs.LateDoorsLemmas.{quiet-said, quiet-ended}

module _ {C : Type 0} where
  -- the expiries of time-outs
  abbrev expiries : List (Running C) → List (Item C)
  expiries running = map (λ (one : Running C). Expiry one.timer) running

  -- ---- an expiry that waits does so still where more waits
  waits-before : (timer : Timer) (items more : List (Item C)) → expiry_waits timer items ≡ true → expiry_waits timer (items ++ more) ≡ true
  waits-before timer [] more waits = cc
  waits-before timer (item ∷ items) more waits = elim (cases_Bool (is_expiry timer item)) [
    | inl here ↦ rw here refl
    | inr other ↦ rw other (waits-before timer items more (rw other at waits))
  ]

  waits-behind : (timer : Timer) (items more : List (Item C)) → expiry_waits timer more ≡ true → expiry_waits timer (items ++ more) ≡ true
  waits-behind timer [] more waits = waits
  waits-behind timer (item ∷ items) more waits = elim (cases_Bool (is_expiry timer item)) [
    | inl here ↦ rw here refl
    | inr other ↦ rw other (waits-behind timer items more waits)
  ]

  -- and in whatever order
  waits-put : (timer : Timer) (x : Running C) (ys : List (Running C)) → same_timer timer x.timer ≡ true → expiry_waits timer (expiries (put_in_order x ys)) ≡ true
  waits-put timer x [] same = rw same refl
  waits-put timer x (y ∷ ys) same = elim (cases_Bool (is_before x y)) [
    | inl before ↦ rw (before, same) refl
    | inr after ↦ rw after (elim (cases_Bool (same_timer timer y.timer)) [
      | inl here ↦ rw here refl
      | inr other ↦ rw other (waits-put timer x ys same)
    ])
  ]

  waits-put_other : (timer : Timer) (x : Running C) (ys : List (Running C)) → expiry_waits timer (expiries ys) ≡ true → expiry_waits timer (expiries (put_in_order x ys)) ≡ true
  waits-put_other timer x [] waits = cc
  waits-put_other timer x (y ∷ ys) waits = elim (cases_Bool (is_before x y)) [
    | inl before ↦ rw before (elim (cases_Bool (same_timer timer x.timer)) [
      | inl here ↦ rw here refl
      | inr other ↦ rw other waits
    ])
    | inr after ↦ rw after (elim (cases_Bool (same_timer timer y.timer)) [
      | inl here ↦ rw here refl
      | inr other ↦ rw other (waits-put_other timer x ys (rw other at waits))
    ])
  ]

  waits-in_order : (timer : Timer) (xs : List (Running C)) → expiry_waits timer (expiries xs) ≡ true → expiry_waits timer (expiries (in_order xs)) ≡ true
  waits-in_order timer [] waits = cc
  waits-in_order timer (x ∷ xs) waits = elim (cases_Bool (same_timer timer x.timer)) [
    | inl here ↦ waits-put timer x (in_order xs) here
    | inr other ↦ waits-put_other timer x (in_order xs) (waits-in_order timer xs (rw other at waits))
  ]

  -- ---- what expires by a moment does so once
  abbrev expires_by : ℕ → List (Item C) → Running C → Bool
  expires_by now items one = is_due_by now one.due && not (expiry_waits one.timer items)

  -- of each time-out that expires, the expiry is among these
  abbrev Cover : ℕ → List (Item C) → List (Item C) → List (Running C) → Type 0
  Cover now items more [] = Unit {0}
  Cover now items more (one ∷ others) = (expires_by now items one ≡ true → expiry_waits one.timer more ≡ true) × Cover now items more others

  cover-more : (now : ℕ) (items more all : List (Item C)) (running : List (Running C)) → ((timer : Timer) → expiry_waits timer more ≡ true → expiry_waits timer all ≡ true)
      → Cover now items more running → Cover now items all running
  cover-more now items more all [] wider covers = tt
  cover-more now items more all (one ∷ others) wider covers = (λ expires. wider one.timer (covers.0 expires), cover-more now items more all others wider covers.1)

  waits-next : (timer : Timer) (one : Running C) (others : List (Running C)) → expiry_waits timer (expiries others) ≡ true → expiry_waits timer (expiries (one ∷ others)) ≡ true
  waits-next timer one others waits = waits-behind timer (Expiry one.timer ∷ []) (expiries others) waits

  cover-all : (now : ℕ) (items : List (Item C)) (running : List (Running C)) → Cover now items (expiries (filter (expires_by now items) running)) running
  cover-all now items [] = tt
  cover-all now items (one ∷ others) = by (expires_by now items one) refl (cover-all now items others)
    where
      rest : List (Running C)
      rest = filter (expires_by now items) others

      here : expiry_waits one.timer (expiries (one ∷ rest)) ≡ true
      here = rw (same_timer_self one.timer) refl

      by : (b : Bool) → expires_by now items one ≡ b → Cover now items (expiries rest) others → Cover now items (expiries (cond b (one ∷ rest) rest)) (one ∷ others)
      by true is covers = (λ _. here, cover-more now items (expiries rest) (expiries (one ∷ rest)) others (λ timer waits. waits-next timer one rest waits) covers)
      by false is covers = (λ expires. cc, covers)

  none-twice : (now : ℕ) (items more : List (Item C)) (running : List (Running C)) → Cover now items more running → filter (expires_by now (items ++ more)) running ≡ []
  none-twice now items more [] covers = refl
  none-twice now items more (one ∷ others) covers =
      let rest = none-twice now items more others covers.1 in
      elim (cases_Bool (is_due_by now one.due)) [
        | inl due ↦ elim (cases_Bool (expiry_waits one.timer items)) [
          | inl waits ↦ rw (due, waits-before one.timer items more waits) rest
          | inr none ↦
              let expires : expires_by now items one ≡ true = rw (due, none) refl in
              rw (due, waits-behind one.timer items more (covers.0 expires)) rest
        ]
        | inr early ↦ rw early rest
      ]

  -- once they wait, none expires by that moment any more
  expired-once : (now : ℕ) (items : List (Item C)) (running : List (Running C)) → expiring_by now (items ++ expiries (expiring_by now items running)) running ≡ []
  expired-once now items running =
      ap in_order (none-twice now items (expiries (expiring_by now items running)) running
      (cover-more now items (expiries (filter (expires_by now items) running)) (expiries (expiring_by now items running)) running
      (λ timer waits. waits-in_order timer (filter (expires_by now items) running) waits) (cover-all now items running)))

-- ---- a door without a history
-- the machine of one that runs
ticked-is : (machine : DoorMachine) (moment : ℕ) → machine.ended ≡ None → moment < 2 ^ 63
    → (step_of door_callbacks machine (command.Tick moment)).1 ≡ with_expiries (with_moment machine moment)
ticked-is machine moment runs below =
    let early : nat_lt moment (2 ^ 63) ≡ true = grind (arith, below) in
    rw (runs, early) refl

seen-ticked : (machine : DoorMachine) (moment : ℕ) → machine.ended ≡ None → moment < 2 ^ 63 → moment ≤ (step_of door_callbacks machine (command.Tick moment)).1.latest
seen-ticked machine moment runs below =
    let is : (step_of door_callbacks machine (command.Tick moment)).1.latest ≡ max machine.latest moment = ap (λ (m : DoorMachine). m.latest) (ticked-is machine moment runs below) in
    grind (arith, is)

seen-moment : (machine : DoorMachine) (moment : ℕ) → moment ≤ machine.latest → with_moment machine moment ≡ machine
seen-moment machine moment seen =
    let same : max machine.latest moment ≡ machine.latest = grind (arith, seen) in
    ap (λ (latest : ℕ). record machine { latest = latest }) same

-- nothing of it is due by the moment
quiet-ticked : (machine : DoorMachine) (moment : ℕ) → moment < 2 ^ 63
    → IsQuietUntil (suc moment) (record { machine = (step_of door_callbacks machine (command.Tick moment)).1; history = None })
quiet-ticked machine moment below = elim (cases_ended machine.ended) [
  | inl runs ↦ λ other less.
      let told : DoorMachine = (step_of door_callbacks machine (command.Tick moment)).1 in
      let is : told ≡ with_expiries (with_moment machine moment) = ticked-is machine moment runs below in
      let still : told.ended ≡ None = ap (λ (m : DoorMachine). m.ended) is ∙ runs in
      let seen : moment ≤ told.latest = seen-ticked machine moment runs below in
      let none : expiring_of told ≡ [] =
      ap (λ (m : DoorMachine). expiring_of m) is ∙ expired-once (with_moment machine moment).latest machine.schedule.pending machine.schedule.running in
      let same : with_moment told other ≡ told = seen-moment told other (omega (arith, less, seen)) in
      quiet-said told other (answer.Tick (Ok 0))
      (tick-nothing door_callbacks told other still (omega (arith, less, below)) (ap (λ (m : DoorMachine). expiring_of m) same ∙ none)) refl
  | inr ended ↦ quiet-ended (step_of door_callbacks machine (command.Tick moment)).1 (suc moment) ended.0 (ended-told door_callbacks machine (command.Tick moment) ended.0 ended.1)
]

later-ticked : (machine : DoorMachine) (late moment : ℕ) → late ≤ moment → moment < 2 ^ 63
    → later late (step_of door_callbacks machine (command.Tick moment)).1 ≡ (step_of door_callbacks machine (command.Tick moment)).1
later-ticked machine late moment order below = elim (cases_ended machine.ended) [
  | inl runs ↦
      let seen : moment ≤ (step_of door_callbacks machine (command.Tick moment)).1.latest = seen-ticked machine moment runs below in
      later-seen late (step_of door_callbacks machine (command.Tick moment)).1 (omega (arith, order, seen))
  | inr ended ↦ later-ended late (step_of door_callbacks machine (command.Tick moment)).1 ended.0 (ended-told door_callbacks machine (command.Tick moment) ended.0 ended.1)
]

module _ (moment : ℕ) (below : moment < 2 ^ 63) where
  quiet-twice : (door : KeptDoor) → door.history ≡ None → IsQuietUntil (suc moment) (told_kept (command.Tick moment) door)
  quiet-twice door none = by door.history none
    where
      by : (history : Option History) → history ≡ None → IsQuietUntil (suc moment) (record {
        machine = (step_of door_callbacks door.machine (command.Tick moment)).1;
        history = history_told source.Caller (command.Tick moment) (step_of door_callbacks door.machine (command.Tick moment)).0 history;
      })
      by None is = quiet-ticked door.machine moment below
      by (Some history) is = cc

  seen-twice : (late : ℕ) (door : KeptDoor) → late ≤ moment → door.history ≡ None → caught_kept late (told_kept (command.Tick moment) door) ≡ told_kept (command.Tick moment) door
  seen-twice late door order none = by door.history none
    where
      by : (history : Option History) → history ≡ None
          → caught_kept late (record {
            machine = (step_of door_callbacks door.machine (command.Tick moment)).1;
            history = history_told source.Caller (command.Tick moment) (step_of door_callbacks door.machine (command.Tick moment)).0 history;
          }) ≡ record {
            machine = (step_of door_callbacks door.machine (command.Tick moment)).1;
            history = history_told source.Caller (command.Tick moment) (step_of door_callbacks door.machine (command.Tick moment)).0 history;
          }
      by None is = ap (λ (machine : DoorMachine). record { machine = machine; history = None }) (later-ticked door.machine late moment order below)
      by (Some history) is = cc

  -- so a second tick at it changes nothing
  told-twice : (door : KeptDoor) → door.history ≡ None → told_kept (command.Tick moment) (told_kept (command.Tick moment) door) ≡ told_kept (command.Tick moment) door
  told-twice door none = (quiet-twice door none moment (omega arith)).told ∙ seen-twice moment door (omega arith) none

  pub in_time-ticked : (late : ℕ) (door : KeptDoor) → late ≤ moment → door.history ≡ None → IsInTime late (moment + 1) (told_kept (command.Tick moment) door)
  in_time-ticked late door order none = record {
    caught = inl (seen-twice late door order none);
    quiet = λ other from less. quiet-twice door none other (omega (arith, less));
  }

  -- ---- doors, of which one was ticked
  pub ticked-set : (place : ℕ) (doors : List NamedDoor) → place < length doors → (get_or doors place no_door).history ≡ None
      → ticked_doors moment (set doors place (told_door (command.Tick moment) (get_or doors place no_door))) ≡ ticked_doors moment doors
  ticked-set place [] less none = absurd (omega arith)
  ticked-set zero (door ∷ doors) less none = ap (λ (kept : KeptDoor). door_named door.name kept ∷ ticked_doors moment doors) (told-twice (kept_of door) none)
  ticked-set (suc place) (door ∷ doors) less none = ap (λ t. told_door (command.Tick moment) door ∷ t) (ticked-set place doors (omega arith) none)

  pub counted-set : (place : ℕ) (doors : List NamedDoor) → place < length doors → (get_or doors place no_door).history ≡ None
      → expired_of moment (get_or doors place no_door) + all_expired_of moment (set doors place (told_door (command.Tick moment) (get_or doors place no_door))) ≡ all_expired_of moment doors
  counted-set place [] less none = absurd (omega arith)
  counted-set zero (door ∷ doors) less none =
      let told : NamedDoor = told_door (command.Tick moment) door in
      let nothing : expired_of moment told ≡ 0 = (quiet-twice (kept_of door) none moment (omega arith)).none in
      let new : all_expired_of moment (told ∷ doors) ≡ expired_of moment told + all_expired_of moment doors = sum_by-cons (expired_of moment) told doors in
      let old : all_expired_of moment (door ∷ doors) ≡ expired_of moment door + all_expired_of moment doors = sum_by-cons (expired_of moment) door doors in
      omega (arith, nothing, new, old)
  counted-set (suc place) (door ∷ doors) less none =
      let after : List NamedDoor = set doors place (told_door (command.Tick moment) (get_or doors place no_door)) in
      let rest : expired_of moment (get_or doors place no_door) + all_expired_of moment after ≡ all_expired_of moment doors = counted-set place doors (omega arith) none in
      let new : all_expired_of moment (door ∷ after) ≡ expired_of moment door + all_expired_of moment after = sum_by-cons (expired_of moment) door after in
      let old : all_expired_of moment (door ∷ doors) ≡ expired_of moment door + all_expired_of moment doors = sum_by-cons (expired_of moment) door doors in
      omega (arith, rest, new, old)
