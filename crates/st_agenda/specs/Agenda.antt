-- What waits and the time-outs that run, as one; and how queue and time-outs are read as it.
use Rattle.std.specs.Prelude.{◌≡◌, ℕ, ◌⊎◌, ◌+◌, Bool, true, false, if◌then◌else◌, Option, Some, None, is_some, List, [], ◌∷◌, ◌++◌, map, length}
use Rattle.std.specs.Option.{option_map}
use Rattle.st_events.specs.declared.asked.Asked.{Asked}
use Rattle.st_events.specs.declared.asked.Asked.TheVariants as asked
use Rattle.st_events.specs.declared.event.Event.{Event}
use Rattle.st_events.specs.declared.insert.Insert.{Insert}
use Rattle.st_events.specs.declared.setting.Setting.{Setting}
use Rattle.st_events.specs.declared.time.Time.{Time}
use Rattle.st_events.specs.declared.time.Time.TheVariants.{After, Infinity}
use Rattle.st_events.specs.declared.timer.Timer.{Timer}
use Rattle.st_events.specs.declared.timer.Timer.TheVariants as timer
use Rattle.st_timeouts.specs.declared.due.Due.{Due}
use Rattle.st_timeouts.specs.declared.running.Running.{Running}
use Rattle.st_timeouts.specs.Running.{OneEach, due_after, is_zero, running_of, without_running, with_content, first_zero_of}
use Rattle.st_timeouts.specs.Timeouts.{Listed, all_of, live}
use Rattle.st_agenda.specs.declared.schedule.Schedule.{Schedule}
use Rattle.st_agenda.specs.declared.queued.Queued.{Queued}
use Rattle.st_agenda.specs.declared.queued.Queued.TheVariants as queued
use Rattle.st_agenda.specs.declared.item.Item.{Item}
use Rattle.st_agenda.specs.declared.item.Item.TheVariants.{Received, Posted, Expiry}
use Rattle.st_agenda.specs.Items.{has, first_received, kept, with_number, placed, numbered}
use Rattle.st_agenda.specs.Choice.{Choice, event_of, choice_among, items_with, running_with}
use Rattle.st_agenda.specs.Timing.{without_expiry}
use Rattle.st_agenda.specs.Waiting.{Waiting, Place, Seen, Unseen, IsOrdered, Distinct, AreBelow, place_numbers, next_of}

-- a schedule, and how many events and time-outs more can come in without memory
pub record Agenda (C : Type 0) : Type 0 where
  pub schedule : Schedule C
  pub staged : ℕ
  pub reserved : ℕ

-- all of them but the first
abbrev pub all_but_first : {X : Type 0} → List X → List X
all_but_first [] = []
all_but_first (one ∷ others) = others

-- one item more where it is there
abbrev pub with_live : {C : Type 0} → Bool → Timer → List (Item C) → List (Item C)
with_live alive timer items = if alive then Expiry timer ∷ items else items

module _ {C : Type 0} where
  -- what waits: an expiry whose time-out runs no more is none
  abbrev pub items_in : List (Listed C) → List (Place C) → List (Item C)
  items_in listed [] = []
  items_in listed (Seen (queued.Event event) ∷ places) = Received event ∷ items_in listed places
  items_in listed (Seen (queued.Expiry timer number) ∷ places) = items_in listed places
  items_in listed (Unseen (queued.Event event) ∷ places) = Posted event ∷ items_in listed places
  items_in listed (Unseen (queued.Expiry timer number) ∷ places) =
      with_live (is_some (live timer number listed)) timer (items_in listed places)

  -- what a slot is read as: an expiry that was received, or whose time-out runs no more, is none
  abbrev pub item_of : List (Listed C) → Bool → Queued C → Option (Item C)
  item_of listed true (queued.Event event) = Some (Received event)
  item_of listed true (queued.Expiry timer number) = None
  item_of listed false (queued.Event event) = Some (Posted event)
  item_of listed false (queued.Expiry timer number) = if is_some (live timer number listed) then Some (Expiry timer) else None

  -- the schedule of a queue and of running time-outs
  abbrev pub schedule_of : Waiting C → List (Listed C) → Schedule C
  schedule_of waiting listed = record {
    pending = items_in listed waiting.items;
    postponed = waiting.postponed;
    running = all_of listed;
    next_number = waiting.next_number;
  }

  -- the numbers of the events of time-outs
  abbrev pub timeout_numbers : List (Listed C) → List ℕ
  timeout_numbers listed = map (λ (one : Listed C). one.running.number) listed

  -- the expiry of a time-out stands in the queue, and was not received
  abbrev pub HasExpiry : Timer → ℕ → List (Place C) → Type 0
  HasExpiry timer number [] = ⊥
  HasExpiry timer number (Seen one ∷ places) = HasExpiry timer number places
  HasExpiry timer number (Unseen one ∷ places) = (one ≡ queued.Expiry timer number) ⊎ HasExpiry timer number places

  -- what was received is an event
  abbrev pub SeenEvents : List (Place C) → Type 0
  SeenEvents [] = Unit {0}
  SeenEvents (Seen (queued.Event event) ∷ places) = SeenEvents places
  SeenEvents (Seen (queued.Expiry timer number) ∷ places) = ⊥
  SeenEvents (Unseen one ∷ places) = SeenEvents places

  -- how many expiries stand in the queue
  abbrev pub expiries_in : List (Place C) → ℕ
  expiries_in [] = 0
  expiries_in (Seen (queued.Event event) ∷ places) = expiries_in places
  expiries_in (Seen (queued.Expiry timer number) ∷ places) = expiries_in places + 1
  expiries_in (Unseen (queued.Event event) ∷ places) = expiries_in places
  expiries_in (Unseen (queued.Expiry timer number) ∷ places) = expiries_in places + 1

  -- a time-out is marked where its expiry stands in the queue; else no slot has its number
  abbrev pub IsMarked : Listed C → List (Place C) → Bool → Type 0
  IsMarked one places true = HasExpiry one.running.timer one.running.number places × (is_zero one.running.due ≡ false)
  IsMarked one places false = has (place_numbers places) one.running.number ≡ false

  -- each of them is marked so
  abbrev pub AreMarked : List (Listed C) → List (Place C) → Type 0
  AreMarked [] places = Unit {0}
  AreMarked (one ∷ listed) places = IsMarked one places one.expired × AreMarked listed places

  -- the next slot is no expiry of a time-out that runs no more
  abbrev pub IsAlive : List (Listed C) → Option (Queued C) → Type 0
  IsAlive listed None = Unit {0}
  IsAlive listed (Some (queued.Event event)) = Unit {0}
  IsAlive listed (Some (queued.Expiry timer number)) = is_some (live timer number listed) ≡ true

  -- queue and time-outs agree
  pub record Agrees (waiting : Waiting C) (listed : List (Listed C)) (expiries : ℕ) : Type 0 where
    pub ordered : IsOrdered waiting
    pub events : SeenEvents waiting.items
    pub one_each : OneEach (all_of listed)
    pub distinct : Distinct (timeout_numbers listed)
    pub below : AreBelow waiting.next_number (timeout_numbers listed)
    pub marked : AreMarked listed waiting.items
    pub counted : expiries ≡ expiries_in waiting.items

  -- what the agenda keeps
  pub record IsKept (waiting : Waiting C) (listed : List (Listed C)) (expiries : ℕ) : Type 0 where
    pub agrees : Agrees waiting listed expiries
    pub alive : IsAlive listed (next_of waiting.postponed waiting.items)

  -- the number of the next slot, where it is an expiry of a time-out that runs no more
  abbrev pub dead_at : List (Listed C) → Option (Queued C) → Option ℕ
  dead_at listed None = None
  dead_at listed (Some (queued.Event event)) = None
  dead_at listed (Some (queued.Expiry timer number)) = if is_some (live timer number listed) then None else Some number

  -- what a turn takes up
  abbrev pub choice_in : Schedule C → Option (Choice C)
  choice_in schedule = choice_among schedule.postponed schedule.pending schedule.running

  -- the event that a turn handles next
  abbrev pub next_in : Schedule C → Option (Event C)
  next_in schedule = option_map event_of (choice_in schedule)

  -- the time-out that comes next because it is due at once
  abbrev pub zero_in : Schedule C → Option (Running C)
  zero_in schedule =
      if is_some (first_received schedule.postponed schedule.pending) then None else first_zero_of schedule.running

  -- the time-outs that run: timer, number of the event, when it is due
  abbrev pub shown_timers : Schedule C → List (Timer × ℕ × Due)
  shown_timers schedule = map (λ (one : Running C). (one.timer, one.number, one.due)) schedule.running

  -- expiries go behind all that waits
  abbrev pub with_all_expired : List (Running C) → Schedule C → Schedule C
  with_all_expired expiring schedule = record schedule {
    pending = schedule.pending ++ map (λ (one : Running C). Expiry one.timer) expiring;
  }

  -- the first of them does
  abbrev pub with_first_expiry : List (Running C) → Schedule C → Schedule C
  with_first_expiry [] schedule = schedule
  with_first_expiry (one ∷ expiring) schedule = with_all_expired (one ∷ []) schedule

  -- it is received, in its place
  abbrev pub received_in : Schedule C → Schedule C
  received_in schedule = record schedule {
    pending = items_with (choice_in schedule) schedule.pending;
    running = running_with (choice_in schedule) schedule.running;
  }

  -- the time-out of a timer is cancelled
  abbrev pub cancelled_in : Schedule C → Timer → Schedule C
  cancelled_in schedule timer = record schedule {
    pending = without_expiry timer schedule.pending;
    running = without_running timer schedule.running;
  }

  -- the event of a number is postponed and keeps its place, or is finished and leaves
  abbrev pub disposed_in : Schedule C → ℕ → Bool → Schedule C
  disposed_in schedule number postpone = record schedule {
    pending = kept postpone number schedule.pending;
    postponed = with_number postpone number schedule.postponed;
  }

  -- at a state change no event is postponed any more, and the state time-out is cancelled
  abbrev pub retried_in : Schedule C → Bool → Schedule C
  retried_in schedule changed =
      if changed then cancelled_in (record schedule { postponed = [] }) timer.State else schedule

  -- events come in before the first that is not postponed, with the next numbers
  abbrev pub inserted_in : Schedule C → List (Insert C) → Schedule C
  inserted_in schedule inserts = record schedule {
    pending = placed schedule.postponed (map Received (numbered schedule.next_number inserts)) schedule.pending;
    next_number = schedule.next_number + length inserts;
  }

  -- a time-out begins to run at a moment
  abbrev pub begun_in : ℕ → Schedule C → Timer → Time → C → Schedule C
  begun_in now schedule timer Infinity content = schedule
  begun_in now schedule timer (After time) content = record schedule {
    running = schedule.running ++ record { timer = timer; number = schedule.next_number; due = due_after time now; content = content } ∷ [];
    next_number = schedule.next_number + 1;
  }

  -- a timer is set for a time at a moment: what ran of it is cancelled
  abbrev pub restarted_in : ℕ → Schedule C → Timer → Time → C → Schedule C
  restarted_in now schedule timer time content = begun_in now (cancelled_in schedule timer) timer time content

  -- the time-out of a timer that runs has another content
  abbrev pub updated_in : Schedule C → Timer → C → Schedule C
  updated_in schedule timer content = record schedule { running = with_content timer content schedule.running }

  -- what is asked of a timer is done, at a moment; an update of one that does not run sets it for no time
  abbrev pub asked_in : ℕ → Schedule C → Timer → Asked C → Schedule C
  asked_in now schedule timer (asked.Set time content) = restarted_in now schedule timer time content
  asked_in now schedule timer asked.Cancel = cancelled_in schedule timer
  asked_in now schedule timer (asked.Update content) =
      if is_some (running_of timer schedule.running) then updated_in schedule timer content
      else restarted_in now schedule timer (After 0) content

  -- one setting is done
  abbrev pub set_in : ℕ → Schedule C → Setting C → Schedule C
  set_in now schedule setting = asked_in now schedule setting.timer setting.asked

  -- settings are done, in their order
  abbrev pub all_set_in : ℕ → Schedule C → List (Setting C) → Schedule C
  all_set_in now schedule [] = schedule
  all_set_in now schedule (setting ∷ settings) = all_set_in now (set_in now schedule setting) settings

  -- the steps of a transition, at a moment, on what waits and what runs, in the manual's order: the event is
  -- received; the event time-out is cancelled; the event is postponed or finished; at a state change the
  -- postponed events are retried; events are inserted; timers are set
  abbrev pub settled_in : ℕ → Schedule C → ℕ → Bool → Bool → List (Insert C) → List (Setting C) → Schedule C
  settled_in now schedule number postpone changed inserts settings =
      let received = received_in schedule in
      let cancelled = cancelled_in received timer.Event in
      let disposed = disposed_in cancelled number postpone in
      let retried = retried_in disposed changed in
      let inserted = inserted_in retried inserts in
      all_set_in now inserted settings

  -- its steps before others come in: the event is received; the event time-out is cancelled; the event is postponed or finished;
  -- at a state change the postponed events are retried
  abbrev pub received_and_retried_in : Schedule C → ℕ → Bool → Bool → Schedule C
  received_and_retried_in schedule number postpone changed =
      let received = received_in schedule in
      let cancelled = cancelled_in received timer.Event in
      let disposed = disposed_in cancelled number postpone in
      retried_in disposed changed

  -- the time-outs that run still when timers come to be set: not the one that is taken up, nor that of the event,
  -- nor, at a state change, that of the state
  abbrev pub running_on : Bool → Schedule C → List (Running C)
  running_on changed schedule =
      let running = without_running timer.Event (running_with (choice_in schedule) schedule.running) in
      if changed then without_running timer.State running else running
