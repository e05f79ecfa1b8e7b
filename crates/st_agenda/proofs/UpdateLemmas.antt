-- A time-out has another content: what else is read of it stays. Which timers still run when settings come to be done,
-- and how many numbers updates take then.
use Rattle.std.proofs.Common.{◌≡◌, ℕ, zero, suc, ◌+◌, Bool, true, false, not, ◌&&◌, ◌==◌, if◌then◌else◌, Option, Some, None, List, [], ◌∷◌, refl, ap, ◌∙◌, arith}
use Rattle.std.specs.Prelude.{is_some, drop, slice_get}
use Rattle.std.specs.Option.{option_map, unwrap_or}
use Rattle.st_events.specs.declared.action.Action.{Action}
use Rattle.st_events.specs.declared.action.Action.TheVariants.{Reply, Postpone, NextEvent, Set, Cancel, Update, Send, Hibernate}
use Rattle.st_events.specs.declared.timer.Timer.{Timer}
use Rattle.st_events.specs.declared.timer.Timer.TheVariants as timer
use Rattle.st_events.specs.Timers.{same_timer}
use Rattle.st_events.proofs.ComparedLemmas.{timers_same}
use Rattle.st_timeouts.specs.declared.running.Running.{Running}
use Rattle.st_timeouts.specs.Running.{running_of, without_running, runs_for}
use Rattle.st_timeouts.specs.Timeouts.{Listed, Timeouts, all_of, live, with_this_number, with_updated}
use Rattle.st_timeouts.proofs.OrderLemmas.{gone, renewed, updated_listed, all_of_updated, running_of_with_content, one_each_with_content}
use Rattle.st_actions.specs.Counted.{starts_in}
use Rattle.st_actions.specs.Taking.{all_settings_of}
use Rattle.st_agenda.specs.declared.schedule.Schedule.{Schedule}
use Rattle.st_agenda.specs.declared.queued.Queued.{Queued}
use Rattle.st_agenda.specs.declared.queued.Queued.TheVariants as queued
use Rattle.st_agenda.specs.Choice.{Choice, Resumed, Lapsed, Arrived, Expired, running_with, timer_taken}
use Rattle.st_agenda.specs.Timing.{is_taken, is_cancelled, begins_anew, numbers_taken}
use Rattle.st_agenda.specs.Waiting.{Place, Seen, Unseen, Waiting}
use Rattle.st_agenda.specs.Agenda.{items_in, schedule_of, timeout_numbers, IsMarked, AreMarked, IsAlive, IsKept, choice_in, updated_in, running_on}
use Rattle.st_agenda.proofs.LawfulSetting.{cancelled_runs}
use Rattle.st_agenda.proofs.SweepLemmas.{agenda_of, agenda_is}

-- ---- another content
module _ {C : Type 0} (timer : Timer) (content : C) where
  number_by : (same : Bool) (one : Running C) → (if same then record one { content = content } else one).number ≡ one.number
  number_by true one = refl
  number_by false one = refl

  some_if : (test : Bool) (one other : Running C) → is_some (if test then Some one else None) ≡ is_some (if test then Some other else None)
  some_if true one other = refl
  some_if false one other = refl

  live_by : (number : ℕ) (found : Option (Running C))
      → is_some (with_this_number number (option_map (renewed timer content) found)) ≡ is_some (with_this_number number found)
  live_by number None = refl
  live_by number (Some one) =
      some_if ((renewed timer content one).number == number) (renewed timer content one) one
      ∙ ap (λ n. is_some (if n == number then Some one else None)) (number_by (runs_for timer one) one)

  -- the same time-outs run
  live_updated : (listed : List (Listed C)) (other : Timer) (number : ℕ)
      → is_some (live other number (updated_listed timer content listed)) ≡ is_some (live other number listed)
  live_updated listed other number =
      rw (all_of_updated timer content listed, running_of_with_content timer other content (all_of listed)) (live_by number (running_of other (all_of listed)))

  -- so the same waits
  items_updated : (listed : List (Listed C)) (places : List (Place C)) → items_in (updated_listed timer content listed) places ≡ items_in listed places
  items_updated listed [] = refl
  items_updated listed (Seen (queued.Event event) ∷ places) = rw (items_updated listed places) refl
  items_updated listed (Seen (queued.Expiry other number) ∷ places) = items_updated listed places
  items_updated listed (Unseen (queued.Event event) ∷ places) = rw (items_updated listed places) refl
  items_updated listed (Unseen (queued.Expiry other number) ∷ places) = rw (live_updated listed other number, items_updated listed places) refl

  -- and the next slot is alive as it was
  alive_updated : (listed : List (Listed C)) (next : Option (Queued C)) → IsAlive listed next → IsAlive (updated_listed timer content listed) next
  alive_updated listed None alive = tt
  alive_updated listed (Some (queued.Event event)) alive = tt
  alive_updated listed (Some (queued.Expiry other number)) alive = live_updated listed other number ∙ alive

  -- the numbers are the same
  numbers_by : (same : Bool) (one : Listed C) (rest others : List (Listed C)) → timeout_numbers rest ≡ timeout_numbers others
      → timeout_numbers ((if same then record one { running = record one.running { content = content } } else one) ∷ rest) ≡ timeout_numbers (one ∷ others)
  numbers_by true one rest others h = ap (λ numbers. one.running.number ∷ numbers) h
  numbers_by false one rest others h = ap (λ numbers. one.running.number ∷ numbers) h

  numbers_updated : (listed : List (Listed C)) → timeout_numbers (updated_listed timer content listed) ≡ timeout_numbers listed
  numbers_updated [] = refl
  numbers_updated (one ∷ listed) = numbers_by (runs_for timer one.running) one (updated_listed timer content listed) listed (numbers_updated listed)

  -- a waiting expiry is marked as it was
  mark_by : (same : Bool) (one : Listed C) (places : List (Place C)) (rest : List (Listed C)) → IsMarked one places one.expired → AreMarked rest places
      → AreMarked ((if same then record one { running = record one.running { content = content } } else one) ∷ rest) places
  mark_by true one places rest here others = (here, others)
  mark_by false one places rest here others = (here, others)

  marked_updated : (listed : List (Listed C)) (places : List (Place C)) → AreMarked listed places → AreMarked (updated_listed timer content listed) places
  marked_updated [] places m = tt
  marked_updated (one ∷ listed) places m =
      mark_by (runs_for timer one.running) one places (updated_listed timer content listed) m.0 (marked_updated listed places m.1)

  -- so queue and time-outs are kept
  pub kept_updated : (waiting : Waiting C) (listed : List (Listed C)) (expiries : ℕ) → IsKept waiting listed expiries
      → IsKept waiting (updated_listed timer content listed) expiries
  kept_updated waiting listed expiries kept = record {
    agrees = record {
      ordered = kept.agrees.ordered;
      events = kept.agrees.events;
      one_each = rw (all_of_updated timer content listed) (one_each_with_content timer content (all_of listed) kept.agrees.one_each);
      distinct = rw (numbers_updated listed) kept.agrees.distinct;
      below = rw (numbers_updated listed) kept.agrees.below;
      marked = marked_updated listed waiting.items kept.agrees.marked;
      counted = kept.agrees.counted;
    };
    alive = alive_updated listed _ kept.alive;
  }

  -- and are read as before, but for the content
  pub updated_is : (waiting : Waiting C) (timeouts : Timeouts C)
      → agenda_of waiting (with_updated timeouts timer content)
      ≡ record (agenda_of waiting timeouts) { schedule = updated_in (schedule_of waiting timeouts.listed) timer content }
  updated_is waiting timeouts =
      agenda_is waiting (with_updated timeouts timer content) (updated_in (schedule_of waiting timeouts.listed) timer content) waiting.staged timeouts.reserved
      (items_updated timeouts.listed waiting.items) refl (all_of_updated timer content timeouts.listed) refl refl refl

-- ---- which timers still run
module _ {C : Type 0} where
  runs_without_by : (same : Bool) (timer other : Timer) (running : List (Running C)) → same_timer timer other ≡ same
      → is_some (running_of timer (without_running other running)) ≡ not same && is_some (running_of timer running)
  runs_without_by true timer other running e =
      let equal : timer ≡ other = timers_same timer other e in rw (equal, gone other running) refl
  runs_without_by false timer other running e = cancelled_runs other timer e running

  -- where a time-out is cancelled
  runs_without : (timer other : Timer) (running : List (Running C))
      → is_some (running_of timer (without_running other running)) ≡ not (same_timer timer other) && is_some (running_of timer running)
  runs_without timer other running = runs_without_by (same_timer timer other) timer other running refl

  -- where a time-out is taken up, or none
  runs_with : (timer : Timer) (choice : Option (Choice C)) (running : List (Running C))
      → is_some (running_of timer (running_with choice running)) ≡ not (is_taken (timer_taken choice) timer) && is_some (running_of timer running)
  runs_with timer None running = refl
  runs_with timer (Some (Resumed event)) running = refl
  runs_with timer (Some (Lapsed one)) running = runs_without timer one.timer running
  runs_with timer (Some (Arrived event)) running = refl
  runs_with timer (Some (Expired one)) running = runs_without timer one.timer running

  cancelled_by : (changed : Bool) (one : Timer) (left : List (Running C))
      → is_some (running_of one (if changed then without_running timer.State (without_running timer.Event left) else without_running timer.Event left))
      ≡ not (is_cancelled changed one) && is_some (running_of one left)
  cancelled_by false timer.Event left = runs_without timer.Event timer.Event left
  cancelled_by false timer.State left = runs_without timer.State timer.Event left
  cancelled_by false (timer.Named name) left = runs_without (timer.Named name) timer.Event left
  cancelled_by true timer.Event left = runs_without timer.Event timer.State (without_running timer.Event left) ∙ runs_without timer.Event timer.Event left
  cancelled_by true timer.State left = runs_without timer.State timer.State (without_running timer.Event left)
  cancelled_by true (timer.Named name) left =
      runs_without (timer.Named name) timer.State (without_running timer.Event left) ∙ runs_without (timer.Named name) timer.Event left

  -- when settings come to be done: where it ran, and was neither cancelled nor taken up
  pub runs_on_is : (changed : Bool) (one : Timer) (schedule : Schedule C)
      → is_some (running_of one (running_on changed schedule))
      ≡ not (is_cancelled changed one) && (not (is_taken (timer_taken (choice_in schedule)) one) && is_some (running_of one schedule.running))
  runs_on_is changed one schedule =
      cancelled_by changed one (running_with (choice_in schedule) schedule.running)
      ∙ ap (λ runs. not (is_cancelled changed one) && runs) (runs_with one (choice_in schedule) schedule.running)

-- ---- how many numbers updates take
-- one more, where it is so
abbrev pub one_if : Bool → ℕ
one_if begins = if begins then 1 else 0

module _ {C : Type 0} (running : List (Running C)) where
  -- from an index on, updates take so many numbers
  abbrev pub IsTakenFrom : List (Action C) → ℕ → ℕ → Type 0
  IsTakenFrom actions index numbers = starts_in (all_settings_of (drop index actions)) + numbers ≡ numbers_taken running (all_settings_of (drop index actions))

  taken_by_update : (runs : Bool) (starts taken numbers : ℕ) → starts + numbers ≡ taken
      → 0 + starts + (numbers + one_if (not runs)) ≡ (if runs then 0 else 1) + taken
  taken_by_update true starts taken numbers h = omega (arith, h)
  taken_by_update false starts taken numbers h = omega (arith, h)

  -- an action more
  taken_more : (action : Action C) (rest : List (Action C)) (numbers : ℕ) → starts_in (all_settings_of rest) + numbers ≡ numbers_taken running (all_settings_of rest)
      → starts_in (all_settings_of (action ∷ rest)) + (numbers + one_if (begins_anew running action)) ≡ numbers_taken running (all_settings_of (action ∷ rest))
  taken_more (Reply tag content) rest numbers h = omega (arith, h)
  taken_more (Postpone last) rest numbers h = omega (arith, h)
  taken_more (NextEvent kind content) rest numbers h = omega (arith, h)
  taken_more (Set timer time content) rest numbers h = omega (arith, h)
  taken_more (Cancel timer) rest numbers h = omega (arith, h)
  taken_more (Update timer content) rest numbers h =
      taken_by_update (is_some (running_of timer running)) (starts_in (all_settings_of rest)) (numbers_taken running (all_settings_of rest)) numbers h
  taken_more (Send target content) rest numbers h = omega (arith, h)
  taken_more Hibernate rest numbers h = omega (arith, h)

  taken_next : (actions : List (Action C)) (index numbers : ℕ) → IsTakenFrom actions (suc index) numbers
      → IsTakenFrom actions index (numbers + one_if (unwrap_or (option_map (begins_anew running) (slice_get actions index)) false))
  taken_next [] zero numbers h = omega (arith, h)
  taken_next [] (suc index) numbers h = omega (arith, h)
  taken_next (action ∷ actions) zero numbers h = taken_more action actions numbers h
  taken_next (action ∷ actions) (suc index) numbers h = taken_next actions index numbers h

  module _ (actions : List (Action C)) (index later numbers : ℕ) (next : later ≡ index + 1) (counted : IsTakenFrom actions later numbers) where
    taken_here : IsTakenFrom actions index (numbers + one_if (unwrap_or (option_map (begins_anew running) (slice_get actions index)) false))
    taken_here =
        let after : later ≡ suc index = omega (arith, next) in
        taken_next actions index numbers (rw after at counted)

    -- an update at an index takes one more
    pub taken_begun : unwrap_or (option_map (begins_anew running) (slice_get actions index)) false ≡ true → IsTakenFrom actions index (numbers + 1)
    taken_begun begins = rw begins at taken_here

    -- what else stands there takes none
    pub taken_same : unwrap_or (option_map (begins_anew running) (slice_get actions index)) false ≡ false → IsTakenFrom actions index numbers
    taken_same none = let here : IsTakenFrom actions index (numbers + 0) = rw none at taken_here in omega (arith, here)
