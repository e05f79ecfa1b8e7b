-- A schedule that can come about is followed by one that can, whatever is posted, inserted, set, cancelled or
-- retried, or expires; and the numbers that then stand in it.
use Rattle.std.proofs.Common.{◌≡◌, ℕ, ◌+◌, ◌<◌, ◌≤◌, ◌^◌, Bool, true, false, not, ◌&&◌, ◌||◌, ◌==◌, if◌then◌else◌, List, [], ◌∷◌, ◌++◌, Option, Some, None, map, filter, length, refl, ◌∙◌, ap, arith, ◌⊎◌, inl, inr}
use Rattle.std.specs.Prelude.{nat_le, is_some}
use Rattle.std.proofs.lemmas.Bool.{cases_Bool, cases_lt}
use Rattle.st_events.specs.declared.asked.Asked.{Asked}
use Rattle.st_events.specs.declared.asked.Asked.TheVariants as asked
use Rattle.st_events.specs.declared.event.Event.{Event}
use Rattle.st_events.specs.declared.insert.Insert.{Insert}
use Rattle.st_events.specs.declared.setting.Setting.{Setting}
use Rattle.st_events.specs.declared.time.Time.{Time}
use Rattle.st_events.specs.declared.time.Time.TheVariants.{After, Infinity}
use Rattle.st_events.specs.declared.timer.Timer.{Timer}
use Rattle.st_events.specs.declared.timer.Timer.TheVariants as timer
use Rattle.st_events.specs.Timers.{same_timer, is_asked, AskedOnce}
use Rattle.st_events.proofs.ComparedLemmas.{same_number, same_timer_self, timers_same, same_timer_flips}
use Rattle.st_timeouts.specs.declared.due.Due.{Due}
use Rattle.st_timeouts.specs.declared.due.Due.TheVariants.{Zero, At}
use Rattle.st_timeouts.specs.declared.running.Running.{Running}
use Rattle.st_timeouts.specs.Running.{OneEach, due_after, running_of, runs_for, without_running, with_content, is_due_by, is_before, put_in_order, in_order}
use Rattle.st_timeouts.proofs.OrderLemmas.{not_first, gone, one_each_more, put_none, ordered_none}
use Rattle.st_agenda.specs.declared.item.Item.{Item}
use Rattle.st_agenda.specs.declared.item.Item.TheVariants.{Received, Posted, Expiry}
use Rattle.st_agenda.specs.Items.{has, first_received, is_postponed, numbers_of, placed, numbered}
use Rattle.st_actions.specs.Counted.{number_taken}
use Rattle.st_agenda.specs.Timing.{is_expiry, without_expiry, expiry_waits, taken_by, numbers_taken, expiring_by}
use Rattle.st_agenda.specs.declared.schedule.Schedule.{Schedule}
use Rattle.st_agenda.specs.Agenda.{with_all_expired, cancelled_in, retried_in, inserted_in, begun_in, restarted_in, updated_in, asked_in, set_in, all_set_in}
use Rattle.st_agenda.specs.Lawful.{times, waiting_numbers, running_numbers, live_numbers, NoneReceived, ReceivedFirst, PostponedFirst, IsDueBy, ExpiriesDue, IsLawfulSchedule}
use Rattle.st_agenda.proofs.PendingLemmas.{eq_flips}
use Rattle.st_agenda.proofs.ItemsLemmas.{first_cancelled}
use Rattle.st_agenda.proofs.AgreesLemmas.{has_step}

-- ---- how often a number stands in a list
pub times-append : (n : ℕ) (xs ys : List ℕ) → times n (xs ++ ys) ≡ times n xs + times n ys
times-append n [] ys = omega arith
times-append n (x ∷ xs) ys = omega (arith, times-append n xs ys)

once_by : (same : Bool) (rest : ℕ) → rest ≤ 1 → (same ≡ true → rest ≡ 0) → (if same then 1 else 0) + rest ≤ 1
once_by true rest h none = omega (arith, none refl)
once_by false rest h none = omega (arith, h)

same_by : (same : Bool) (rest : ℕ) → same ≡ false → (if same then 1 else 0) + rest ≡ rest
same_by true rest e = cc
same_by false rest e = omega arith

rest_one_by : (same : Bool) (rest : ℕ) → same ≡ true → (if same then 1 else 0) + rest ≤ 1 → rest ≡ 0
rest_one_by true rest e h = omega (arith, h)
rest_one_by false rest e h = cc

-- a number more, which stood nowhere, stands once; where it is another, nothing changes
once_more : (n number rest : ℕ) → rest ≤ 1 → (number ≡ n → rest ≡ 0) → (if number == n then 1 else 0) + rest ≤ 1
once_more n number rest h none = once_by (number == n) rest h (λ e. none (grind (arith, e)))

same_more : (n number rest : ℕ) → (number ≡ n → ⊥) → (if number == n then 1 else 0) + rest ≡ rest
same_more n number rest differ = let other : (number == n) ≡ false = grind (arith, differ) in same_by (number == n) rest other

none_more : (n number rest : ℕ) → (number ≡ n → ⊥) → rest ≡ 0 → (if number == n then 1 else 0) + rest ≡ 0
none_more n number rest differ h = same_more n number rest differ ∙ h

-- of a number that stands nowhere, or once at most
rest_none : (same : Bool) (rest : ℕ) → (if same then 1 else 0) + rest ≡ 0 → (same ≡ false) × (rest ≡ 0)
rest_none true rest h = absurd (omega (arith, h))
rest_none false rest h = (refl, omega (arith, h))

rest_of_one : (n number rest : ℕ) → number ≡ n → (if number == n then 1 else 0) + rest ≤ 1 → rest ≡ 0
rest_of_one n number rest e h = let same : (number == n) ≡ true = grind (arith, e) in rest_one_by (number == n) rest same h

rest_once : (n number rest : ℕ) → (if number == n then 1 else 0) + rest ≤ 1 → rest ≤ 1
rest_once n number rest h = omega (arith, h)

-- neither of two
pub neither : (first rest : Bool) → (first || rest) ≡ false → (first ≡ false) × (rest ≡ false)
neither true rest e = cc
neither false rest e = (refl, e)

-- ---- what is due stays due
moment_later : (moment latest later : ℕ) → latest ≤ later → nat_le moment latest ≡ true → nat_le moment later ≡ true
moment_later moment latest later h d = grind (arith, h, d)

due_later : (latest later : ℕ) (due : Due) → latest ≤ later → is_due_by latest due ≡ true → is_due_by later due ≡ true
due_later latest later Zero h d = cc
due_later latest later (At moment) h d = moment_later moment latest later h d

-- neither of two holds
both_false : (one other : Bool) → one || other ≡ false → (one ≡ false) × (other ≡ false)
both_false true other h = cc
both_false false other h = (refl, h)

module _ {C : Type 0} where
  -- ---- the numbers that inserts get: none below the first, none from the last on, and each once at most
  pub numbered_times : (n first : ℕ) (inserts : List (Insert C)) → n < first → times n (numbers_of (numbered first inserts)) ≡ 0
  numbered_times n first [] h = refl
  numbered_times n first (insert ∷ inserts) h =
      none_more n first _ (λ e. omega (arith, h, e)) (numbered_times n (first + 1) inserts (omega (arith, h)))

  pub numbered_times_above : (n first : ℕ) (inserts : List (Insert C)) → first + length inserts ≤ n → times n (numbers_of (numbered first inserts)) ≡ 0
  numbered_times_above n first [] h = refl
  numbered_times_above n first (insert ∷ inserts) h =
      none_more n first _ (λ e. omega (arith, h, e)) (numbered_times_above n (first + 1) inserts (omega (arith, h)))

  pub numbered_times_once : (n first : ℕ) (inserts : List (Insert C)) → times n (numbers_of (numbered first inserts)) ≤ 1
  numbered_times_once n first [] = omega arith
  numbered_times_once n first (insert ∷ inserts) =
      once_more n first _ (numbered_times_once n (first + 1) inserts) (λ e. numbered_times n (first + 1) inserts (omega (arith, e)))

  -- ---- the numbers that may still be handled are those that wait and those of the time-outs that run
  live_times : (n : ℕ) (s : Schedule C) → times n (live_numbers s) ≡ times n (waiting_numbers s.pending) + times n (running_numbers s.running)
  live_times n s = times-append n (waiting_numbers s.pending) (running_numbers s.running)

  -- ---- a schedule in which nothing waits and nothing runs
  pub lawful_empty : (latest next : ℕ) → next ≤ 2 ^ 63
      → IsLawfulSchedule {C = C} latest (record { pending = []; postponed = []; running = []; next_number = next })
  lawful_empty latest next h = record {
    received_first = tt;
    postponed_first = tt;
    one_each = tt;
    distinct = λ number. omega arith;
    below = λ number more. refl;
    expiries = tt;
    bounded = h;
  }

  -- ---- time goes by
  found_later : (latest later : ℕ) (found : Option (Running C)) → latest ≤ later → IsDueBy latest found → IsDueBy later found
  found_later latest later None h d = d
  found_later latest later (Some one) h d = due_later latest later one.due h d

  expiries_later : (latest later : ℕ) (running : List (Running C)) (items : List (Item C)) → latest ≤ later
      → ExpiriesDue latest running items → ExpiriesDue later running items
  expiries_later latest later running [] h e = tt
  expiries_later latest later running (Received event ∷ items) h e = expiries_later latest later running items h e
  expiries_later latest later running (Posted event ∷ items) h e = expiries_later latest later running items h e
  expiries_later latest later running (Expiry timer ∷ items) h e =
      (found_later latest later (running_of timer running) h e.0, e.1, expiries_later latest later running items h e.2)

  pub lawful_later : (latest later : ℕ) (s : Schedule C) → IsLawfulSchedule latest s → latest ≤ later → IsLawfulSchedule later s
  lawful_later latest later s law h = record {
    received_first = law.received_first;
    postponed_first = law.postponed_first;
    one_each = law.one_each;
    distinct = law.distinct;
    below = law.below;
    expiries = expiries_later latest later s.running s.pending h law.expiries;
    bounded = law.bounded;
  }

  -- ---- items that were not received come behind
  waiting_behind : (items new : List (Item C)) → waiting_numbers (items ++ new) ≡ waiting_numbers items ++ waiting_numbers new
  waiting_behind [] new = refl
  waiting_behind (Received event ∷ items) new = ap (λ numbers. event.number ∷ numbers) (waiting_behind items new)
  waiting_behind (Posted event ∷ items) new = ap (λ numbers. event.number ∷ numbers) (waiting_behind items new)
  waiting_behind (Expiry timer ∷ items) new = waiting_behind items new

  pub none_first : (items : List (Item C)) → NoneReceived items → ReceivedFirst items
  none_first [] none = tt
  none_first (Received event ∷ items) none = absurd none
  none_first (Posted event ∷ items) none = none
  none_first (Expiry timer ∷ items) none = none

  none_behind : (items new : List (Item C)) → NoneReceived items → NoneReceived new → NoneReceived (items ++ new)
  none_behind [] new none more = more
  none_behind (Received event ∷ items) new none more = absurd none
  none_behind (Posted event ∷ items) new none more = none_behind items new none more
  none_behind (Expiry timer ∷ items) new none more = none_behind items new none more

  received_behind : (items new : List (Item C)) → ReceivedFirst items → NoneReceived new → ReceivedFirst (items ++ new)
  received_behind [] new r more = none_first new more
  received_behind (Received event ∷ items) new r more = received_behind items new r more
  received_behind (Posted event ∷ items) new r more = none_behind items new r more
  received_behind (Expiry timer ∷ items) new r more = none_behind items new r more

  postponed_behind : (numbers : List ℕ) (items new : List (Item C)) → PostponedFirst numbers items → PostponedFirst numbers (items ++ new)
  postponed_behind [] items new p = tt
  postponed_behind (number ∷ numbers) [] new p = absurd p
  postponed_behind (number ∷ numbers) (Received event ∷ items) new p = (p.0, postponed_behind numbers items new p.1)
  postponed_behind (number ∷ numbers) (Posted event ∷ items) new p = absurd p
  postponed_behind (number ∷ numbers) (Expiry timer ∷ items) new p = absurd p

  -- ---- an event is posted
  posted_waits : (timer : Timer) (event : Event C) (items : List (Item C)) → expiry_waits timer (items ++ Posted event ∷ []) ≡ expiry_waits timer items
  posted_waits timer event [] = refl
  posted_waits timer event (item ∷ items) = ap (λ waits. is_expiry timer item || waits) (posted_waits timer event items)

  posted_expiries : (latest : ℕ) (running : List (Running C)) (event : Event C) (items : List (Item C)) → ExpiriesDue latest running items
      → ExpiriesDue latest running (items ++ Posted event ∷ [])
  posted_expiries latest running event [] e = tt
  posted_expiries latest running event (Received other ∷ items) e = posted_expiries latest running event items e
  posted_expiries latest running event (Posted other ∷ items) e = posted_expiries latest running event items e
  posted_expiries latest running event (Expiry timer ∷ items) e =
      (e.0, posted_waits timer event items ∙ e.1, posted_expiries latest running event items e.2)

  pub posted_waiting : (s : Schedule C) (event : Event C) (n : ℕ)
      → times n (waiting_numbers (s.pending ++ Posted event ∷ [])) ≡ times n (waiting_numbers s.pending) + times n (event.number ∷ [])
  posted_waiting s event n =
      ap (times n) (waiting_behind s.pending (Posted event ∷ [])) ∙ times-append n (waiting_numbers s.pending) (event.number ∷ [])

  abbrev with_posted : Schedule C → Event C → Schedule C
  with_posted s event = record s { pending = s.pending ++ Posted event ∷ []; next_number = s.next_number + 1 }

  posted_live : (s : Schedule C) (event : Event C) (n : ℕ)
      → times n (live_numbers (with_posted s event)) ≡ (if event.number == n then 1 else 0) + times n (live_numbers s)
  posted_live s event n =
      let split : times n (live_numbers (with_posted s event)) ≡ times n (waiting_numbers (s.pending ++ Posted event ∷ [])) + times n (running_numbers s.running) =
      times-append n (waiting_numbers (s.pending ++ Posted event ∷ [])) (running_numbers s.running) in
      omega (arith, split, live_times n s, posted_waiting s event n)

  pub lawful_posted : (latest : ℕ) (s : Schedule C) (event : Event C) → event.number ≡ s.next_number → s.next_number < 2 ^ 63 → IsLawfulSchedule latest s
      → IsLawfulSchedule latest (record s { pending = s.pending ++ Posted event ∷ []; next_number = s.next_number + 1 })
  lawful_posted latest s event same reserved law = record {
    received_first = received_behind s.pending (Posted event ∷ []) law.received_first tt;
    postponed_first = postponed_behind s.postponed s.pending (Posted event ∷ []) law.postponed_first;
    one_each = law.one_each;
    distinct = λ n.
        rw (posted_live s event n) (once_more n event.number (times n (live_numbers s)) (law.distinct n) (λ e. law.below n (omega (arith, e, same))));
    below = λ n more.
        rw (posted_live s event n) (none_more n event.number (times n (live_numbers s)) (λ e. omega (arith, e, same, more)) (law.below n (omega (arith, more))));
    expiries = posted_expiries latest s.running event s.pending law.expiries;
    bounded = omega (arith, reserved);
  }

  -- ---- fewer time-outs
  none_fewer_by : (timer : Timer) (one : Running C) (rest : List (Running C)) (stays : Bool) → runs_for timer one ≡ false → running_of timer rest ≡ None
      → running_of timer (if stays then one ∷ rest else rest) ≡ None
  none_fewer_by timer one rest true other n = rw other n
  none_fewer_by timer one rest false other n = n

  none_fewer : (test : Running C → Bool) (timer : Timer) (running : List (Running C)) → running_of timer running ≡ None
      → running_of timer (filter test running) ≡ None
  none_fewer test timer [] n = refl
  none_fewer test timer (one ∷ running) n =
      let parts = not_first timer one running n in
      none_fewer_by timer one (filter test running) (test one) parts.0 (none_fewer test timer running parts.1)

  one_each_fewer_by : (one : Running C) (rest : List (Running C)) (stays : Bool) → running_of one.timer rest ≡ None → OneEach rest
      → OneEach (if stays then one ∷ rest else rest)
  one_each_fewer_by one rest true n o = (n, o)
  one_each_fewer_by one rest false n o = o

  one_each_fewer : (test : Running C → Bool) (running : List (Running C)) → OneEach running → OneEach (filter test running)
  one_each_fewer test [] o = tt
  one_each_fewer test (one ∷ running) o =
      one_each_fewer_by one (filter test running) (test one) (none_fewer test one.timer running o.0) (one_each_fewer test running o.1)

  times_fewer_by : (n more : ℕ) (stays : Bool) (one : Running C) (rest : List (Running C)) → times n (running_numbers rest) ≤ more
      → times n (running_numbers (if stays then one ∷ rest else rest)) ≤ (if one.number == n then 1 else 0) + more
  times_fewer_by n more true one rest h = omega (arith, h)
  times_fewer_by n more false one rest h = omega (arith, h)

  times_fewer : (test : Running C → Bool) (n : ℕ) (running : List (Running C)) → times n (running_numbers (filter test running)) ≤ times n (running_numbers running)
  times_fewer test n [] = omega arith
  times_fewer test n (one ∷ running) = times_fewer_by n _ (test one) one (filter test running) (times_fewer test n running)

  -- the time-outs of other timers run on
  runs_on_by : (timer other : Timer) (one : Running C) (running rest : List (Running C)) (same : Bool) → same_timer timer one.timer ≡ same → same_timer timer other ≡ false
      → running_of other rest ≡ running_of other running → running_of other (if not same then one ∷ rest else rest) ≡ running_of other (one ∷ running)
  runs_on_by timer other one running rest true e d h =
      let equal : timer ≡ one.timer = timers_same timer one.timer e in
      let differ : same_timer other one.timer ≡ false = rw (← equal) (same_timer_flips other timer ∙ d) in
      rw differ h
  runs_on_by timer other one running rest false e d h = rw h refl

  pub runs_on : (timer other : Timer) (running : List (Running C)) → same_timer timer other ≡ false
      → running_of other (without_running timer running) ≡ running_of other running
  runs_on timer other [] d = refl
  runs_on timer other (one ∷ running) d =
      runs_on_by timer other one running (without_running timer running) (same_timer timer one.timer) refl d (runs_on timer other running d)

  -- ---- without the expiry of a timer
  waiting_without_by : (timer : Timer) (items rest : List (Item C)) (same : Bool) → waiting_numbers rest ≡ waiting_numbers items
      → waiting_numbers (if not same then Expiry timer ∷ rest else rest) ≡ waiting_numbers items
  waiting_without_by timer items rest true e = e
  waiting_without_by timer items rest false e = e

  waiting_without : (timer : Timer) (items : List (Item C)) → waiting_numbers (without_expiry timer items) ≡ waiting_numbers items
  waiting_without timer [] = refl
  waiting_without timer (Received event ∷ items) = ap (λ numbers. event.number ∷ numbers) (waiting_without timer items)
  waiting_without timer (Posted event ∷ items) = ap (λ numbers. event.number ∷ numbers) (waiting_without timer items)
  waiting_without timer (Expiry other ∷ items) =
      waiting_without_by other items (without_expiry timer items) (same_timer timer other) (waiting_without timer items)

  none_without_by : (timer : Timer) (rest : List (Item C)) (same : Bool) → NoneReceived rest → NoneReceived (if not same then Expiry timer ∷ rest else rest)
  none_without_by timer rest true none = none
  none_without_by timer rest false none = none

  none_without : (timer : Timer) (items : List (Item C)) → NoneReceived items → NoneReceived (without_expiry timer items)
  none_without timer [] none = tt
  none_without timer (Received event ∷ items) none = absurd none
  none_without timer (Posted event ∷ items) none = none_without timer items none
  none_without timer (Expiry other ∷ items) none =
      none_without_by other (without_expiry timer items) (same_timer timer other) (none_without timer items none)

  received_without : (timer : Timer) (items : List (Item C)) → ReceivedFirst items → ReceivedFirst (without_expiry timer items)
  received_without timer [] r = tt
  received_without timer (Received event ∷ items) r = received_without timer items r
  received_without timer (Posted event ∷ items) r = none_without timer items r
  received_without timer (Expiry other ∷ items) r = none_first (without_expiry timer (Expiry other ∷ items)) (none_without timer (Expiry other ∷ items) r)

  postponed_without : (timer : Timer) (numbers : List ℕ) (items : List (Item C)) → PostponedFirst numbers items → PostponedFirst numbers (without_expiry timer items)
  postponed_without timer [] items p = tt
  postponed_without timer (number ∷ numbers) [] p = absurd p
  postponed_without timer (number ∷ numbers) (Received event ∷ items) p = (p.0, postponed_without timer numbers items p.1)
  postponed_without timer (number ∷ numbers) (Posted event ∷ items) p = absurd p
  postponed_without timer (number ∷ numbers) (Expiry other ∷ items) p = absurd p

  waits_without_by : (timer : Timer) (item : Item C) (rest : List (Item C)) (stays : Bool) → is_expiry timer item ≡ false → expiry_waits timer rest ≡ false
      → expiry_waits timer (if stays then item ∷ rest else rest) ≡ false
  waits_without_by timer item rest true d w = rw d w
  waits_without_by timer item rest false d w = w

  waits_without : (gone_timer timer : Timer) (items : List (Item C)) → expiry_waits timer items ≡ false → expiry_waits timer (without_expiry gone_timer items) ≡ false
  waits_without gone_timer timer [] w = refl
  waits_without gone_timer timer (item ∷ items) w =
      let parts = neither (is_expiry timer item) (expiry_waits timer items) w in
      waits_without_by timer item (without_expiry gone_timer items) (not (is_expiry gone_timer item)) parts.0 (waits_without gone_timer timer items parts.1)

  -- ---- a time-out is cancelled: its expiry goes with it, and those of the others keep their time-outs
  expiries_without_by : (latest : ℕ) (timer other : Timer) (running : List (Running C)) (rest : List (Item C)) (same : Bool) → same_timer timer other ≡ same
      → IsDueBy latest (running_of other running) → expiry_waits other rest ≡ false → ExpiriesDue latest (without_running timer running) rest
      → ExpiriesDue latest (without_running timer running) (if not same then Expiry other ∷ rest else rest)
  expiries_without_by latest timer other running rest true e d w k = k
  expiries_without_by latest timer other running rest false e d w k = (rw (runs_on timer other running e) d, w, k)

  expiries_without : (latest : ℕ) (timer : Timer) (running : List (Running C)) (items : List (Item C)) → ExpiriesDue latest running items
      → ExpiriesDue latest (without_running timer running) (without_expiry timer items)
  expiries_without latest timer running [] e = tt
  expiries_without latest timer running (Received event ∷ items) e = expiries_without latest timer running items e
  expiries_without latest timer running (Posted event ∷ items) e = expiries_without latest timer running items e
  expiries_without latest timer running (Expiry other ∷ items) e =
      expiries_without_by latest timer other running (without_expiry timer items) (same_timer timer other) refl e.0 (waits_without timer other items e.1)
      (expiries_without latest timer running items e.2)

  pub cancelled_waiting : (s : Schedule C) (timer : Timer) → waiting_numbers (cancelled_in s timer).pending ≡ waiting_numbers s.pending
  cancelled_waiting s timer = waiting_without timer s.pending

  pub cancelled_live : (s : Schedule C) (timer : Timer) (n : ℕ) → times n (live_numbers (cancelled_in s timer)) ≤ times n (live_numbers s)
  cancelled_live s timer n =
      let split : times n (live_numbers (cancelled_in s timer)) ≡ times n (waiting_numbers (without_expiry timer s.pending)) + times n (running_numbers (without_running timer s.running)) =
      times-append n (waiting_numbers (without_expiry timer s.pending)) (running_numbers (without_running timer s.running)) in
      let waiting : times n (waiting_numbers (without_expiry timer s.pending)) ≡ times n (waiting_numbers s.pending) = ap (times n) (waiting_without timer s.pending) in
      let running : times n (running_numbers (without_running timer s.running)) ≤ times n (running_numbers s.running) = times_fewer _ n s.running in
      omega (arith, split, waiting, running, live_times n s)

  pub cancelled_first : (s : Schedule C) (timer : Timer) → first_received s.postponed (cancelled_in s timer).pending ≡ first_received s.postponed s.pending
  cancelled_first s timer = first_cancelled s.postponed timer s.pending

  pub stopped : (s : Schedule C) (timer : Timer) → running_of timer (cancelled_in s timer).running ≡ None
  stopped s timer = gone timer s.running

  pub lawful_cancelled : (latest : ℕ) (s : Schedule C) (timer : Timer) → IsLawfulSchedule latest s → IsLawfulSchedule latest (cancelled_in s timer)
  lawful_cancelled latest s timer law = record {
    received_first = received_without timer s.pending law.received_first;
    postponed_first = postponed_without timer s.postponed s.pending law.postponed_first;
    one_each = one_each_fewer _ s.running law.one_each;
    distinct = λ n. omega (arith, cancelled_live s timer n, law.distinct n);
    below = λ n more. omega (arith, cancelled_live s timer n, law.below n more);
    expiries = expiries_without latest timer s.running s.pending law.expiries;
    bounded = law.bounded;
  }

  -- ---- no event is postponed any more
  abbrev with_none_postponed : Schedule C → Schedule C
  with_none_postponed s = record s { postponed = [] }

  lawful_none_postponed : (latest : ℕ) (s : Schedule C) → IsLawfulSchedule latest s → IsLawfulSchedule latest (with_none_postponed s)
  lawful_none_postponed latest s law = record {
    received_first = law.received_first;
    postponed_first = tt;
    one_each = law.one_each;
    distinct = law.distinct;
    below = law.below;
    expiries = law.expiries;
    bounded = law.bounded;
  }

  pub lawful_retried : (latest : ℕ) (s : Schedule C) (changed : Bool) → IsLawfulSchedule latest s → IsLawfulSchedule latest (retried_in s changed)
  lawful_retried latest s true law = lawful_cancelled latest (with_none_postponed s) timer.State (lawful_none_postponed latest s law)
  lawful_retried latest s false law = law

  pub retried_waiting : (s : Schedule C) (changed : Bool) → waiting_numbers (retried_in s changed).pending ≡ waiting_numbers s.pending
  retried_waiting s true = waiting_without timer.State s.pending
  retried_waiting s false = refl

  pub retried_live : (s : Schedule C) (changed : Bool) (n : ℕ) → times n (live_numbers (retried_in s changed)) ≤ times n (live_numbers s)
  retried_live s true n = cancelled_live (with_none_postponed s) timer.State n
  retried_live s false n = omega arith

  pub retried_next : (s : Schedule C) (changed : Bool) → (retried_in s changed).next_number ≡ s.next_number
  retried_next s true = refl
  retried_next s false = refl

  -- ---- events that are received come in front of items
  abbrev as_received : List (Event C) → List (Item C)
  as_received events = map Received events

  waiting_front : (new : List (Event C)) (items : List (Item C)) → waiting_numbers (as_received new ++ items) ≡ numbers_of new ++ waiting_numbers items
  waiting_front [] items = refl
  waiting_front (event ∷ new) items = ap (λ numbers. event.number ∷ numbers) (waiting_front new items)

  waiting_alone : (new : List (Event C)) → waiting_numbers (as_received new) ≡ numbers_of new
  waiting_alone [] = refl
  waiting_alone (event ∷ new) = ap (λ numbers. event.number ∷ numbers) (waiting_alone new)

  received_front : (new : List (Event C)) (items : List (Item C)) → ReceivedFirst items → ReceivedFirst (as_received new ++ items)
  received_front [] items r = r
  received_front (event ∷ new) items r = received_front new items r

  received_alone : (new : List (Event C)) → ReceivedFirst (as_received new)
  received_alone [] = tt
  received_alone (event ∷ new) = received_alone new

  expiries_front : (latest : ℕ) (running : List (Running C)) (new : List (Event C)) (items : List (Item C)) → ExpiriesDue latest running items
      → ExpiriesDue latest running (as_received new ++ items)
  expiries_front latest running [] items e = e
  expiries_front latest running (event ∷ new) items e = expiries_front latest running new items e

  expiries_alone : (latest : ℕ) (running : List (Running C)) (new : List (Event C)) → ExpiriesDue latest running (as_received new)
  expiries_alone latest running [] = tt
  expiries_alone latest running (event ∷ new) = expiries_alone latest running new

  -- ---- no posted event is postponed: a postponed number is that of a received one, and stands once
  abbrev PostedFree : List ℕ → List (Item C) → Type 0
  PostedFree postponed [] = Unit {0}
  PostedFree postponed (Received event ∷ items) = PostedFree postponed items
  PostedFree postponed (Posted event ∷ items) = (has postponed event.number ≡ false) × PostedFree postponed items
  PostedFree postponed (Expiry timer ∷ items) = PostedFree postponed items

  posted_free_none : (items : List (Item C)) → PostedFree [] items
  posted_free_none [] = tt
  posted_free_none (Received event ∷ items) = posted_free_none items
  posted_free_none (Posted event ∷ items) = (refl, posted_free_none items)
  posted_free_none (Expiry timer ∷ items) = posted_free_none items

  posted_free_more : (number : ℕ) (postponed : List ℕ) (items : List (Item C)) → times number (waiting_numbers items) ≡ 0 → PostedFree postponed items
      → PostedFree (number ∷ postponed) items
  posted_free_more number postponed [] none f = tt
  posted_free_more number postponed (Received event ∷ items) none f =
      posted_free_more number postponed items (rest_none (event.number == number) _ none).1 f
  posted_free_more number postponed (Posted event ∷ items) none f =
      let parts = rest_none (event.number == number) _ none in
      (rw (eq_flips event.number number parts.0) f.0, posted_free_more number postponed items parts.1 f.1)
  posted_free_more number postponed (Expiry timer ∷ items) none f = posted_free_more number postponed items none f

  posted_free : (numbers : List ℕ) (items : List (Item C)) → PostponedFirst numbers items → ((n : ℕ) → times n (waiting_numbers items) ≤ 1) → PostedFree numbers items
  posted_free [] items p once = posted_free_none items
  posted_free (number ∷ numbers) [] p once = tt
  posted_free (number ∷ numbers) (Received event ∷ items) p once =
      posted_free_more number numbers items (rest_of_one number event.number _ p.0 (once number))
      (posted_free numbers items p.1 (λ n. rest_once n event.number _ (once n)))
  posted_free (number ∷ numbers) (Posted event ∷ items) p once = absurd p
  posted_free (number ∷ numbers) (Expiry timer ∷ items) p once = absurd p

  -- ---- events that are received are placed behind those that are postponed
  waiting_placed_by : (n more : ℕ) (new : List (Event C)) (item : Item C) (items rest : List (Item C)) (skip : Bool) → more ≡ times n (numbers_of new)
      → times n (waiting_numbers rest) ≡ times n (waiting_numbers items) + more
      → times n (waiting_numbers (if skip then item ∷ rest else as_received new ++ item ∷ items)) ≡ times n (waiting_numbers (item ∷ items)) + more
  waiting_placed_by n more new (Received event) items rest true e h = omega (arith, h)
  waiting_placed_by n more new (Posted event) items rest true e h = omega (arith, h)
  waiting_placed_by n more new (Expiry timer) items rest true e h = h
  waiting_placed_by n more new item items rest false e h =
      let split = times-append n (numbers_of new) (waiting_numbers (item ∷ items)) in
      ap (times n) (waiting_front new (item ∷ items)) ∙ omega (arith, split, e)

  waiting_placed : (n : ℕ) (postponed : List ℕ) (new : List (Event C)) (items : List (Item C))
      → times n (waiting_numbers (placed postponed (as_received new) items)) ≡ times n (waiting_numbers items) + times n (numbers_of new)
  waiting_placed n postponed new [] = ap (times n) (waiting_alone new) ∙ omega arith
  waiting_placed n postponed new (item ∷ items) =
      waiting_placed_by n _ new item items (placed postponed (as_received new) items) (is_postponed postponed item) refl (waiting_placed n postponed new items)

  received_placed_by : (new : List (Event C)) (event : Event C) (items rest : List (Item C)) (skip : Bool) → ReceivedFirst items → ReceivedFirst rest
      → ReceivedFirst (if skip then Received event ∷ rest else as_received new ++ Received event ∷ items)
  received_placed_by new event items rest true r s = s
  received_placed_by new event items rest false r s = received_front new (Received event ∷ items) r

  received_placed : (postponed : List ℕ) (new : List (Event C)) (items : List (Item C)) → PostedFree postponed items → ReceivedFirst items
      → ReceivedFirst (placed postponed (as_received new) items)
  received_placed postponed new [] f r = received_alone new
  received_placed postponed new (Received event ∷ items) f r =
      received_placed_by new event items (placed postponed (as_received new) items) (has postponed event.number) r (received_placed postponed new items f r)
  received_placed postponed new (Posted event ∷ items) f r = rw f.0 (received_front new (Posted event ∷ items) r)
  received_placed postponed new (Expiry timer ∷ items) f r = received_front new (Expiry timer ∷ items) r

  postponed_placed : (postponed numbers : List ℕ) (new : List (Event C)) (items : List (Item C)) → ((n : ℕ) → has numbers n ≡ true → has postponed n ≡ true)
      → PostponedFirst numbers items → PostponedFirst numbers (placed postponed (as_received new) items)
  postponed_placed postponed [] new items h p = tt
  postponed_placed postponed (number ∷ numbers) new [] h p = absurd p
  postponed_placed postponed (number ∷ numbers) new (Received event ∷ items) h p =
      let found : has postponed event.number ≡ true = rw p.0 (h number (rw (same_number number) refl)) in
      rw found (p.0, postponed_placed postponed numbers new items (λ n k. h n (has_step (number == n) k)) p.1)
  postponed_placed postponed (number ∷ numbers) new (Posted event ∷ items) h p = absurd p
  postponed_placed postponed (number ∷ numbers) new (Expiry timer ∷ items) h p = absurd p

  expiries_placed_by : (latest : ℕ) (running : List (Running C)) (new : List (Event C)) (item : Item C) (items rest : List (Item C)) (skip : Bool)
      → ExpiriesDue latest running (item ∷ items) → ExpiriesDue latest running (item ∷ rest)
      → ExpiriesDue latest running (if skip then item ∷ rest else as_received new ++ item ∷ items)
  expiries_placed_by latest running new item items rest true e k = k
  expiries_placed_by latest running new item items rest false e k = expiries_front latest running new (item ∷ items) e

  expiries_placed : (latest : ℕ) (running : List (Running C)) (postponed : List ℕ) (new : List (Event C)) (items : List (Item C)) → ExpiriesDue latest running items
      → ExpiriesDue latest running (placed postponed (as_received new) items)
  expiries_placed latest running postponed new [] e = expiries_alone latest running new
  expiries_placed latest running postponed new (Received event ∷ items) e =
      expiries_placed_by latest running new (Received event) items (placed postponed (as_received new) items) (has postponed event.number) e
      (expiries_placed latest running postponed new items e)
  expiries_placed latest running postponed new (Posted event ∷ items) e =
      expiries_placed_by latest running new (Posted event) items (placed postponed (as_received new) items) (has postponed event.number) e
      (expiries_placed latest running postponed new items e)
  expiries_placed latest running postponed new (Expiry timer ∷ items) e = expiries_front latest running new (Expiry timer ∷ items) e

  -- ---- events are inserted
  pub inserted_waiting : (s : Schedule C) (inserts : List (Insert C)) (n : ℕ)
      → times n (waiting_numbers (inserted_in s inserts).pending) ≡ times n (waiting_numbers s.pending) + times n (numbers_of (numbered s.next_number inserts))
  inserted_waiting s inserts n = waiting_placed n s.postponed (numbered s.next_number inserts) s.pending

  pub inserted_live : (s : Schedule C) (inserts : List (Insert C)) (n : ℕ)
      → times n (live_numbers (inserted_in s inserts)) ≡ times n (live_numbers s) + times n (numbers_of (numbered s.next_number inserts))
  inserted_live s inserts n =
      let new = as_received (numbered s.next_number inserts) in
      let split : times n (live_numbers (inserted_in s inserts)) ≡ times n (waiting_numbers (placed s.postponed new s.pending)) + times n (running_numbers s.running) =
      times-append n (waiting_numbers (placed s.postponed new s.pending)) (running_numbers s.running) in
      omega (arith, split, waiting_placed n s.postponed (numbered s.next_number inserts) s.pending, live_times n s)

  waiting_once : (s : Schedule C) → ((n : ℕ) → times n (live_numbers s) ≤ 1) → (n : ℕ) → times n (waiting_numbers s.pending) ≤ 1
  waiting_once s once n = omega (arith, once n, live_times n s)

  inserted_once : (latest : ℕ) (s : Schedule C) (inserts : List (Insert C)) (n : ℕ) → IsLawfulSchedule latest s → (n < s.next_number) ⊎ (s.next_number ≤ n)
      → times n (live_numbers (inserted_in s inserts)) ≤ 1
  inserted_once latest s inserts n law (inl less) = omega (arith, inserted_live s inserts n, law.distinct n, numbered_times n s.next_number inserts less)
  inserted_once latest s inserts n law (inr more) = omega (arith, inserted_live s inserts n, law.below n more, numbered_times_once n s.next_number inserts)

  pub lawful_inserted : (latest : ℕ) (s : Schedule C) (inserts : List (Insert C)) → s.next_number + length inserts ≤ 2 ^ 63 → IsLawfulSchedule latest s
      → IsLawfulSchedule latest (inserted_in s inserts)
  lawful_inserted latest s inserts reserved law = record {
    received_first = received_placed s.postponed (numbered s.next_number inserts) s.pending
        (posted_free s.postponed s.pending law.postponed_first (waiting_once s law.distinct)) law.received_first;
    postponed_first = postponed_placed s.postponed s.postponed (numbered s.next_number inserts) s.pending (λ n h. h) law.postponed_first;
    one_each = law.one_each;
    distinct = λ n. inserted_once latest s inserts n law (cases_lt n s.next_number);
    below = λ n more. omega (arith, inserted_live s inserts n, law.below n (omega (arith, more)), numbered_times_above n s.next_number inserts more);
    expiries = expiries_placed latest s.running s.postponed (numbered s.next_number inserts) s.pending law.expiries;
    bounded = reserved;
  }

  -- ---- a time-out begins
  abbrev with_running : Schedule C → Running C → Schedule C
  with_running s one = record s { running = s.running ++ one ∷ []; next_number = s.next_number + 1 }

  running_more : (running : List (Running C)) (one : Running C) → running_numbers (running ++ one ∷ []) ≡ running_numbers running ++ one.number ∷ []
  running_more [] one = refl
  running_more (other ∷ running) one = ap (λ numbers. other.number ∷ numbers) (running_more running one)

  begun_live : (s : Schedule C) (one : Running C) (n : ℕ) → times n (live_numbers (with_running s one)) ≡ (if one.number == n then 1 else 0) + times n (live_numbers s)
  begun_live s one n =
      let split : times n (live_numbers (with_running s one)) ≡ times n (waiting_numbers s.pending) + times n (running_numbers (s.running ++ one ∷ [])) =
      times-append n (waiting_numbers s.pending) (running_numbers (s.running ++ one ∷ [])) in
      let more : times n (running_numbers (s.running ++ one ∷ [])) ≡ times n (running_numbers s.running ++ one.number ∷ []) = ap (times n) (running_more s.running one) in
      omega (arith, split, more, times-append n (running_numbers s.running) (one.number ∷ []), live_times n s)

  due_found_by : (latest : ℕ) (first : Running C) (few more : Option (Running C)) (same : Bool) → (IsDueBy latest few → IsDueBy latest more)
      → IsDueBy latest (if same then Some first else few) → IsDueBy latest (if same then Some first else more)
  due_found_by latest first few more true f d = d
  due_found_by latest first few more false f d = f d

  due_begun : (latest : ℕ) (timer : Timer) (running : List (Running C)) (one : Running C) → IsDueBy latest (running_of timer running)
      → IsDueBy latest (running_of timer (running ++ one ∷ []))
  due_begun latest timer [] one d = absurd d
  due_begun latest timer (first ∷ running) one d =
      due_found_by latest first (running_of timer running) (running_of timer (running ++ one ∷ [])) (runs_for timer first) (due_begun latest timer running one) d

  expiries_begun : (latest : ℕ) (running : List (Running C)) (one : Running C) (items : List (Item C)) → ExpiriesDue latest running items
      → ExpiriesDue latest (running ++ one ∷ []) items
  expiries_begun latest running one [] e = tt
  expiries_begun latest running one (Received event ∷ items) e = expiries_begun latest running one items e
  expiries_begun latest running one (Posted event ∷ items) e = expiries_begun latest running one items e
  expiries_begun latest running one (Expiry timer ∷ items) e = (due_begun latest timer running one e.0, e.1, expiries_begun latest running one items e.2)

  lawful_running : (latest : ℕ) (s : Schedule C) (one : Running C) → one.number ≡ s.next_number → running_of one.timer s.running ≡ None → s.next_number + 1 ≤ 2 ^ 63
      → IsLawfulSchedule latest s → IsLawfulSchedule latest (with_running s one)
  lawful_running latest s one same none reserved law = record {
    received_first = law.received_first;
    postponed_first = law.postponed_first;
    one_each = one_each_more s.running one law.one_each none;
    distinct = λ n.
        rw (begun_live s one n) (once_more n one.number (times n (live_numbers s)) (law.distinct n) (λ e. law.below n (omega (arith, e, same))));
    below = λ n more.
        rw (begun_live s one n) (none_more n one.number (times n (live_numbers s)) (λ e. omega (arith, e, same, more)) (law.below n (omega (arith, more))));
    expiries = expiries_begun latest s.running one s.pending law.expiries;
    bounded = reserved;
  }

  lawful_begun : (latest now : ℕ) (s : Schedule C) (timer : Timer) (time : Time) (content : C) → running_of timer s.running ≡ None
      → s.next_number + number_taken time ≤ 2 ^ 63 → IsLawfulSchedule latest s → IsLawfulSchedule latest (begun_in now s timer time content)
  lawful_begun latest now s timer Infinity content none reserved law = law
  lawful_begun latest now s timer (After time) content none reserved law =
      lawful_running latest s (record { timer = timer; number = s.next_number; due = due_after time now; content = content }) refl none reserved law

  begun_waiting : (now : ℕ) (s : Schedule C) (timer : Timer) (time : Time) (content : C) → (begun_in now s timer time content).pending ≡ s.pending
  begun_waiting now s timer Infinity content = refl
  begun_waiting now s timer (After time) content = refl

  begun_next : (now : ℕ) (s : Schedule C) (timer : Timer) (time : Time) (content : C) → (begun_in now s timer time content).next_number ≡ s.next_number + number_taken time
  begun_next now s timer Infinity content = omega arith
  begun_next now s timer (After time) content = refl

  -- the number that the time-out gets was none before
  begun_old : (now : ℕ) (s : Schedule C) (timer : Timer) (time : Time) (content : C) (n : ℕ) → n < s.next_number
      → times n (live_numbers (begun_in now s timer time content)) ≡ times n (live_numbers s)
  begun_old now s timer Infinity content n less = refl
  begun_old now s timer (After time) content n less =
      let one : Running C = record { timer = timer; number = s.next_number; due = due_after time now; content = content } in
      begun_live s one n ∙ same_more n s.next_number (times n (live_numbers s)) (λ e. omega (arith, e, less))

  -- ---- a time-out that runs has another content
  numbers_by : (same : Bool) (one : Running C) (content : C) (rest others : List (Running C)) → running_numbers rest ≡ running_numbers others
      → running_numbers (if same then record one { content = content } ∷ rest else one ∷ rest) ≡ one.number ∷ running_numbers others
  numbers_by true one content rest others h = ap (λ (numbers : List ℕ). one.number ∷ numbers) h
  numbers_by false one content rest others h = ap (λ (numbers : List ℕ). one.number ∷ numbers) h

  updated_numbers : (timer : Timer) (content : C) (running : List (Running C)) → running_numbers (with_content timer content running) ≡ running_numbers running
  updated_numbers timer content [] = refl
  updated_numbers timer content (one ∷ others) =
      numbers_by (runs_for timer one) one content (with_content timer content others) others (updated_numbers timer content others)

  found_by : (same : Bool) (other : Timer) (one : Running C) (content : C) (rest : List (Running C))
      → is_some (running_of other (if same then record one { content = content } ∷ rest else one ∷ rest)) ≡ is_some (running_of other (one ∷ rest))
  found_by true other one content rest = elim (cases_Bool (runs_for other one)) [ inl mine ↦ rw mine refl | inr apart ↦ rw apart refl ]
  found_by false other one content rest = refl

  rest_by : (mine : Bool) (one : Running C) (few more : Option (Running C)) → is_some few ≡ is_some more
      → is_some (if mine then Some one else few) ≡ is_some (if mine then Some one else more)
  rest_by true one few more h = refl
  rest_by false one few more h = h

  -- the same timers run
  pub updated_runs : (timer other : Timer) (content : C) (running : List (Running C)) → is_some (running_of other (with_content timer content running)) ≡ is_some (running_of other running)
  updated_runs timer other content [] = refl
  updated_runs timer other content (one ∷ others) =
      found_by (runs_for timer one) other one content (with_content timer content others)
      ∙ rest_by (runs_for other one) one (running_of other (with_content timer content others)) (running_of other others) (updated_runs timer other content others)

  none_is : (found : Option (Running C)) → is_some found ≡ false → found ≡ None
  none_is None h = refl
  none_is (Some one) h = cc

  updated_none : (timer other : Timer) (content : C) (running : List (Running C)) → running_of other running ≡ None → running_of other (with_content timer content running) ≡ None
  updated_none timer other content running none = none_is _ (updated_runs timer other content running ∙ ap is_some none)

  each_by : (same : Bool) (one : Running C) (content : C) (rest : List (Running C)) → running_of one.timer rest ≡ None → OneEach rest
      → OneEach (if same then record one { content = content } ∷ rest else one ∷ rest)
  each_by true one content rest h k = (h, k)
  each_by false one content rest h k = (h, k)

  updated_each : (timer : Timer) (content : C) (running : List (Running C)) → OneEach running → OneEach (with_content timer content running)
  updated_each timer content [] each = tt
  updated_each timer content (one ∷ others) each =
      each_by (runs_for timer one) one content (with_content timer content others) (updated_none timer one.timer content others each.0) (updated_each timer content others each.1)

  due_by : (mine : Bool) (latest : ℕ) (one other : Running C) (few more : Option (Running C)) → other.due ≡ one.due → (IsDueBy latest few → IsDueBy latest more)
      → IsDueBy latest (if mine then Some one else few) → IsDueBy latest (if mine then Some other else more)
  due_by true latest one other few more same f d = rw same d
  due_by false latest one other few more same f d = f d

  due_either : (same : Bool) (latest : ℕ) (other : Timer) (one : Running C) (content : C) (rest others : List (Running C))
      → (IsDueBy latest (running_of other others) → IsDueBy latest (running_of other rest)) → IsDueBy latest (running_of other (one ∷ others))
      → IsDueBy latest (running_of other (if same then record one { content = content } ∷ rest else one ∷ rest))
  due_either true latest other one content rest others f d =
      due_by (runs_for other one) latest one (record one { content = content }) (running_of other others) (running_of other rest) refl f d
  due_either false latest other one content rest others f d =
      due_by (runs_for other one) latest one one (running_of other others) (running_of other rest) refl f d

  updated_due : (latest : ℕ) (timer other : Timer) (content : C) (running : List (Running C)) → IsDueBy latest (running_of other running)
      → IsDueBy latest (running_of other (with_content timer content running))
  updated_due latest timer other content [] d = d
  updated_due latest timer other content (one ∷ others) d =
      due_either (runs_for timer one) latest other one content (with_content timer content others) others (updated_due latest timer other content others) d

  updated_expiries : (latest : ℕ) (timer : Timer) (content : C) (running : List (Running C)) (items : List (Item C)) → ExpiriesDue latest running items
      → ExpiriesDue latest (with_content timer content running) items
  updated_expiries latest timer content running [] e = tt
  updated_expiries latest timer content running (Received event ∷ items) e = updated_expiries latest timer content running items e
  updated_expiries latest timer content running (Posted event ∷ items) e = updated_expiries latest timer content running items e
  updated_expiries latest timer content running (Expiry other ∷ items) e =
      (updated_due latest timer other content running e.0, e.1, updated_expiries latest timer content running items e.2)

  updated_live : (s : Schedule C) (timer : Timer) (content : C) (n : ℕ) → times n (live_numbers (updated_in s timer content)) ≡ times n (live_numbers s)
  updated_live s timer content n = ap (λ (numbers : List ℕ). times n (waiting_numbers s.pending ++ numbers)) (updated_numbers timer content s.running)

  lawful_updated : (latest : ℕ) (s : Schedule C) (timer : Timer) (content : C) → IsLawfulSchedule latest s → IsLawfulSchedule latest (updated_in s timer content)
  lawful_updated latest s timer content law = record {
    received_first = law.received_first;
    postponed_first = law.postponed_first;
    one_each = updated_each timer content s.running law.one_each;
    distinct = λ n. rw (updated_live s timer content n) (law.distinct n);
    below = λ n more. rw (updated_live s timer content n) (law.below n more);
    expiries = updated_expiries latest timer content s.running s.pending law.expiries;
    bounded = law.bounded;
  }

  -- ---- what is asked of a timer is done
  lawful_restarted : (latest now : ℕ) (s : Schedule C) (timer : Timer) (time : Time) (content : C) → s.next_number + number_taken time ≤ 2 ^ 63 → IsLawfulSchedule latest s
      → IsLawfulSchedule latest (restarted_in now s timer time content)
  lawful_restarted latest now s timer time content reserved law =
      lawful_begun latest now (cancelled_in s timer) timer time content (stopped s timer) reserved (lawful_cancelled latest s timer law)

  restarted_waiting : (now : ℕ) (s : Schedule C) (timer : Timer) (time : Time) (content : C) → waiting_numbers (restarted_in now s timer time content).pending ≡ waiting_numbers s.pending
  restarted_waiting now s timer time content = ap waiting_numbers (begun_waiting now (cancelled_in s timer) timer time content) ∙ waiting_without timer s.pending

  restarted_live : (now : ℕ) (s : Schedule C) (timer : Timer) (time : Time) (content : C) (n : ℕ) → n < s.next_number
      → times n (live_numbers (restarted_in now s timer time content)) ≤ times n (live_numbers s)
  restarted_live now s timer time content n less = rw (begun_old now (cancelled_in s timer) timer time content n less) (cancelled_live s timer n)

  -- an update of a timer that runs, or not
  lawful_update : (runs : Bool) (latest now : ℕ) (s : Schedule C) (timer : Timer) (content : C) → s.next_number + (if runs then 0 else 1) ≤ 2 ^ 63 → IsLawfulSchedule latest s
      → IsLawfulSchedule latest (if runs then updated_in s timer content else restarted_in now s timer (After 0) content)
  lawful_update true latest now s timer content reserved law = lawful_updated latest s timer content law
  lawful_update false latest now s timer content reserved law = lawful_restarted latest now s timer (After 0) content reserved law

  lawful_asked : (latest now : ℕ) (s : Schedule C) (timer : Timer) (wanted : Asked C) → s.next_number + taken_by s.running timer wanted ≤ 2 ^ 63 → IsLawfulSchedule latest s
      → IsLawfulSchedule latest (asked_in now s timer wanted)
  lawful_asked latest now s timer (asked.Set time content) reserved law = lawful_restarted latest now s timer time content reserved law
  lawful_asked latest now s timer asked.Cancel reserved law = lawful_cancelled latest s timer law
  lawful_asked latest now s timer (asked.Update content) reserved law = lawful_update (is_some (running_of timer s.running)) latest now s timer content reserved law

  update_waiting : (runs : Bool) (now : ℕ) (s : Schedule C) (timer : Timer) (content : C)
      → waiting_numbers (if runs then updated_in s timer content else restarted_in now s timer (After 0) content).pending ≡ waiting_numbers s.pending
  update_waiting true now s timer content = refl
  update_waiting false now s timer content = restarted_waiting now s timer (After 0) content

  asked_waiting : (now : ℕ) (s : Schedule C) (timer : Timer) (wanted : Asked C) → waiting_numbers (asked_in now s timer wanted).pending ≡ waiting_numbers s.pending
  asked_waiting now s timer (asked.Set time content) = restarted_waiting now s timer time content
  asked_waiting now s timer asked.Cancel = waiting_without timer s.pending
  asked_waiting now s timer (asked.Update content) = update_waiting (is_some (running_of timer s.running)) now s timer content

  update_next : (runs : Bool) (now : ℕ) (s : Schedule C) (timer : Timer) (content : C)
      → (if runs then updated_in s timer content else restarted_in now s timer (After 0) content).next_number ≡ s.next_number + (if runs then 0 else 1)
  update_next true now s timer content = omega arith
  update_next false now s timer content = refl

  pub asked_next : (now : ℕ) (s : Schedule C) (timer : Timer) (wanted : Asked C) → (asked_in now s timer wanted).next_number ≡ s.next_number + taken_by s.running timer wanted
  asked_next now s timer (asked.Set time content) = begun_next now (cancelled_in s timer) timer time content
  asked_next now s timer asked.Cancel = omega arith
  asked_next now s timer (asked.Update content) = update_next (is_some (running_of timer s.running)) now s timer content

  update_live : (runs : Bool) (now : ℕ) (s : Schedule C) (timer : Timer) (content : C) (n : ℕ) → n < s.next_number
      → times n (live_numbers (if runs then updated_in s timer content else restarted_in now s timer (After 0) content)) ≤ times n (live_numbers s)
  update_live true now s timer content n less = rw (updated_live s timer content n) (omega arith)
  update_live false now s timer content n less = restarted_live now s timer (After 0) content n less

  asked_live : (now : ℕ) (s : Schedule C) (timer : Timer) (wanted : Asked C) (n : ℕ) → n < s.next_number → times n (live_numbers (asked_in now s timer wanted)) ≤ times n (live_numbers s)
  asked_live now s timer (asked.Set time content) n less = restarted_live now s timer time content n less
  asked_live now s timer asked.Cancel n less = cancelled_live s timer n
  asked_live now s timer (asked.Update content) n less = update_live (is_some (running_of timer s.running)) now s timer content n less

  -- ---- another timer runs as it did
  without_by : (gone mine : Bool) (other : Timer) (one : Running C) (rest : List (Running C)) (more : Option (Running C)) → runs_for other one ≡ mine → (gone ≡ true → mine ≡ false)
      → is_some (running_of other rest) ≡ is_some more → is_some (running_of other (if not gone then one ∷ rest else rest)) ≡ is_some (if mine then Some one else more)
  without_by true true other one rest more is apart h = let same : true ≡ false = apart refl in cc
  without_by true false other one rest more is apart h = h
  without_by false true other one rest more is apart h = rw is refl
  without_by false false other one rest more is apart h = rw is h

  apart_timers : (timer other : Timer) (one : Running C) → same_timer other timer ≡ false → runs_for timer one ≡ true → runs_for other one ≡ false
  apart_timers timer other one apart mine = let same : timer ≡ one.timer = timers_same timer one.timer mine in rw (← same) apart

  pub cancelled_runs : (timer other : Timer) → same_timer other timer ≡ false → (running : List (Running C)) → is_some (running_of other (without_running timer running)) ≡ is_some (running_of other running)
  cancelled_runs timer other apart [] = refl
  cancelled_runs timer other apart (one ∷ others) =
      without_by (runs_for timer one) (runs_for other one) other one (without_running timer others) (running_of other others) refl (apart_timers timer other one apart)
      (cancelled_runs timer other apart others)

  more_runs : (other : Timer) (one : Running C) → runs_for other one ≡ false → (running : List (Running C)) → is_some (running_of other (running ++ one ∷ [])) ≡ is_some (running_of other running)
  more_runs other one apart [] = rw apart refl
  more_runs other one apart (first ∷ running) =
      rest_by (runs_for other first) first (running_of other (running ++ one ∷ [])) (running_of other running) (more_runs other one apart running)

  begun_runs : (now : ℕ) (s : Schedule C) (timer other : Timer) (time : Time) (content : C) → same_timer other timer ≡ false
      → is_some (running_of other (begun_in now s timer time content).running) ≡ is_some (running_of other s.running)
  begun_runs now s timer other Infinity content apart = refl
  begun_runs now s timer other (After time) content apart =
      more_runs other (record { timer = timer; number = s.next_number; due = due_after time now; content = content }) apart s.running

  restarted_runs : (now : ℕ) (s : Schedule C) (timer other : Timer) (time : Time) (content : C) → same_timer other timer ≡ false
      → is_some (running_of other (restarted_in now s timer time content).running) ≡ is_some (running_of other s.running)
  restarted_runs now s timer other time content apart =
      begun_runs now (cancelled_in s timer) timer other time content apart ∙ cancelled_runs timer other apart s.running

  update_runs : (runs : Bool) (now : ℕ) (s : Schedule C) (timer other : Timer) (content : C) → same_timer other timer ≡ false
      → is_some (running_of other (if runs then updated_in s timer content else restarted_in now s timer (After 0) content).running) ≡ is_some (running_of other s.running)
  update_runs true now s timer other content apart = updated_runs timer other content s.running
  update_runs false now s timer other content apart = restarted_runs now s timer other (After 0) content apart

  asked_runs : (now : ℕ) (s : Schedule C) (timer other : Timer) (wanted : Asked C) → same_timer other timer ≡ false
      → is_some (running_of other (asked_in now s timer wanted).running) ≡ is_some (running_of other s.running)
  asked_runs now s timer other (asked.Set time content) apart = restarted_runs now s timer other time content apart
  asked_runs now s timer other asked.Cancel apart = cancelled_runs timer other apart s.running
  asked_runs now s timer other (asked.Update content) apart = update_runs (is_some (running_of timer s.running)) now s timer other content apart

  -- so what others take is the same
  taken_same : (one other : List (Running C)) (timer : Timer) (wanted : Asked C) → is_some (running_of timer one) ≡ is_some (running_of timer other)
      → taken_by one timer wanted ≡ taken_by other timer wanted
  taken_same one other timer (asked.Set time content) same = refl
  taken_same one other timer asked.Cancel same = refl
  taken_same one other timer (asked.Update content) same = ap (λ (runs : Bool). if runs then 0 else 1) same

  pub numbers_same : (now : ℕ) (s : Schedule C) (timer : Timer) (wanted : Asked C) (settings : List (Setting C)) → is_asked timer settings ≡ false
      → numbers_taken (asked_in now s timer wanted).running settings ≡ numbers_taken s.running settings
  numbers_same now s timer wanted [] none = refl
  numbers_same now s timer wanted (setting ∷ settings) none =
      let parts = both_false (same_timer timer setting.timer) (is_asked timer settings) none in
      let apart : same_timer setting.timer timer ≡ false = same_timer_flips setting.timer timer ∙ parts.0 in
      let first = taken_same (asked_in now s timer wanted).running s.running setting.timer setting.asked (asked_runs now s timer setting.timer wanted apart) in
      let rest = numbers_same now s timer wanted settings parts.1 in
      omega (arith, first, rest)

  -- ---- settings are done, in their order
  pub set_all_waiting : (now : ℕ) (s : Schedule C) (settings : List (Setting C)) → waiting_numbers (all_set_in now s settings).pending ≡ waiting_numbers s.pending
  set_all_waiting now s [] = refl
  set_all_waiting now s (setting ∷ settings) = set_all_waiting now (set_in now s setting) settings ∙ asked_waiting now s setting.timer setting.asked

  pub set_all_next : (now : ℕ) (s : Schedule C) (settings : List (Setting C)) → s.next_number ≤ (all_set_in now s settings).next_number
  set_all_next now s [] = omega arith
  set_all_next now s (setting ∷ settings) =
      let first = asked_next now s setting.timer setting.asked in let rest = set_all_next now (set_in now s setting) settings in omega (arith, first, rest)

  pub set_all_live : (now : ℕ) (s : Schedule C) (settings : List (Setting C)) (n : ℕ) → n < s.next_number
      → times n (live_numbers (all_set_in now s settings)) ≤ times n (live_numbers s)
  set_all_live now s [] n less = omega arith
  set_all_live now s (setting ∷ settings) n less =
      let below_next : n < (set_in now s setting).next_number = omega (arith, asked_next now s setting.timer setting.asked, less) in
      let first = asked_live now s setting.timer setting.asked n less in
      let rest = set_all_live now (set_in now s setting) settings n below_next in
      omega (arith, first, rest)

  pub lawful_set_all : (now : ℕ) (s : Schedule C) (settings : List (Setting C)) → AskedOnce settings → s.next_number + numbers_taken s.running settings ≤ 2 ^ 63
      → IsLawfulSchedule now s → IsLawfulSchedule now (all_set_in now s settings)
  lawful_set_all now s [] once reserved law = law
  lawful_set_all now s (setting ∷ settings) once reserved law =
      let same = numbers_same now s setting.timer setting.asked settings once.0 in
      lawful_set_all now (set_in now s setting) settings once.1 (omega (arith, asked_next now s setting.timer setting.asked, same, reserved))
      (lawful_asked now now s setting.timer setting.asked (omega (arith, reserved)) law)

  -- ---- in the order in which they are due the time-outs are the same
  one_each_put_by : (one other : Running C) (others rest : List (Running C)) (before : Bool) → running_of one.timer (other ∷ others) ≡ None
      → OneEach (other ∷ others) → running_of other.timer rest ≡ None → OneEach rest → OneEach (if before then one ∷ other ∷ others else other ∷ rest)
  one_each_put_by one other others rest true n o m p = (n, o)
  one_each_put_by one other others rest false n o m p = (m, p)

  one_each_put : (one : Running C) (ordered : List (Running C)) → running_of one.timer ordered ≡ None → OneEach ordered → OneEach (put_in_order one ordered)
  one_each_put one [] n o = (refl, tt)
  one_each_put one (other ∷ others) n o =
      let parts = not_first one.timer other others n in
      let differ : runs_for other.timer one ≡ false = same_timer_flips other.timer one.timer ∙ parts.0 in
      one_each_put_by one other others (put_in_order one others) (is_before one other) n o (put_none other.timer one others differ o.0) (one_each_put one others parts.1 o.1)

  one_each_in_order : (running : List (Running C)) → OneEach running → OneEach (in_order running)
  one_each_in_order [] o = tt
  one_each_in_order (one ∷ running) o =
      one_each_put one (in_order running) (ordered_none one.timer running o.0) (one_each_in_order running o.1)

  -- ---- each time-out is the one that is found for its timer
  abbrev AreFound : List (Running C) → List (Running C) → Type 0
  AreFound all [] = Unit {0}
  AreFound all (one ∷ running) = (running_of one.timer all ≡ Some one) × AreFound all running

  found_behind : (first : Running C) (all running : List (Running C)) → running_of first.timer running ≡ None → AreFound all running → AreFound (first ∷ all) running
  found_behind first all [] n f = tt
  found_behind first all (one ∷ running) n f =
      let parts = not_first first.timer one running n in
      let differ : runs_for one.timer first ≡ false = same_timer_flips one.timer first.timer ∙ parts.0 in
      (rw differ f.0, found_behind first all running parts.1 f.1)

  are_found : (running : List (Running C)) → OneEach running → AreFound running running
  are_found [] o = tt
  are_found (one ∷ running) o = (rw (same_timer_self one.timer) refl, found_behind one running running o.0 (are_found running o.1))

  -- ---- the time-outs that expire: each runs and is due, and its expiry does not wait
  abbrev AreExpiring : ℕ → List (Running C) → List (Item C) → List (Running C) → Type 0
  AreExpiring latest running items [] = Unit {0}
  AreExpiring latest running items (one ∷ expiring) =
      IsDueBy latest (running_of one.timer running) × (expiry_waits one.timer items ≡ false) × AreExpiring latest running items expiring

  module _ (latest : ℕ) (running : List (Running C)) (items : List (Item C)) where
    expiring_among_by : (one : Running C) (rest : List (Running C)) (due waits : Bool) → is_due_by latest one.due ≡ due → expiry_waits one.timer items ≡ waits
        → running_of one.timer running ≡ Some one → AreExpiring latest running items rest
        → AreExpiring latest running items (if due && not waits then one ∷ rest else rest)
    expiring_among_by one rest true true d w f a = a
    expiring_among_by one rest true false d w f a = (rw f d, w, a)
    expiring_among_by one rest false waits d w f a = a

    expiring_among : (among : List (Running C)) → AreFound running among
        → AreExpiring latest running items (filter (λ (one : Running C). is_due_by latest one.due && not (expiry_waits one.timer items)) among)
    expiring_among [] f = tt
    expiring_among (one ∷ among) f =
        expiring_among_by one _ (is_due_by latest one.due) (expiry_waits one.timer items) refl refl f.0 (expiring_among among f.1)

    expiring_put_by : (one other : Running C) (others rest : List (Running C)) (before : Bool) → AreExpiring latest running items (one ∷ other ∷ others)
        → AreExpiring latest running items rest → AreExpiring latest running items (if before then one ∷ other ∷ others else other ∷ rest)
    expiring_put_by one other others rest true a k = a
    expiring_put_by one other others rest false a k = (a.2.0, a.2.1, k)

    expiring_put : (one : Running C) (ordered : List (Running C)) → AreExpiring latest running items (one ∷ ordered)
        → AreExpiring latest running items (put_in_order one ordered)
    expiring_put one [] a = a
    expiring_put one (other ∷ others) a =
        expiring_put_by one other others (put_in_order one others) (is_before one other) a (expiring_put one others (a.0, a.1, a.2.2))

    expiring_in_order : (expiring : List (Running C)) → AreExpiring latest running items expiring → AreExpiring latest running items (in_order expiring)
    expiring_in_order [] a = tt
    expiring_in_order (one ∷ expiring) a = expiring_put one (in_order expiring) (a.0, a.1, expiring_in_order expiring a.2)

    are_expiring : OneEach running → AreExpiring latest running items (expiring_by latest items running)
    are_expiring o = expiring_in_order _ (expiring_among running (are_found running o))

  -- ---- their expiries come behind all that waits
  abbrev expiries_of : List (Running C) → List (Item C)
  expiries_of expiring = map (λ (one : Running C). Expiry one.timer) expiring

  none_expired : (expiring : List (Running C)) → NoneReceived (expiries_of expiring)
  none_expired [] = tt
  none_expired (one ∷ expiring) = none_expired expiring

  waiting_expired : (items : List (Item C)) (expiring : List (Running C)) → waiting_numbers (items ++ expiries_of expiring) ≡ waiting_numbers items
  waiting_expired [] [] = refl
  waiting_expired [] (one ∷ expiring) = waiting_expired [] expiring
  waiting_expired (Received event ∷ items) expiring = ap (λ numbers. event.number ∷ numbers) (waiting_expired items expiring)
  waiting_expired (Posted event ∷ items) expiring = ap (λ numbers. event.number ∷ numbers) (waiting_expired items expiring)
  waiting_expired (Expiry timer ∷ items) expiring = waiting_expired items expiring

  waits_expired_alone : (timer : Timer) (expiring : List (Running C)) → running_of timer expiring ≡ None → expiry_waits timer (expiries_of expiring) ≡ false
  waits_expired_alone timer [] n = refl
  waits_expired_alone timer (one ∷ expiring) n =
      let parts = not_first timer one expiring n in rw parts.0 (waits_expired_alone timer expiring parts.1)

  waits_expired : (timer : Timer) (items : List (Item C)) (expiring : List (Running C)) → expiry_waits timer items ≡ false → running_of timer expiring ≡ None
      → expiry_waits timer (items ++ expiries_of expiring) ≡ false
  waits_expired timer [] expiring w n = waits_expired_alone timer expiring n
  waits_expired timer (item ∷ items) expiring w n =
      let parts = neither (is_expiry timer item) (expiry_waits timer items) w in rw parts.0 (waits_expired timer items expiring parts.1 n)

  -- what waits in front already does not expire again
  not_again : (latest : ℕ) (running : List (Running C)) (timer : Timer) (items : List (Item C)) (expiring : List (Running C))
      → AreExpiring latest running (Expiry timer ∷ items) expiring → running_of timer expiring ≡ None
  not_again latest running timer items [] a = refl
  not_again latest running timer items (one ∷ expiring) a =
      let parts = neither (same_timer one.timer timer) (expiry_waits one.timer items) a.1 in
      let differ : runs_for timer one ≡ false = same_timer_flips timer one.timer ∙ parts.0 in
      rw differ (not_again latest running timer items expiring a.2)

  expiring_behind : (latest : ℕ) (running : List (Running C)) (item : Item C) (items : List (Item C)) (expiring : List (Running C))
      → AreExpiring latest running (item ∷ items) expiring → AreExpiring latest running items expiring
  expiring_behind latest running item items [] a = tt
  expiring_behind latest running item items (one ∷ expiring) a =
      (a.0, (neither (is_expiry one.timer item) (expiry_waits one.timer items) a.1).1, expiring_behind latest running item items expiring a.2)

  expiries_expired : (latest : ℕ) (running : List (Running C)) (items : List (Item C)) (expiring : List (Running C)) → ExpiriesDue latest running items
      → AreExpiring latest running items expiring → OneEach expiring → ExpiriesDue latest running (items ++ expiries_of expiring)
  expiries_expired latest running [] [] e a o = tt
  expiries_expired latest running [] (one ∷ expiring) e a o =
      (a.0, waits_expired_alone one.timer expiring o.0, expiries_expired latest running [] expiring tt a.2 o.1)
  expiries_expired latest running (Received event ∷ items) expiring e a o =
      expiries_expired latest running items expiring e (expiring_behind latest running (Received event) items expiring a) o
  expiries_expired latest running (Posted event ∷ items) expiring e a o =
      expiries_expired latest running items expiring e (expiring_behind latest running (Posted event) items expiring a) o
  expiries_expired latest running (Expiry timer ∷ items) expiring e a o = (
    e.0,
    waits_expired timer items expiring e.1 (not_again latest running timer items expiring a),
    expiries_expired latest running items expiring e.2 (expiring_behind latest running (Expiry timer) items expiring a) o,
  )

  pub expired_waiting : (s : Schedule C) (expiring : List (Running C)) → waiting_numbers (with_all_expired expiring s).pending ≡ waiting_numbers s.pending
  expired_waiting s expiring = waiting_expired s.pending expiring

  expired_live : (s : Schedule C) (expiring : List (Running C)) (n : ℕ) → times n (live_numbers (with_all_expired expiring s)) ≡ times n (live_numbers s)
  expired_live s expiring n = ap (λ numbers. times n (numbers ++ running_numbers s.running)) (waiting_expired s.pending expiring)

  pub lawful_expired : (latest : ℕ) (s : Schedule C) → IsLawfulSchedule latest s
      → IsLawfulSchedule latest (with_all_expired (expiring_by latest s.pending s.running) s)
  lawful_expired latest s law =
      let expiring = expiring_by latest s.pending s.running in
      record {
        received_first = received_behind s.pending (expiries_of expiring) law.received_first (none_expired expiring);
        postponed_first = postponed_behind s.postponed s.pending (expiries_of expiring) law.postponed_first;
        one_each = law.one_each;
        distinct = λ n. rw (expired_live s expiring n) (law.distinct n);
        below = λ n more. expired_live s expiring n ∙ law.below n more;
        expiries = expiries_expired latest s.running s.pending expiring law.expiries (are_expiring latest s.running s.pending law.one_each)
            (one_each_in_order _ (one_each_fewer _ s.running law.one_each));
        bounded = law.bounded;
      }
