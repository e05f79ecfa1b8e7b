-- Time-outs begin and expire: queue, time-outs and schedule after it.
use Rattle.std.proofs.Common.{◌≡◌, ℕ, ◌+◌, ◌-◌, ◌<◌, ◌≤◌, Bool, true, false, not, ◌==◌, ◌&&◌, List, [], ◌∷◌, ◌++◌, Option, Some, None, map, filter, refl, sym, ◌∙◌, ap, arith, length, if◌then◌else◌}
use Rattle.std.proofs.lemmas.List.{length-append}
use Rattle.std.specs.Prelude.{is_some, Result, Ok, Err, IfOk}
use Rattle.std.specs.Option.{option_map}
use Rattle.std.proofs.lemmas.Bool.{and_parts, not-true}
use Rattle.st_events.specs.declared.timer.Timer.{Timer}
use Rattle.st_events.specs.Timers.{same_timer}
use Rattle.st_events.proofs.ComparedLemmas.{same_number, timers_same}
use Rattle.st_timeouts.specs.declared.due.Due.{Due}
use Rattle.st_timeouts.specs.declared.due.Due.TheVariants.{Zero, At}
use Rattle.st_timeouts.specs.declared.running.Running.{Running}
use Rattle.st_timeouts.specs.Running.{running_of, without_running, is_zero, is_due_by, is_before, put_in_order, in_order}
use Rattle.st_timeouts.specs.Timeouts.{Timeouts, Listed, all_of, live, name_of, without_listed, with_expired, expiring, first_of, with_first_expired, shown, next_due_of}
use Rattle.st_timeouts.proofs.OrderLemmas.{expiring_after, all_of_more, all_of_with_expired, all_of_without_listed, gone}
use Rattle.st_timeouts.specs.Waiting.{waiting_of}
use Rattle.st_timeouts.proofs.HandedLemmas.{due_name, due_expired}
use Rattle.st_agenda.specs.declared.queued.Queued.TheVariants as queued
use Rattle.st_agenda.specs.Items.{has}
use Rattle.st_agenda.specs.Timing.{expiring_by, next_due_among, without_expiry}
use Rattle.st_agenda.specs.Waiting.{Place, Unseen, Waiting, place_numbers, AreBelow, IsOrdered}
use Rattle.st_agenda.specs.declared.schedule.Schedule.{Schedule}
use Rattle.st_agenda.specs.Agenda.{IsMarked, AreMarked, Agrees, IsKept, timeout_numbers, items_in, schedule_of, cancelled_in, with_all_expired, with_first_expiry, all_but_first}
use Rattle.st_agenda.proofs.PendingLemmas.{no_tail, differs, has_below, below_more}
use Rattle.st_agenda.proofs.ItemsLemmas.{AllFound, all_found, items_begun, items_cancelled, items_expiry_more, items_same, expiring_is, next_due_is, slots_counted}
use Rattle.st_agenda.proofs.AgreesLemmas.{has_behind, expiry_before, expiry_last}
use Rattle.st_agenda.proofs.AgendaLemmas.{events_behind, counted_behind, numbers_marked, agrees_begun, agrees_cancelled, alive_behind, alive_same}
use Rattle.st_agenda.proofs.ReceiveLemmas.{number_no_more}

due_by : (now : ℕ) (due : Due) → is_due_by now due ≡ true → is_zero due ≡ false
due_by now Zero d = cc
due_by now (At moment) d = refl

module _ {C : Type 0} where
  -- ---- a time-out begins, and what ran of its timer runs no more
  module _ (waiting after : Waiting C) (listed : List (Listed C)) (expiries : ℕ) (a : Agrees waiting listed expiries) (o : IsOrdered after) (one : Listed C)
      (same : after ≡ record waiting { next_number = waiting.next_number + 1 }) (number_is : one.running.number ≡ waiting.next_number) (unmarked : one.expired ≡ false) where
    items_same_as : after.items ≡ waiting.items
    items_same_as = ap (λ (w : Waiting C). w.items) same

    stopped : running_of one.running.timer (all_of (without_listed one.running.timer listed)) ≡ None
    stopped = rw (all_of_without_listed one.running.timer listed) (gone one.running.timer (all_of listed))

    agrees_stopped : Agrees waiting (without_listed one.running.timer listed) expiries
    agrees_stopped = agrees_cancelled waiting listed expiries a one.running.timer

    pub begun_agrees : Agrees after (without_listed one.running.timer listed ++ one ∷ []) expiries
    begun_agrees =
        agrees_begun waiting after (without_listed one.running.timer listed) expiries agrees_stopped o one items_same_as (ap (λ (w : Waiting C). w.next_number) same) number_is unmarked stopped

    items_begun_are : items_in (without_listed one.running.timer listed ++ one ∷ []) after.items ≡ without_expiry one.running.timer (items_in listed waiting.items)
    items_begun_are =
        let fresh = has_below waiting.next_number one.running.number (place_numbers waiting.items) a.ordered.below (omega (arith, number_is)) in
        rw items_same_as (items_begun (without_listed one.running.timer listed) one waiting.items fresh stopped ∙ items_cancelled listed one.running.timer waiting.items)

    -- slots leave after it that do not count
    pub begun_is : (swept : Waiting C)
        → items_in (without_listed one.running.timer listed ++ one ∷ []) swept.items ≡ items_in (without_listed one.running.timer listed ++ one ∷ []) after.items
        → swept ≡ record after { items = swept.items }
        → schedule_of swept (without_listed one.running.timer listed ++ one ∷ [])
        ≡ record (cancelled_in (schedule_of waiting listed) one.running.timer) {
          running = without_running one.running.timer (all_of listed) ++ one.running ∷ [];
          next_number = waiting.next_number + 1;
        }
    begun_is swept same_items rest =
        let postponed : swept.postponed ≡ waiting.postponed = ap (λ (w : Waiting C). w.postponed) rest ∙ ap (λ (w : Waiting C). w.postponed) same in
        let next : swept.next_number ≡ waiting.next_number + 1 = ap (λ (w : Waiting C). w.next_number) rest ∙ ap (λ (w : Waiting C). w.next_number) same in
        rw (same_items, items_begun_are, postponed, next, all_of_more (without_listed one.running.timer listed) one, all_of_without_listed one.running.timer listed) refl

  -- ---- what holds of each time-out holds of each in order
  abbrev AllAre : (Running C → Type 0) → List (Running C) → Type 0
  AllAre P [] = Unit {0}
  AllAre P (one ∷ others) = P one × AllAre P others

  all_put_by : (P : Running C → Type 0) (one other : Running C) (others : List (Running C)) (before : Bool) → P one → P other → AllAre P others → AllAre P (put_in_order one others)
      → AllAre P (if before then one ∷ other ∷ others else other ∷ put_in_order one others)
  all_put_by P one other others true p q a k = (p, (q, a))
  all_put_by P one other others false p q a k = (q, k)

  all_put : (P : Running C → Type 0) (one : Running C) (others : List (Running C)) → P one → AllAre P others → AllAre P (put_in_order one others)
  all_put P one [] p a = (p, tt)
  all_put P one (other ∷ others) p a = all_put_by P one other others (is_before one other) p a.0 a.1 (all_put P one others p a.1)

  all_in_order : (P : Running C → Type 0) (running : List (Running C)) → AllAre P running → AllAre P (in_order running)
  all_in_order P [] a = tt
  all_in_order P (one ∷ others) a = all_put P one (in_order others) a.0 (all_in_order P others a.1)

  -- what is known of a time-out that expires
  record CanExpire (all : List (Listed C)) (waiting : Waiting C) (one : Running C) : Type 0 where
    found : running_of one.timer (all_of all) ≡ Some one
    free : has (place_numbers waiting.items) one.number ≡ false
    below : one.number < waiting.next_number
    waits : is_zero one.due ≡ false

  due_later : (now : ℕ) (one : Running C) → is_due_by now one.due ≡ true → is_zero one.due ≡ false
  due_later now one d = due_by now one.due d

  unmarked_free : (one : Listed C) (places : List (Place C)) (mark : Bool) → mark ≡ false → IsMarked one places mark → has (place_numbers places) one.running.number ≡ false
  unmarked_free one places true e m = cc
  unmarked_free one places false e m = m

  expire_by : (all : List (Listed C)) (waiting : Waiting C) (now : ℕ) (one : Listed C) (others : List (Listed C)) (due : Bool) → (is_due_by now one.running.due && not one.expired) ≡ due
      → IsMarked one waiting.items one.expired → running_of one.running.timer (all_of all) ≡ Some one.running → one.running.number < waiting.next_number
      → AllAre (CanExpire all waiting) (all_of (filter (λ (one : Listed C). is_due_by now one.running.due && not one.expired) others))
      → AllAre (CanExpire all waiting) (all_of (if due then one ∷ filter (λ (one : Listed C). is_due_by now one.running.due && not one.expired) others
      else filter (λ (one : Listed C). is_due_by now one.running.due && not one.expired) others))
  expire_by all waiting now one others true e m f b a =
      let both = and_parts (is_due_by now one.running.due) (not one.expired) e in
      let mark = not-true one.expired both.1 in
      (record { found = f; free = unmarked_free one waiting.items one.expired mark m; below = b; waits = due_later now one.running both.0 }, a)
  expire_by all waiting now one others false e m f b a = a

  all_expire : (all listed : List (Listed C)) (waiting : Waiting C) (now : ℕ) → AllFound (all_of all) listed → AreMarked listed waiting.items → AreBelow waiting.next_number (timeout_numbers listed)
      → AllAre (CanExpire all waiting) (all_of (filter (λ (one : Listed C). is_due_by now one.running.due && not one.expired) listed))
  all_expire all [] waiting now f m b = tt
  all_expire all (one ∷ listed) waiting now f m b =
      expire_by all waiting now one listed (is_due_by now one.running.due && not one.expired) refl m.0 f.0 b.0 (all_expire all listed waiting now f.1 m.1 b.1)

  -- ---- the mark of a time-out that expires
  marked_still : (timer : Timer) (number : ℕ) (one : Listed C) (places : List (Place C)) (mark : Bool) → (number == one.running.number) ≡ false → IsMarked one places mark
      → IsMarked (record one { expired = mark }) (places ++ Unseen (queued.Expiry timer number) ∷ []) mark
  marked_still timer number one places true d m = (expiry_before one.running.timer one.running.number places _ m.0, m.1)
  marked_still timer number one places false d m = has_behind one.running.number places (queued.Expiry timer number) m d

  marked_as : (timer : Timer) (running : Running C) (one : Listed C) (places : List (Place C)) (same : Bool) → same_timer timer one.running.timer ≡ same
      → timer ≡ running.timer → is_zero running.due ≡ false → (same ≡ true → one.running ≡ running)
      → (same ≡ false → (running.number == one.running.number) ≡ false) → IsMarked one places one.expired
      → IsMarked (record one { expired = if same then true else one.expired }) (places ++ Unseen (queued.Expiry timer running.number) ∷ []) (if same then true else one.expired)
  marked_as timer running one places true e t z f d m =
      let equal = f refl in
      let same : one.running.timer ≡ timer = sym (timers_same timer one.running.timer e) in
      (rw (same, ap (λ (r : Running C). r.number) equal) (expiry_last timer running.number places), rw equal z)
  marked_as timer running one places false e t z f d m = marked_still timer running.number one places one.expired (d refl) m

  some_same : {one other : Running C} → ◌≡◌ {A = Option (Running C)} (Some one) (Some other) → one ≡ other
  some_same e = cc

  the_same : (all : List (Listed C)) (timer : Timer) (running : Running C) (one : Listed C) → running_of timer (all_of all) ≡ Some running
      → running_of one.running.timer (all_of all) ≡ Some one.running → same_timer timer one.running.timer ≡ true → one.running ≡ running
  the_same all timer running one r f e =
      let equal : timer ≡ one.running.timer = timers_same timer one.running.timer e in
      let found : running_of timer (all_of all) ≡ Some one.running = rw equal f in
      some_same (sym found ∙ r)

  head_differs : (timer : Timer) (running : Running C) (one : Listed C) (listed : List (Listed C)) (same : Bool) → same ≡ false
      → has (timeout_numbers (if not same then one ∷ without_listed timer listed else without_listed timer listed)) running.number ≡ false
      → (running.number == one.running.number) ≡ false
  head_differs timer running one listed true e h = cc
  head_differs timer running one listed false e h = (differs running.number (timeout_numbers (one ∷ without_listed timer listed)) h).0

  tail_free : (timer : Timer) (running : Running C) (one : Listed C) (listed : List (Listed C)) (same : Bool)
      → has (timeout_numbers (if not same then one ∷ without_listed timer listed else without_listed timer listed)) running.number ≡ false
      → has (timeout_numbers (without_listed timer listed)) running.number ≡ false
  tail_free timer running one listed true h = h
  tail_free timer running one listed false h = no_tail (one.running.number == running.number) _ h

  marked_all : (all listed : List (Listed C)) (timer : Timer) (running : Running C) (places : List (Place C)) → timer ≡ running.timer → is_zero running.due ≡ false
      → running_of timer (all_of all) ≡ Some running → AllFound (all_of all) listed → has (timeout_numbers (without_listed timer listed)) running.number ≡ false
      → AreMarked listed places → AreMarked (with_expired timer listed) (places ++ Unseen (queued.Expiry timer running.number) ∷ [])
  marked_all all [] timer running places t z r f h m = tt
  marked_all all (one ∷ listed) timer running places t z r f h m = (
    marked_as timer running one places (same_timer timer one.running.timer) refl t z
        (λ e. the_same all timer running one r f.0 e)
        (λ e. head_differs timer running one listed (same_timer timer one.running.timer) e h) m.0,
    marked_all all listed timer running places t z r f.1 (tail_free timer running one listed (same_timer timer one.running.timer) h) m.1,
  )

-- ---- one time-out expires
module _ {C : Type 0} (waiting : Waiting C) (listed : List (Listed C)) (expiries now : ℕ) (k : IsKept waiting listed expiries) where
  pub due_is : expiring_by now (items_in listed waiting.items) (all_of listed) ≡ expiring now listed
  due_is = expiring_is listed now waiting.items k.agrees.one_each k.agrees.marked

  pub next_due_seen : next_due_among (items_in listed waiting.items) (all_of listed) ≡ next_due_of listed
  next_due_seen = next_due_is listed waiting.items k.agrees.one_each k.agrees.marked

  module _ (first : Running C) (rest : List (Running C)) (e : expiring now listed ≡ first ∷ rest) where
    all_can : AllAre (CanExpire listed waiting) (first ∷ rest)
    all_can = rw e at (all_in_order (CanExpire listed waiting) (all_of (filter (λ (one : Listed C). is_due_by now one.running.due && not one.expired) listed))
        (all_expire listed listed waiting now (all_found listed k.agrees.one_each) k.agrees.marked k.agrees.below))

    first_can : CanExpire listed waiting first
    first_can = all_can.0

    pub expiry_free : has (place_numbers waiting.items) first.number ≡ false
    expiry_free = first_can.free

    pub expiry_below : first.number < waiting.next_number
    expiry_below = first_can.below

    first_live : is_some (live first.timer first.number listed) ≡ true
    first_live = rw (first_can.found, same_number first.number) refl

    module _ (after : Waiting C) (o : IsOrdered after)
        (same : after ≡ record waiting { items = waiting.items ++ Unseen (queued.Expiry first.timer first.number) ∷ []; staged = waiting.staged - 1 }) where
      after_items : after.items ≡ waiting.items ++ Unseen (queued.Expiry first.timer first.number) ∷ []
      after_items = ap (λ (w : Waiting C). w.items) same

      pub expiring_kept : IsKept after (with_expired first.timer listed) (expiries + 1)
      expiring_kept =
          let next : waiting.next_number ≤ after.next_number = rw (ap (λ (w : Waiting C). w.next_number) same) (let self : waiting.next_number ≤ waiting.next_number = omega arith in self) in
          record {
            agrees = record {
              ordered = o;
              events = rw after_items (events_behind waiting.items (queued.Expiry first.timer first.number) k.agrees.events);
              one_each = rw (all_of_with_expired first.timer listed) k.agrees.one_each;
              distinct = rw (numbers_marked first.timer listed) k.agrees.distinct;
              below = rw (numbers_marked first.timer listed) (below_more waiting.next_number after.next_number (timeout_numbers listed) next k.agrees.below);
              marked = rw after_items (marked_all listed listed first.timer first waiting.items refl first_can.waits first_can.found (all_found listed k.agrees.one_each)
                  (number_no_more first.timer first listed k.agrees.distinct first_can.found) k.agrees.marked);
              counted = rw after_items (omega (arith, k.agrees.counted, counted_behind waiting.items (queued.Expiry first.timer first.number)));
            };
            alive = rw same (alive_same listed (with_expired first.timer listed) _ (all_of_with_expired first.timer listed)
                (alive_behind listed waiting.postponed waiting.items (queued.Expiry first.timer first.number) first_live k.alive));
          }

      pub expiring_schedule : schedule_of after (with_expired first.timer listed) ≡ with_all_expired (first ∷ []) (schedule_of waiting listed)
      expiring_schedule =
          rw (
            same,
            all_of_with_expired first.timer listed,
            items_same listed (with_expired first.timer listed) (waiting.items ++ Unseen (queued.Expiry first.timer first.number) ∷ []) (all_of_with_expired first.timer listed),
            items_expiry_more listed first.timer first.number waiting.items first_live,
          ) refl

      pub expiring_rest : expiring_by now (items_in (with_expired first.timer listed) after.items) (all_of (with_expired first.timer listed)) ≡ rest
      expiring_rest =
          expiring_is (with_expired first.timer listed) now after.items expiring_kept.agrees.one_each expiring_kept.agrees.marked
          ∙ expiring_after now listed first rest k.agrees.one_each e

-- ---- what the calls of the time-outs answer
module _ {C : Type 0} where
  pub some_first : (due : List (Running C)) → 0 < length due → (first : Running C) × (rest : List (Running C)) × (due ≡ first ∷ rest)
  some_first [] h = absurd (omega arith)
  some_first (first ∷ rest) h = (first, rest, refl)

  -- there is one
  pub handed_none : (due : List (Running C)) (first : Running C) (rest : List (Running C)) → due ≡ first ∷ rest
      → ◌≡◌ {A = Option (Timer × ℕ)} None (option_map name_of (first_of due)) → ⊥
  handed_none due first rest e h =
      let found : ◌≡◌ {A = Option (Timer × ℕ)} None (Some (first.timer, first.number)) = rw e at h in cc

  handed_pair : (due : List (Running C)) (first : Running C) (rest : List (Running C)) (timer : Timer) (number : ℕ) → due ≡ first ∷ rest
      → ◌≡◌ {A = Option (Timer × ℕ)} (Some (timer, number)) (option_map name_of (first_of due)) → ◌≡◌ {A = Timer × ℕ} (timer, number) (first.timer, first.number)
  handed_pair due first rest timer number e h =
      let found : ◌≡◌ {A = Option (Timer × ℕ)} (Some (timer, number)) (Some (first.timer, first.number)) = rw e at h in cc

  -- it is the first
  pub handed_is : (due : List (Running C)) (first : Running C) (rest : List (Running C)) (timer : Timer) (number : ℕ) → due ≡ first ∷ rest
      → ◌≡◌ {A = Option (Timer × ℕ)} (Some (timer, number)) (option_map name_of (first_of due)) → (timer ≡ first.timer) × (number ≡ first.number)
  handed_is due first rest timer number e h =
      let pair = handed_pair due first rest timer number e h in
      (ap (λ (p : Timer × ℕ). p.0) pair, ap (λ (p : Timer × ℕ). p.1) pair)

  pub handed_out_is : (old new : Timeouts C) (due : List (Running C)) (first : Running C) (rest : List (Running C)) → due ≡ first ∷ rest
      → new ≡ with_first_expired due old → new.listed ≡ with_expired first.timer old.listed
  handed_out_is old new due first rest e h = let new_is : new ≡ with_first_expired (first ∷ rest) old = rw e at h in ap (λ (t : Timeouts C). t.listed) new_is

  -- of those that wait, the first is the first of those that are due
  pub taken_name : (now : ℕ) (listed : List (Listed C)) (result : Option (Timer × ℕ)) → 0 < length (expiring now listed)
      → result ≡ option_map name_of (first_of (in_order (waiting_of listed))) → result ≡ option_map name_of (first_of (expiring now listed))
  taken_name now listed result some h = h ∙ due_name now listed some

  pub taken_out : (now : ℕ) (old new : Timeouts C) → 0 < length (expiring now old.listed)
      → new ≡ with_first_expired (in_order (waiting_of old.listed)) old → new ≡ with_first_expired (expiring now old.listed) old
  taken_out now old new some h = h ∙ due_expired now old.listed old some

  pub pushed_named : (old new : Waiting C) (first : Running C) (timer : Timer) (number : ℕ) → timer ≡ first.timer → number ≡ first.number
      → new ≡ record old { items = old.items ++ Unseen (queued.Expiry timer number) ∷ []; staged = old.staged - 1 }
      → new ≡ record old { items = old.items ++ Unseen (queued.Expiry first.timer first.number) ∷ []; staged = old.staged - 1 }
  pushed_named old new first timer number t n e = rw (← t, ← n) e

  -- the expiries can be counted
  pub slots_more : (old new : Waiting C) (listed : List (Listed C)) (expiries : ℕ) → Agrees old listed expiries → (first : Running C)
      → new ≡ record old { items = old.items ++ Unseen (queued.Expiry first.timer first.number) ∷ []; staged = old.staged - 1 } → length new.items ≤ expiries → ⊥
  slots_more old new listed expiries a first e h =
      let counted = slots_counted listed old.items a.events in
      let more : length new.items ≡ length old.items + 1 = rw e (length-append old.items (Unseen (queued.Expiry first.timer first.number) ∷ [])) in
      absurd (omega (arith, counted, more, h, a.counted))

  -- the first of those that expire
  pub first_expiry_is : (due : List (Running C)) (first : Running C) (rest : List (Running C)) (schedule : Schedule C) → due ≡ first ∷ rest
      → with_all_expired (first ∷ []) schedule ≡ with_first_expiry due schedule
  first_expiry_is due first rest schedule e = rw e refl

  pub rest_is : (due : List (Running C)) (first : Running C) (rest : List (Running C)) → due ≡ first ∷ rest → rest ≡ all_but_first due
  rest_is due first rest e = rw e refl

  -- the list of those that run
  all_shown : (listed : List (Listed C)) → map shown listed ≡ map (λ (one : Running C). (one.timer, one.number, one.due)) (all_of listed)
  all_shown [] = refl
  all_shown (one ∷ listed) = ap (λ rest. (one.running.timer, one.running.number, one.running.due) ∷ rest) (all_shown listed)

  pub shown_is : {E : Type 0} (listed : List (Listed C)) (answer : Result (List (Timer × ℕ × Due)) E) → IfOk answer (λ list. list ≡ map shown listed)
      → IfOk answer (λ list. list ≡ map (λ (one : Running C). (one.timer, one.number, one.due)) (all_of listed))
  shown_is listed (Ok list) h = h ∙ all_shown listed
  shown_is listed (Err error) h = tt
