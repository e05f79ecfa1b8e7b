-- Queue and time-outs agree, whatever is done with them.
use Rattle.std.proofs.Common.{◌≡◌, ℕ, ◌+◌, ◌<◌, ◌≤◌, Bool, true, false, not, ◌==◌, List, [], ◌∷◌, ◌++◌, Option, Some, None, map, refl, sym, ◌∙◌, ap, arith, inl, inr, ◌⊎◌, if◌then◌else◌}
use Rattle.std.specs.Prelude.{is_some}
use Rattle.st_events.specs.declared.event.Event.{Event}
use Rattle.st_events.specs.declared.timer.Timer.{Timer}
use Rattle.st_events.proofs.ComparedLemmas.{same_number}
use Rattle.st_timeouts.specs.declared.running.Running.{Running}
use Rattle.st_timeouts.specs.Running.{OneEach, running_of, runs_for}
use Rattle.st_timeouts.specs.Timeouts.{Listed, all_of, live, with_this_number, without_listed, with_expired}
use Rattle.st_timeouts.proofs.OrderLemmas.{one_each_without, all_of_more, one_each_more}
use Rattle.st_agenda.specs.declared.queued.Queued.{Queued}
use Rattle.st_agenda.specs.declared.queued.Queued.TheVariants as queued
use Rattle.st_agenda.specs.Items.{has, or_else}
use Rattle.st_agenda.specs.Slots.{number_of}
use Rattle.st_agenda.specs.Waiting.{Place, Seen, Unseen, Waiting, slot_of, place_numbers, slot_numbers, first_seen, first_unseen, with_unseen_seen, next_of, without_slot, put_in, Distinct, AreBelow, SeenFirst, IsOrdered}
use Rattle.st_agenda.specs.Agenda.{HasExpiry, SeenEvents, expiries_in, IsMarked, AreMarked, IsAlive, Agrees, timeout_numbers}
use Rattle.st_agenda.proofs.PendingLemmas.{eq_flips, no_tail, no_step, differs, below_more, has_below}
use Rattle.st_agenda.proofs.ItemsLemmas.{AllFound, all_found, slots_stay}
use Rattle.st_agenda.proofs.AgreesLemmas.{has_step, true_not_false, below_member, differ_from, has_without, numbers_seen, has_put_in, has_behind, expiry_number, expiry_kept, expiry_unseen, expiry_arrived, expiry_put_in, expiry_before, expiry_differs, seen_number, marked_after, marked_cancelled, marked_begun}

-- ---- received events, and how many expiries there are
module _ {C : Type 0} where
  seen_event_by : (postponed : List ℕ) (event : Event C) (places : List (Place C)) (timer : Timer) (number : ℕ) (skip : Bool)
      → (if skip then first_seen postponed places else Some (queued.Event event)) ≡ Some (queued.Expiry timer number)
      → (first_seen postponed places ≡ Some (queued.Expiry timer number) → ⊥) → ⊥
  seen_event_by postponed event places timer number true f k = k f
  seen_event_by postponed event places timer number false f k = cc

  -- where received ones are events, the first received one is none of a time-out
  seen_event : (postponed : List ℕ) (places : List (Place C)) (timer : Timer) (number : ℕ) → SeenEvents places
      → first_seen postponed places ≡ Some (queued.Expiry timer number) → ⊥
  seen_event postponed [] timer number s f = cc
  seen_event postponed (Seen (queued.Event event) ∷ places) timer number s f =
      seen_event_by postponed event places timer number (has postponed event.number) f (seen_event postponed places timer number s)
  seen_event postponed (Seen (queued.Expiry other own) ∷ places) timer number s f = s
  seen_event postponed (Unseen one ∷ places) timer number s f = seen_event postponed places timer number s f

  unseen_by : {unseen : Option (Queued C)} {timer : Timer} {number : ℕ} (seen : Option (Queued C)) {first : Option (Queued C)} → first ≡ seen
      → or_else seen unseen ≡ Some (queued.Expiry timer number) → (first ≡ Some (queued.Expiry timer number) → ⊥)
      → (first ≡ None) × (unseen ≡ Some (queued.Expiry timer number))
  unseen_by (Some one) e n k = absurd (k (e ∙ n))
  unseen_by None e n k = (e, n)

  -- so the next slot, where it is an expiry, was not received
  pub unseen_expiry : (postponed : List ℕ) (places : List (Place C)) (timer : Timer) (number : ℕ) → SeenEvents places
      → next_of postponed places ≡ Some (queued.Expiry timer number)
      → (first_seen postponed places ≡ None) × (first_unseen places ≡ Some (queued.Expiry timer number))
  unseen_expiry postponed places timer number s n = unseen_by (first_seen postponed places) refl n (seen_event postponed places timer number s)

  seen_cut : (gone : ℕ) (event : Event C) (places : List (Place C)) (same : Bool) → SeenEvents (without_slot gone places)
      → SeenEvents (if not same then Seen (queued.Event event) ∷ without_slot gone places else without_slot gone places)
  seen_cut gone event places true s = s
  seen_cut gone event places false s = s

  unseen_cut : (gone : ℕ) (one : Queued C) (places : List (Place C)) (same : Bool) → SeenEvents (without_slot gone places)
      → SeenEvents (if not same then Unseen one ∷ without_slot gone places else without_slot gone places)
  unseen_cut gone one places true s = s
  unseen_cut gone one places false s = s

  pub events_without : (gone : ℕ) (places : List (Place C)) → SeenEvents places → SeenEvents (without_slot gone places)
  events_without gone [] s = tt
  events_without gone (Seen (queued.Event event) ∷ places) s = seen_cut gone event places (gone == event.number) (events_without gone places s)
  events_without gone (Seen (queued.Expiry timer number) ∷ places) s = absurd s
  events_without gone (Unseen one ∷ places) s = unseen_cut gone one places (gone == number_of one) (events_without gone places s)

  -- the first expiry that was not received leaves
  pub events_dropped : (timer : Timer) (number : ℕ) (places : List (Place C)) → Distinct (place_numbers places) → SeenEvents places
      → first_unseen places ≡ Some (queued.Expiry timer number) → SeenEvents (without_slot number (with_unseen_seen places))
  events_dropped timer number [] d s u = tt
  events_dropped timer number (Seen (queued.Event event) ∷ places) d s u =
      seen_cut number event (with_unseen_seen places) (number == event.number) (events_dropped timer number places d.1 s u)
  events_dropped timer number (Seen (queued.Expiry other own) ∷ places) d s u = absurd s
  events_dropped timer number (Unseen one ∷ places) d s u =
      let equal : one ≡ queued.Expiry timer number = cc in
      let fresh : has (place_numbers places) number ≡ false = rw equal at d.0 in
      rw (equal, same_number number, slots_stay number places fresh) s

  counted_event : (gone : ℕ) (event : Event C) (places : List (Place C)) (same : Bool)
      → expiries_in (if not same then Seen (queued.Event event) ∷ without_slot gone places else without_slot gone places) ≡ expiries_in (without_slot gone places)
  counted_event gone event places true = refl
  counted_event gone event places false = refl

  pub counted_dropped : (timer : Timer) (number : ℕ) (places : List (Place C)) → Distinct (place_numbers places) → SeenEvents places
      → first_unseen places ≡ Some (queued.Expiry timer number) → expiries_in (without_slot number (with_unseen_seen places)) + 1 ≡ expiries_in places
  counted_dropped timer number [] d s u = cc
  counted_dropped timer number (Seen (queued.Event event) ∷ places) d s u =
      rw (counted_event number event (with_unseen_seen places) (number == event.number)) (counted_dropped timer number places d.1 s u)
  counted_dropped timer number (Seen (queued.Expiry other own) ∷ places) d s u = absurd s
  counted_dropped timer number (Unseen one ∷ places) d s u =
      let equal : one ≡ queued.Expiry timer number = cc in
      let fresh : has (place_numbers places) number ≡ false = rw equal at d.0 in
      rw (equal, same_number number, slots_stay number places fresh) refl

  -- an event that was received leaves
  unseen_stays : (gone : ℕ) (one : Queued C) (places : List (Place C)) → (gone == number_of one) ≡ false
      → expiries_in (without_slot gone (Unseen one ∷ places)) ≡ expiries_in (Unseen one ∷ without_slot gone places)
  unseen_stays gone one places e = rw e refl

  count_more : (one : Queued C) (old new : List (Place C)) → expiries_in new ≡ expiries_in old → expiries_in (Unseen one ∷ new) ≡ expiries_in (Unseen one ∷ old)
  count_more (queued.Event event) old new e = e
  count_more (queued.Expiry timer number) old new e = ap (λ n. n + 1) e

  counted_seen_by : (postponed : List ℕ) (event other : Event C) (places : List (Place C)) (skip : Bool)
      → Distinct (other.number ∷ place_numbers places)
      → (if skip then first_seen postponed places else Some (queued.Event other)) ≡ Some (queued.Event event)
      → (first_seen postponed places ≡ Some (queued.Event event) → expiries_in (without_slot event.number places) ≡ expiries_in places)
      → expiries_in (without_slot event.number places) ≡ expiries_in places
  counted_seen_by postponed event other places true d f k = k f
  counted_seen_by postponed event other places false d f k =
      let equal : other ≡ event = cc in
      let fresh : has (place_numbers places) event.number ≡ false = rw equal at d.0 in
      ap expiries_in (slots_stay event.number places fresh)

  pub counted_finished : (postponed : List ℕ) (event : Event C) (places : List (Place C)) → Distinct (place_numbers places) → SeenEvents places
      → first_seen postponed places ≡ Some (queued.Event event) → expiries_in (without_slot event.number places) ≡ expiries_in places
  counted_finished postponed event [] d s f = refl
  counted_finished postponed event (Seen (queued.Event other) ∷ places) d s f =
      rw (counted_event event.number other places (event.number == other.number)) (counted_seen_by postponed event other places (has postponed other.number) d f (counted_finished postponed event places d.1 s))
  counted_finished postponed event (Seen (queued.Expiry timer number) ∷ places) d s f = absurd s
  counted_finished postponed event (Unseen one ∷ places) d s f =
      let other : (event.number == number_of one) ≡ false = eq_flips _ _ (differ_from (number_of one) event.number (place_numbers places) (seen_number postponed event places f) d.0) in
      unseen_stays event.number one places other ∙ count_more one places (without_slot event.number places) (counted_finished postponed event places d.1 s f)

  -- ---- events come in
  events_both : (new : List (Event C)) (places : List (Place C)) → SeenEvents places → SeenEvents (map Seen (map queued.Event new) ++ places)
  events_both [] places s = s
  events_both (event ∷ new) places s = events_both new places s

  counted_both : (new : List (Event C)) (places : List (Place C)) → expiries_in (map Seen (map queued.Event new) ++ places) ≡ expiries_in places
  counted_both [] places = refl
  counted_both (event ∷ new) places = counted_both new places

  events_alone : (new : List (Event C)) → SeenEvents (map Seen (map queued.Event new))
  events_alone [] = tt
  events_alone (event ∷ new) = events_alone new

  counted_alone : (new : List (Event C)) → expiries_in (map Seen (map queued.Event new)) ≡ 0
  counted_alone [] = refl
  counted_alone (event ∷ new) = counted_alone new

  place_events : (place : Place C) (old new : List (Place C)) → SeenEvents (place ∷ old) → (SeenEvents old → SeenEvents new) → SeenEvents (place ∷ new)
  place_events (Seen (queued.Event event)) old new s f = f s
  place_events (Seen (queued.Expiry timer number)) old new s f = s
  place_events (Unseen one) old new s f = f s

  place_counted : (place : Place C) (old new : List (Place C)) → expiries_in new ≡ expiries_in old → expiries_in (place ∷ new) ≡ expiries_in (place ∷ old)
  place_counted (Seen (queued.Event event)) old new e = e
  place_counted (Seen (queued.Expiry timer number)) old new e = ap (λ n. n + 1) e
  place_counted (Unseen (queued.Event event)) old new e = e
  place_counted (Unseen (queued.Expiry timer number)) old new e = ap (λ n. n + 1) e

  events_put_by : (postponed : List ℕ) (new : List (Event C)) (place : Place C) (places : List (Place C)) (skip : Bool) → SeenEvents (place ∷ places)
      → (SeenEvents places → SeenEvents (put_in postponed (map Seen (map queued.Event new)) places))
      → SeenEvents (if skip then place ∷ put_in postponed (map Seen (map queued.Event new)) places else map Seen (map queued.Event new) ++ place ∷ places)
  events_put_by postponed new place places true s f = place_events place places _ s f
  events_put_by postponed new place places false s f = events_both new (place ∷ places) s

  pub events_put_in : (postponed : List ℕ) (new : List (Event C)) (places : List (Place C)) → SeenEvents places
      → SeenEvents (put_in postponed (map Seen (map queued.Event new)) places)
  events_put_in postponed new [] s = events_alone new
  events_put_in postponed new (place ∷ places) s =
      events_put_by postponed new place places (has postponed (number_of (slot_of place))) s (events_put_in postponed new places)

  counted_put_by : (postponed : List ℕ) (new : List (Event C)) (place : Place C) (places : List (Place C)) (skip : Bool)
      → expiries_in (put_in postponed (map Seen (map queued.Event new)) places) ≡ expiries_in places
      → expiries_in (if skip then place ∷ put_in postponed (map Seen (map queued.Event new)) places else map Seen (map queued.Event new) ++ place ∷ places) ≡ expiries_in (place ∷ places)
  counted_put_by postponed new place places true e = place_counted place places _ e
  counted_put_by postponed new place places false e = counted_both new (place ∷ places)

  pub counted_put_in : (postponed : List ℕ) (new : List (Event C)) (places : List (Place C))
      → expiries_in (put_in postponed (map Seen (map queued.Event new)) places) ≡ expiries_in places
  counted_put_in postponed new [] = counted_alone new
  counted_put_in postponed new (place ∷ places) =
      counted_put_by postponed new place places (has postponed (number_of (slot_of place))) (counted_put_in postponed new places)

  -- ---- a posted event is received
  pub events_arrived : (event : Event C) (places : List (Place C)) → SeenEvents places → first_unseen places ≡ Some (queued.Event event) → SeenEvents (with_unseen_seen places)
  events_arrived event [] s u = tt
  events_arrived event (Seen (queued.Event other) ∷ places) s u = events_arrived event places s u
  events_arrived event (Seen (queued.Expiry timer number) ∷ places) s u = absurd s
  events_arrived event (Unseen one ∷ places) s u = let equal : one ≡ queued.Event event = cc in rw equal s

  pub counted_arrived : (event : Event C) (places : List (Place C)) → first_unseen places ≡ Some (queued.Event event) → expiries_in (with_unseen_seen places) ≡ expiries_in places
  counted_arrived event [] u = refl
  counted_arrived event (Seen (queued.Event other) ∷ places) u = counted_arrived event places u
  counted_arrived event (Seen (queued.Expiry timer number) ∷ places) u = ap (λ n. n + 1) (counted_arrived event places u)
  counted_arrived event (Unseen one ∷ places) u = let equal : one ≡ queued.Event event = cc in rw equal refl

  -- ---- one more at the end
  pub events_behind : (places : List (Place C)) (one : Queued C) → SeenEvents places → SeenEvents (places ++ Unseen one ∷ [])
  events_behind [] one s = tt
  events_behind (place ∷ places) one s = place_events place places _ s (events_behind places one)

  pub counted_behind : (places : List (Place C)) (one : Queued C) → expiries_in (places ++ Unseen one ∷ []) ≡ expiries_in places + expiries_in (Unseen one ∷ [])
  counted_behind [] one = omega arith
  counted_behind (Seen (queued.Event event) ∷ places) one = counted_behind places one
  counted_behind (Seen (queued.Expiry timer number) ∷ places) one = omega (arith, counted_behind places one)
  counted_behind (Unseen (queued.Event event) ∷ places) one = counted_behind places one
  counted_behind (Unseen (queued.Expiry timer number) ∷ places) one = omega (arith, counted_behind places one)

  -- ---- the numbers of time-outs
  numbers_cut : (timer : Timer) (one : Listed C) (listed : List (Listed C)) (number : ℕ) (same : Bool)
      → (one.running.number == number) ≡ false → has (timeout_numbers (without_listed timer listed)) number ≡ false
      → has (timeout_numbers (if not same then one ∷ without_listed timer listed else without_listed timer listed)) number ≡ false
  numbers_cut timer one listed number true d h = h
  numbers_cut timer one listed number false d h = rw d h

  pub number_gone : (timer : Timer) (listed : List (Listed C)) (number : ℕ) → has (timeout_numbers listed) number ≡ false
      → has (timeout_numbers (without_listed timer listed)) number ≡ false
  number_gone timer [] number h = refl
  number_gone timer (one ∷ listed) number h =
      numbers_cut timer one listed number (runs_for timer one.running) (eq_flips _ _ (differs number (timeout_numbers (one ∷ listed)) h).0)
      (number_gone timer listed number (no_tail (one.running.number == number) _ h))

  distinct_cut : (timer : Timer) (one : Listed C) (listed : List (Listed C)) (same : Bool) → has (timeout_numbers (without_listed timer listed)) one.running.number ≡ false
      → Distinct (timeout_numbers (without_listed timer listed))
      → Distinct (timeout_numbers (if not same then one ∷ without_listed timer listed else without_listed timer listed))
  distinct_cut timer one listed true h d = d
  distinct_cut timer one listed false h d = (h, d)

  pub distinct_cancelled : (timer : Timer) (listed : List (Listed C)) → Distinct (timeout_numbers listed) → Distinct (timeout_numbers (without_listed timer listed))
  distinct_cancelled timer [] d = tt
  distinct_cancelled timer (one ∷ listed) d =
      distinct_cut timer one listed (runs_for timer one.running) (number_gone timer listed one.running.number d.0) (distinct_cancelled timer listed d.1)

  below_cut : (bound : ℕ) (timer : Timer) (one : Listed C) (listed : List (Listed C)) (same : Bool) → one.running.number < bound
      → AreBelow bound (timeout_numbers (without_listed timer listed))
      → AreBelow bound (timeout_numbers (if not same then one ∷ without_listed timer listed else without_listed timer listed))
  below_cut bound timer one listed true h d = d
  below_cut bound timer one listed false h d = (h, d)

  pub below_cancelled : (bound : ℕ) (timer : Timer) (listed : List (Listed C)) → AreBelow bound (timeout_numbers listed) → AreBelow bound (timeout_numbers (without_listed timer listed))
  below_cancelled bound timer [] d = tt
  below_cancelled bound timer (one ∷ listed) d = below_cut bound timer one listed (runs_for timer one.running) d.0 (below_cancelled bound timer listed d.1)

  not_begun : (listed : List (Listed C)) (one : Listed C) (number : ℕ) → has (timeout_numbers listed) number ≡ false → (one.running.number == number) ≡ false
      → has (timeout_numbers (listed ++ one ∷ [])) number ≡ false
  not_begun [] one number h d = rw d refl
  not_begun (other ∷ listed) one number h d = no_step (other.running.number == number) _ _ (λ k. not_begun listed one number k d) h

  pub distinct_begun : (listed : List (Listed C)) (one : Listed C) → Distinct (timeout_numbers listed) → has (timeout_numbers listed) one.running.number ≡ false
      → Distinct (timeout_numbers (listed ++ one ∷ []))
  distinct_begun [] one d h = (refl, tt)
  distinct_begun (other ∷ listed) one d h = (
    not_begun listed one other.running.number d.0 (differs one.running.number (timeout_numbers (other ∷ listed)) h).0,
    distinct_begun listed one d.1 (no_tail (other.running.number == one.running.number) _ h),
  )

  pub below_begun : (bound : ℕ) (listed : List (Listed C)) (one : Listed C) → one.running.number < bound → AreBelow bound (timeout_numbers listed)
      → AreBelow bound (timeout_numbers (listed ++ one ∷ []))
  below_begun bound [] one h b = (h, tt)
  below_begun bound (other ∷ listed) one h b = (b.0, below_begun bound listed one h b.1)

  -- ---- a dead expiry: its number is that of no time-out that runs
  pub unseen_number : (one : Queued C) (places : List (Place C)) → first_unseen places ≡ Some one → has (place_numbers places) (number_of one) ≡ true
  unseen_number one [] u = cc
  unseen_number one (Seen other ∷ places) u = has_step (number_of other == number_of one) (unseen_number one places u)
  unseen_number one (Unseen other ∷ places) u = let equal : other ≡ one = cc in rw (equal, same_number (number_of one)) refl

  same_expiry : (timer second : Timer) (number : ℕ) (places : List (Place C)) → Distinct (place_numbers places) → first_unseen places ≡ Some (queued.Expiry timer number)
      → HasExpiry second number places → second ≡ timer
  same_expiry timer second number [] d u h = absurd h
  same_expiry timer second number (Seen one ∷ places) d u h = same_expiry timer second number places d.1 u h
  same_expiry timer second number (Unseen one ∷ places) d u (inl same) = let equal : one ≡ queued.Expiry timer number = cc in cc
  same_expiry timer second number (Unseen one ∷ places) d u (inr h) =
      let equal : one ≡ queued.Expiry timer number = cc in
      let fresh : has (place_numbers places) number ≡ false = rw equal at d.0 in
      absurd (true_not_false (sym (expiry_number second number places h) ∙ fresh))

  live_found : (all : List (Running C)) (one : Running C) → running_of one.timer all ≡ Some one → is_some (with_this_number one.number (running_of one.timer all)) ≡ true
  live_found all one e = rw (e, same_number one.number) refl

  dead_one_by : (all : List (Listed C)) (one : Listed C) (timer : Timer) (places : List (Place C)) (mark : Bool) → IsMarked one places mark
      → running_of one.running.timer (all_of all) ≡ Some one.running → Distinct (place_numbers places)
      → first_unseen places ≡ Some (queued.Expiry timer one.running.number) → is_some (live timer one.running.number all) ≡ false → ⊥
  dead_one_by all one timer places true m f d u l =
      let same : one.running.timer ≡ timer = same_expiry timer one.running.timer one.running.number places d u m.0 in
      let found : is_some (live timer one.running.number all) ≡ true = rw (← same) (live_found (all_of all) one.running f) in
      true_not_false (sym found ∙ l)
  dead_one_by all one timer places false m f d u l =
      true_not_false (sym (unseen_number (queued.Expiry timer one.running.number) places u) ∙ m)

  dead_one : (all : List (Listed C)) (one : Listed C) (timer : Timer) (number : ℕ) (places : List (Place C)) (same : Bool) → (one.running.number == number) ≡ same
      → IsMarked one places one.expired → running_of one.running.timer (all_of all) ≡ Some one.running → Distinct (place_numbers places)
      → first_unseen places ≡ Some (queued.Expiry timer number) → is_some (live timer number all) ≡ false → same ≡ false
  dead_one all one timer number places false e m f d u l = refl
  dead_one all one timer number places true e m f d u l =
      let equal : number ≡ one.running.number = grind (arith, e) in
      absurd (dead_one_by all one timer places one.expired m f d (rw equal at u) (rw equal at l))

  dead_among : (all listed : List (Listed C)) (timer : Timer) (number : ℕ) (places : List (Place C)) → AllFound (all_of all) listed → AreMarked listed places
      → Distinct (place_numbers places) → first_unseen places ≡ Some (queued.Expiry timer number) → is_some (live timer number all) ≡ false
      → has (timeout_numbers listed) number ≡ false
  dead_among all [] timer number places f m d u l = refl
  dead_among all (one ∷ listed) timer number places f m d u l =
      rw (dead_one all one timer number places (one.running.number == number) refl m.0 f.0 d u l)
      (dead_among all listed timer number places f.1 m.1 d u l)

  pub dead_free : (listed : List (Listed C)) (timer : Timer) (number : ℕ) (places : List (Place C)) → OneEach (all_of listed) → AreMarked listed places
      → Distinct (place_numbers places) → first_unseen places ≡ Some (queued.Expiry timer number) → is_some (live timer number listed) ≡ false
      → has (timeout_numbers listed) number ≡ false
  dead_free listed timer number places o m d u l = dead_among listed listed timer number places (all_found listed o) m d u l

  -- ---- no timer runs twice
  pub one_each_begun : (listed : List (Listed C)) (one : Listed C) → OneEach (all_of listed) → running_of one.running.timer (all_of listed) ≡ None
      → OneEach (all_of (listed ++ one ∷ []))
  one_each_begun listed one o n = rw all_of_more (one_each_more (all_of listed) one.running o n)

  -- ---- marks of time-outs that expire
  pub numbers_marked : (timer : Timer) (listed : List (Listed C)) → timeout_numbers (with_expired timer listed) ≡ timeout_numbers listed
  numbers_marked timer [] = refl
  numbers_marked timer (one ∷ listed) = ap (λ rest. one.running.number ∷ rest) (numbers_marked timer listed)

-- ---- queue and time-outs agree
module _ {C : Type 0} (old after : Waiting C) (listed : List (Listed C)) (expiries : ℕ) (a : Agrees old listed expiries) (o : IsOrdered after) where
  -- a posted event came
  pub agrees_pushed : (event : Event C) → after.items ≡ old.items ++ Unseen (queued.Event event) ∷ [] → old.next_number ≤ after.next_number → event.number ≡ old.next_number
      → Agrees after listed expiries
  agrees_pushed event same more number_is = record {
    ordered = o;
    events = rw same (events_behind old.items (queued.Event event) a.events);
    one_each = a.one_each;
    distinct = a.distinct;
    below = below_more old.next_number after.next_number (timeout_numbers listed) more a.below;
    marked = rw same (marked_after listed old.items _
        (λ number h k. let less = below_member old.next_number number (timeout_numbers listed) a.below h in
        has_behind number old.items (queued.Event event) k (let other : (event.number == number) ≡ false = grind (arith, less, number_is) in other))
        (λ timer number h k. expiry_before timer number old.items _ k) a.marked);
    counted = rw same (a.counted ∙ (let zero : expiries_in old.items ≡ expiries_in old.items + 0 = omega arith in zero) ∙ sym (counted_behind old.items (queued.Event event)));
  }

  -- nothing came or left
  pub agrees_kept : after.items ≡ old.items → old.next_number ≤ after.next_number → Agrees after listed expiries
  agrees_kept same more = record {
    ordered = o;
    events = rw same a.events;
    one_each = a.one_each;
    distinct = a.distinct;
    below = below_more old.next_number after.next_number (timeout_numbers listed) more a.below;
    marked = rw same a.marked;
    counted = rw same a.counted;
  }

  -- an expiry left whose time-out runs no more
  pub agrees_dropped : (timer : Timer) (number left : ℕ) → after.items ≡ without_slot number (with_unseen_seen old.items) → old.next_number ≤ after.next_number
      → first_unseen old.items ≡ Some (queued.Expiry timer number) → is_some (live timer number listed) ≡ false → left + 1 ≡ expiries → Agrees after listed left
  agrees_dropped timer number left same more u l c =
      let free = dead_free listed timer number old.items a.one_each a.marked a.ordered.distinct u l in
      record {
        ordered = o;
        events = rw same (events_dropped timer number old.items a.ordered.distinct a.events u);
        one_each = a.one_each;
        distinct = a.distinct;
        below = below_more old.next_number after.next_number (timeout_numbers listed) more a.below;
        marked = rw same (marked_after listed old.items _
            (λ other h k. has_without other number (with_unseen_seen old.items) (rw (numbers_seen old.items) k))
            (λ second other h k. expiry_kept second other number (with_unseen_seen old.items) (differ_from number other (timeout_numbers listed) h free)
            (expiry_unseen second other (queued.Expiry timer number) old.items u (differ_from number other (timeout_numbers listed) h free) k)) a.marked);
        counted = rw same (omega (arith, c, a.counted, counted_dropped timer number old.items a.ordered.distinct a.events u));
      }

  -- a received event left
  pub agrees_finished : (postponed : List ℕ) (event : Event C) → after.items ≡ without_slot event.number old.items → old.next_number ≤ after.next_number
      → first_seen postponed old.items ≡ Some (queued.Event event) → Agrees after listed expiries
  agrees_finished postponed event same more f = record {
    ordered = o;
    events = rw same (events_without event.number old.items a.events);
    one_each = a.one_each;
    distinct = a.distinct;
    below = below_more old.next_number after.next_number (timeout_numbers listed) more a.below;
    marked = rw same (marked_after listed old.items _
        (λ other h k. has_without other event.number old.items k)
        (λ second other h k. expiry_kept second other event.number old.items (expiry_differs second other postponed event old.items a.ordered.distinct f k) k) a.marked);
    counted = rw same (a.counted ∙ sym (counted_finished postponed event old.items a.ordered.distinct a.events f));
  }

  -- events came in whose numbers no time-out has
  pub agrees_put : (postponed : List ℕ) (new : List (Event C)) → after.items ≡ put_in postponed (map Seen (map queued.Event new)) old.items → old.next_number ≤ after.next_number
      → ((number : ℕ) → has (timeout_numbers listed) number ≡ true → has (slot_numbers (map queued.Event new)) number ≡ false) → Agrees after listed expiries
  agrees_put postponed new same more free = record {
    ordered = o;
    events = rw same (events_put_in postponed new old.items a.events);
    one_each = a.one_each;
    distinct = a.distinct;
    below = below_more old.next_number after.next_number (timeout_numbers listed) more a.below;
    marked = rw same (marked_after listed old.items _
        (λ number h k. has_put_in number postponed (map queued.Event new) old.items (free number h) k)
        (λ timer number h k. expiry_put_in timer number postponed (map queued.Event new) old.items k) a.marked);
    counted = rw same (a.counted ∙ sym (counted_put_in postponed new old.items));
  }

  -- a posted event was received
  pub agrees_arrived : (event : Event C) → after.items ≡ with_unseen_seen old.items → old.next_number ≤ after.next_number → first_unseen old.items ≡ Some (queued.Event event)
      → Agrees after listed expiries
  agrees_arrived event same more u = record {
    ordered = o;
    events = rw same (events_arrived event old.items a.events u);
    one_each = a.one_each;
    distinct = a.distinct;
    below = below_more old.next_number after.next_number (timeout_numbers listed) more a.below;
    marked = rw same (marked_after listed old.items _
        (λ number h k. rw (numbers_seen old.items) k)
        (λ timer number h k. expiry_arrived timer number event old.items u k) a.marked);
    counted = rw same (a.counted ∙ sym (counted_arrived event old.items u));
  }

  -- a time-out begins
  pub agrees_begun : (one : Listed C) → after.items ≡ old.items → after.next_number ≡ old.next_number + 1 → one.running.number ≡ old.next_number → one.expired ≡ false
      → running_of one.running.timer (all_of listed) ≡ None → Agrees after (listed ++ one ∷ []) expiries
  agrees_begun one same more number_is unmarked none =
      let free = has_below old.next_number one.running.number (timeout_numbers listed) a.below (omega (arith, number_is)) in
      let fresh = has_below old.next_number one.running.number (place_numbers old.items) a.ordered.below (omega (arith, number_is)) in
      record {
        ordered = o;
        events = rw same a.events;
        one_each = one_each_begun listed one a.one_each none;
        distinct = distinct_begun listed one a.distinct free;
        below = below_begun after.next_number listed one (omega (arith, number_is, more)) (below_more old.next_number after.next_number (timeout_numbers listed) (omega (arith, more)) a.below);
        marked = rw same (marked_begun listed one old.items unmarked fresh a.marked);
        counted = rw same a.counted;
      }

module _ {C : Type 0} (old : Waiting C) (listed : List (Listed C)) (expiries : ℕ) (a : Agrees old listed expiries) where
  -- a time-out is cancelled
  pub agrees_cancelled : (timer : Timer) → Agrees old (without_listed timer listed) expiries
  agrees_cancelled timer = record {
    ordered = a.ordered;
    events = a.events;
    one_each = one_each_without timer listed a.one_each;
    distinct = distinct_cancelled timer listed a.distinct;
    below = below_cancelled old.next_number timer listed a.below;
    marked = marked_cancelled timer listed old.items a.marked;
    counted = a.counted;
  }

-- ---- the next slot is alive
module _ {C : Type 0} where
  -- events that come in stand first, or nothing does
  first_put_by : (postponed : List ℕ) (new : List (Event C)) (event : Event C) (place : Place C) (places : List (Place C)) (skip : Bool)
      → has postponed (number_of (slot_of place)) ≡ skip → has postponed event.number ≡ false
      → first_seen postponed (put_in postponed (map Seen (map queued.Event (event ∷ new))) places) ≡ Some (queued.Event event)
      → first_seen postponed (if skip then place ∷ put_in postponed (map Seen (map queued.Event (event ∷ new))) places else map Seen (map queued.Event (event ∷ new)) ++ place ∷ places)
      ≡ Some (queued.Event event)
  first_put_by postponed new event (Seen one) places true e h k = rw e k
  first_put_by postponed new event (Unseen one) places true e h k = k
  first_put_by postponed new event place places false e h k = rw h refl

  pub first_put_in : (postponed : List ℕ) (new : List (Event C)) (event : Event C) (places : List (Place C)) → has postponed event.number ≡ false
      → first_seen postponed (put_in postponed (map Seen (map queued.Event (event ∷ new))) places) ≡ Some (queued.Event event)
  first_put_in postponed new event [] h = rw h refl
  first_put_in postponed new event (place ∷ places) h =
      first_put_by postponed new event place places (has postponed (number_of (slot_of place))) refl h (first_put_in postponed new event places h)

  none_put_by : (postponed : List ℕ) (place : Place C) (places : List (Place C)) (skip : Bool) → put_in postponed [] places ≡ places
      → (if skip then place ∷ put_in postponed [] places else place ∷ places) ≡ place ∷ places
  none_put_by postponed place places true e = ap (λ rest. place ∷ rest) e
  none_put_by postponed place places false e = refl

  pub none_put_in : (postponed : List ℕ) (places : List (Place C)) → put_in postponed [] places ≡ places
  none_put_in postponed [] = refl
  none_put_in postponed (place ∷ places) = none_put_by postponed place places (has postponed (number_of (slot_of place))) (none_put_in postponed places)

  pub alive_first : (listed : List (Listed C)) (event : Event C) {first : Option (Queued C)} (second : Option (Queued C)) → first ≡ Some (queued.Event event) → IsAlive listed (or_else first second)
  alive_first listed event second e = rw e tt

  pub alive_put_in : (listed : List (Listed C)) (postponed : List ℕ) (new : List (Event C)) (places : List (Place C))
      → ((event : Event C) → (rest : List (Event C)) → new ≡ event ∷ rest → has postponed event.number ≡ false) → IsAlive listed (next_of postponed places)
      → IsAlive listed (next_of postponed (put_in postponed (map Seen (map queued.Event new)) places))
  alive_put_in listed postponed [] places f k = rw (none_put_in postponed places) k
  alive_put_in listed postponed (event ∷ new) places f k = alive_first listed event _ (first_put_in postponed new event places (f event new refl))

  first_arrived_by : (postponed : List ℕ) (event : Event C) (one : Queued C) (places : List (Place C)) (skip : Bool)
      → (if skip then first_seen postponed places else Some one) ≡ None
      → (first_seen postponed places ≡ None → first_seen postponed (with_unseen_seen places) ≡ Some (queued.Event event))
      → (if skip then first_seen postponed (with_unseen_seen places) else Some one) ≡ Some (queued.Event event)
  first_arrived_by postponed event one places true n k = k n
  first_arrived_by postponed event one places false n k = cc

  -- a posted event that is received is the next
  pub first_arrived : (postponed : List ℕ) (event : Event C) (places : List (Place C)) → first_seen postponed places ≡ None → first_unseen places ≡ Some (queued.Event event)
      → SeenFirst postponed places → first_seen postponed (with_unseen_seen places) ≡ Some (queued.Event event)
  first_arrived postponed event [] n u s = cc
  first_arrived postponed event (Seen one ∷ places) n u s = first_arrived_by postponed event one places (has postponed (number_of one)) n (λ k. first_arrived postponed event places k u s)
  first_arrived postponed event (Unseen one ∷ places) n u s =
      let equal : one ≡ queued.Event event = cc in
      let free : has postponed event.number ≡ false = rw equal at s.0 in rw (equal, free) refl

  pub alive_arrived : (listed : List (Listed C)) (postponed : List ℕ) (event : Event C) (places : List (Place C)) → first_seen postponed places ≡ None
      → first_unseen places ≡ Some (queued.Event event) → SeenFirst postponed places → IsAlive listed (next_of postponed (with_unseen_seen places))
  alive_arrived listed postponed event places n u s = alive_first listed event _ (first_arrived postponed event places n u s)

  -- where none is postponed any more, the next slot is an event, or the one that it was
  first_any : (places : List (Place C)) → SeenEvents places → ((event : Event C) × (first_seen [] places ≡ Some (queued.Event event))) ⊎ ((first_seen [] places ≡ None) × ((postponed : List ℕ) → first_seen postponed places ≡ None))
  first_any [] s = inr (refl, λ postponed. refl)
  first_any (Seen (queued.Event event) ∷ places) s = inl (event, refl)
  first_any (Seen (queued.Expiry timer number) ∷ places) s = absurd s
  first_any (Unseen one ∷ places) s = first_any places s

  alive_retried_by : (listed : List (Listed C)) (postponed : List ℕ) (places : List (Place C)) → IsAlive listed (next_of postponed places)
      → ((event : Event C) × (first_seen [] places ≡ Some (queued.Event event))) ⊎ ((first_seen [] places ≡ None) × ((postponed : List ℕ) → first_seen postponed places ≡ None))
      → IsAlive listed (next_of [] places)
  alive_retried_by listed postponed places k (inl found) = alive_first listed found.0 _ found.1
  alive_retried_by listed postponed places k (inr none) = let was : IsAlive listed (first_unseen places) = rw (none.1 postponed) at k in rw none.0 was

  pub alive_retried : (listed : List (Listed C)) (postponed : List ℕ) (places : List (Place C)) → SeenEvents places → IsAlive listed (next_of postponed places)
      → IsAlive listed (next_of [] places)
  alive_retried listed postponed places s k = alive_retried_by listed postponed places k (first_any places s)

  -- a posted event came: the next slot is the one that it was, or that event
  first_behind : (postponed : List ℕ) (places : List (Place C)) (one : Queued C) → first_seen postponed (places ++ Unseen one ∷ []) ≡ first_seen postponed places
  first_behind postponed [] one = refl
  first_behind postponed (Seen other ∷ places) one = rw (first_behind postponed places one) refl
  first_behind postponed (Unseen other ∷ places) one = first_behind postponed places one

  unseen_behind : (places : List (Place C)) (one : Queued C) → first_unseen (places ++ Unseen one ∷ []) ≡ or_else (first_unseen places) (Some one)
  unseen_behind [] one = refl
  unseen_behind (Seen other ∷ places) one = unseen_behind places one
  unseen_behind (Unseen other ∷ places) one = refl

  alive_behind_by : (listed : List (Listed C)) (one : Queued C) (seen unseen : Option (Queued C)) → IsAlive listed (Some one) → IsAlive listed (or_else seen unseen)
      → IsAlive listed (or_else seen (or_else unseen (Some one)))
  alive_behind_by listed one (Some other) unseen k h = h
  alive_behind_by listed one None (Some other) k h = h
  alive_behind_by listed one None None k h = k

  pub alive_behind : (listed : List (Listed C)) (postponed : List ℕ) (places : List (Place C)) (one : Queued C) → IsAlive listed (Some one) → IsAlive listed (next_of postponed places)
      → IsAlive listed (next_of postponed (places ++ Unseen one ∷ []))
  alive_behind listed postponed places one k h =
      rw (first_behind postponed places one, unseen_behind places one) (alive_behind_by listed one (first_seen postponed places) (first_unseen places) k h)

  -- only what runs counts
  pub alive_same : (listed other : List (Listed C)) (next : Option (Queued C)) → all_of other ≡ all_of listed → IsAlive listed next → IsAlive other next
  alive_same listed other None e k = tt
  alive_same listed other (Some (queued.Event event)) e k = tt
  alive_same listed other (Some (queued.Expiry timer number)) e k = rw e k
