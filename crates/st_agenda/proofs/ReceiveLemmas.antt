-- What a turn takes up is received: queue, time-outs and schedule after it.
use Rattle.std.proofs.Common.{◌≡◌, ℕ, ◌-◌, ◌<◌, ◌≤◌, Bool, true, false, not, ◌==◌, List, [], ◌∷◌, Option, Some, None, map, refl, sym, ◌∙◌, ap, arith, if◌then◌else◌}
use Rattle.std.specs.Prelude.{is_some}
use Rattle.std.specs.Option.{option_map}
use Rattle.st_events.specs.declared.event.Event.{Event}
use Rattle.st_events.specs.declared.timer.Timer.{Timer}
use Rattle.st_events.specs.declared.kind.Kind.TheVariants.{Timeout}
use Rattle.st_events.specs.Timers.{same_timer}
use Rattle.st_events.proofs.ComparedLemmas.{same_number}
use Rattle.st_timeouts.specs.declared.running.Running.{Running}
use Rattle.st_timeouts.specs.Running.{running_of, without_running, first_zero_of, is_zero}
use Rattle.st_timeouts.specs.Timeouts.{Timeouts, Listed, all_of, live, name_of, without_listed, with_cancelled, with_taken}
use Rattle.st_timeouts.proofs.OrderLemmas.{all_of_without_listed}
use Rattle.st_agenda.specs.declared.queued.Queued.{Queued}
use Rattle.st_agenda.specs.declared.queued.Queued.TheVariants as queued
use Rattle.st_agenda.specs.Items.{has, first_received, received_first, received_last}
use Rattle.st_agenda.specs.Slots.{number_of}
use Rattle.st_agenda.specs.Choice.{Arrived, Expired, timeout_event, event_of, first_unreceived, items_with}
use Rattle.st_agenda.specs.Waiting.{Place, Seen, Unseen, Waiting, slot_of, place_numbers, slot_numbers, first_seen, first_unseen, with_unseen_seen, with_next_seen, next_of, without_slot, put_in, Distinct, SeenFirst, IsOrdered}
use Rattle.st_agenda.specs.declared.schedule.Schedule.{Schedule}
use Rattle.st_agenda.specs.Agenda.{IsMarked, AreMarked, Agrees, IsKept, timeout_numbers, items_in, schedule_of, choice_in, next_in, received_in}
use Rattle.st_agenda.proofs.PendingLemmas.{eq_flips}
use Rattle.st_agenda.proofs.ItemsLemmas.{live_is, items_cancelled, items_last, items_unmarked, items_arrived, items_expired, first_is_last, first_is_first, running_gone}
use Rattle.st_agenda.proofs.AgreesLemmas.{below_member, differ_from, has_step}
use Rattle.st_agenda.proofs.AgendaLemmas.{unseen_number, number_gone, counted_dropped, agrees_put, agrees_dropped, agrees_cancelled, agrees_arrived, first_put_in, alive_first, alive_arrived}
use Rattle.st_agenda.proofs.ChoiceLemmas.{found_timer, zero_live, choice_resumed, choice_lapsed, choice_arrived, choice_expired, choice_none, none_first, unreceived_event, unreceived_expiry}

module _ {C : Type 0} where
  -- ---- numbers
  gone_by : (number : ℕ) (place : Place C) (places : List (Place C)) (same : Bool) → (number == number_of (slot_of place)) ≡ same
      → has (place_numbers (without_slot number places)) number ≡ false
      → has (place_numbers (if not same then place ∷ without_slot number places else without_slot number places)) number ≡ false
  gone_by number place places true e h = h
  gone_by number place places false e h = rw (eq_flips number (number_of (slot_of place)) e) h

  pub slot_gone : (number : ℕ) (places : List (Place C)) → has (place_numbers (without_slot number places)) number ≡ false
  slot_gone number [] = refl
  slot_gone number (place ∷ places) = gone_by number place places (number == number_of (slot_of place)) refl (slot_gone number places)

  -- what was not received is not postponed
  pub unseen_free : (postponed : List ℕ) (one : Queued C) (places : List (Place C)) → SeenFirst postponed places → first_unseen places ≡ Some one
      → has postponed (number_of one) ≡ false
  unseen_free postponed one [] s u = cc
  unseen_free postponed one (Seen other ∷ places) s u = unseen_free postponed one places s u
  unseen_free postponed one (Unseen other ∷ places) s u = let equal : other ≡ one = cc in rw (← equal) s.0

  -- a time-out that is due at once has no expiry
  zero_by : (one running : Listed C) (places : List (Place C)) (mark : Bool) → is_zero one.running.due ≡ true → IsMarked one places mark → has (place_numbers places) one.running.number ≡ false
  zero_by one running places true z m = let other = m.1 in cc
  zero_by one running places false z m = m

  zero_case : (one : Listed C) (running : Running C) (others : List (Listed C)) (places : List (Place C)) (zero : Bool) → is_zero one.running.due ≡ zero
      → IsMarked one places one.expired → (if zero then Some one.running else first_zero_of (all_of others)) ≡ Some running
      → (first_zero_of (all_of others) ≡ Some running → has (place_numbers places) running.number ≡ false) → has (place_numbers places) running.number ≡ false
  zero_case one running others places true e m f k =
      let equal : one.running ≡ running = cc in rw (← equal) (zero_by one one places one.expired e m)
  zero_case one running others places false e m f k = k f

  pub zero_unmarked : (listed : List (Listed C)) (running : Running C) (places : List (Place C)) → AreMarked listed places → first_zero_of (all_of listed) ≡ Some running
      → has (place_numbers places) running.number ≡ false
  zero_unmarked [] running places m f = cc
  zero_unmarked (one ∷ listed) running places m f =
      zero_case one running listed places (is_zero one.running.due) refl m.0 f (zero_unmarked listed running places m.1)

  -- the time-out of a timer is among those that run
  among_by : (timer : Timer) (running : Running C) (one : Listed C) (others : List (Listed C)) (same : Bool) → (if same then Some one.running else running_of timer (all_of others)) ≡ Some running
      → (running_of timer (all_of others) ≡ Some running → has (timeout_numbers others) running.number ≡ true)
      → has (timeout_numbers (one ∷ others)) running.number ≡ true
  among_by timer running one others true f k = let equal : one.running ≡ running = cc in rw (equal, same_number running.number) refl
  among_by timer running one others false f k = has_step (one.running.number == running.number) (k f)

  pub among : (timer : Timer) (running : Running C) (listed : List (Listed C)) → running_of timer (all_of listed) ≡ Some running → has (timeout_numbers listed) running.number ≡ true
  among timer running [] f = cc
  among timer running (one ∷ listed) f = among_by timer running one listed (same_timer timer one.running.timer) f (among timer running listed)

  -- once it is cancelled its number is no more
  number_cut : (timer : Timer) (running : Running C) (one : Listed C) (others : List (Listed C)) (same : Bool) → Distinct (timeout_numbers (one ∷ others))
      → (if same then Some one.running else running_of timer (all_of others)) ≡ Some running
      → (running_of timer (all_of others) ≡ Some running → has (timeout_numbers (without_listed timer others)) running.number ≡ false)
      → has (timeout_numbers (if not same then one ∷ without_listed timer others else without_listed timer others)) running.number ≡ false
  number_cut timer running one others true d f k =
      let equal : one.running ≡ running = cc in
      let fresh : has (timeout_numbers others) running.number ≡ false = rw equal at d.0 in number_gone timer others running.number fresh
  number_cut timer running one others false d f k =
      let other : (one.running.number == running.number) ≡ false = differ_from one.running.number running.number (timeout_numbers others) (among timer running others f) d.0 in
      rw other (k f)

  pub number_no_more : (timer : Timer) (running : Running C) (listed : List (Listed C)) → Distinct (timeout_numbers listed) → running_of timer (all_of listed) ≡ Some running
      → has (timeout_numbers (without_listed timer listed)) running.number ≡ false
  number_no_more timer running [] d f = cc
  number_no_more timer running (one ∷ listed) d f =
      number_cut timer running one listed (same_timer timer one.running.timer) d f (number_no_more timer running listed d.1)

  one_number : (number other : ℕ) (event : Event C) → event.number ≡ number → (number == other) ≡ false → has (slot_numbers (map queued.Event (event ∷ []))) other ≡ false
  one_number number other event e d = rw (e, d) refl

  named_live : (listed : List (Listed C)) (timer : Timer) (number : ℕ) (running : Running C) → timer ≡ running.timer → number ≡ running.number
      → live running.timer running.number listed ≡ Some running → live timer number listed ≡ Some running
  named_live listed timer number running t n h = rw (t, n) h

  lapsed_by : (timer : Timer) (number : ℕ) (zero : Option (Running C)) → ◌≡◌ {A = Option (Timer × ℕ)} (Some (timer, number)) (option_map name_of zero)
      → (running : Running C) × (zero ≡ Some running) × (timer ≡ running.timer) × (number ≡ running.number)
  lapsed_by timer number None e = cc
  lapsed_by timer number (Some running) e =
      let pair : ◌≡◌ {A = Timer × ℕ} (timer, number) (running.timer, running.number) = cc in
      (running, refl, ap (λ (p : Timer × ℕ). p.0) pair, ap (λ (p : Timer × ℕ). p.1) pair)

  some_is : (found : Option (Running C)) → is_some found ≡ true → (running : Running C) × (found ≡ Some running)
  some_is (Some running) e = (running, refl)
  some_is None e = cc

  dead_cancelled : (timer : Timer) (number : ℕ) (listed : List (Listed C)) → is_some (live timer number (without_listed timer listed)) ≡ false
  dead_cancelled timer number listed = rw (running_gone timer listed) refl

  some_same : {one other : C} → ◌≡◌ {A = Option C} (Some one) (Some other) → one ≡ other
  some_same e = cc

  pub unseen_event : (postponed : List ℕ) (places : List (Place C)) {event : Event C} → first_seen postponed places ≡ None → next_of postponed places ≡ Some (queued.Event event)
      → first_unseen places ≡ Some (queued.Event event)
  unseen_event postponed places f n = rw f at n

  pub unseen_nothing : (postponed : List ℕ) (places : List (Place C)) → first_seen postponed places ≡ None → next_of postponed places ≡ None → first_unseen places ≡ None
  unseen_nothing postponed places f n = rw f at n

  pub not_some : (found : Option (Queued C)) → is_some found ≡ false → found ≡ None
  not_some (Some one) e = cc
  not_some None e = refl

  -- a call that hands over the content of a time-out that runs does so
  pub handed : {none : Option C} (timer : Timer) (number : ℕ) (listed : List (Listed C)) (running : Running C) → live timer number listed ≡ Some running
      → none ≡ None → none ≡ option_map (λ (one : Running C). one.content) (live timer number listed) → ⊥
  handed {none = none} timer number listed running l e h =
      let found : none ≡ Some running.content = h ∙ ap (λ o. option_map (λ (one : Running C). one.content) o) l in cc

  -- and leaves the others
  pub taken_is : (old new : Timeouts C) (timer : Timer) (number : ℕ) (running : Running C) → live timer number old.listed ≡ Some running → new ≡ with_taken old timer number
      → new ≡ with_cancelled old timer
  taken_is old new timer number running l e = rw l at e

  -- its event
  pub event_is : (event : Event C) (timer : Timer) (number : ℕ) (content : C) (listed : List (Listed C)) (running : Running C) → live timer number listed ≡ Some running
      → Some content ≡ option_map (λ (one : Running C). one.content) (live timer number listed)
      → event ≡ record { number = number; kind = Timeout timer; content = content } → event ≡ timeout_event running
  event_is event timer number content listed running l h e =
      let found = live_is number (running_of timer (all_of listed)) running l in
      let timers : running.timer ≡ timer = found_timer timer running (all_of listed) found.0 in
      let contents : content ≡ running.content = some_same (h ∙ ap (λ o. option_map (λ (one : Running C). one.content) o) l) in
      rw (e, contents, timers, found.1) refl

-- ---- the four cases
module _ {C : Type 0} (waiting : Waiting C) (listed : List (Listed C)) (expiries : ℕ) (k : IsKept waiting listed expiries) where
  resumed_by : (seen : Option (Queued C)) → first_seen waiting.postponed waiting.items ≡ seen → is_some seen ≡ true → schedule_of waiting listed ≡ received_in (schedule_of waiting listed)
  resumed_by None e r = cc
  resumed_by (Some one) e r = rw ((choice_resumed waiting listed k.agrees.events one e).2) refl

  resumed_first_by : (seen : Option (Queued C)) → first_seen waiting.postponed waiting.items ≡ seen → is_some seen ≡ true
      → option_map (λ (event : Event C). event.number) (first_received waiting.postponed (items_in listed waiting.items))
      ≡ option_map (λ (event : Event C). event.number) (next_in (schedule_of waiting listed))
  resumed_first_by None e r = cc
  resumed_first_by (Some one) e r =
      let found = choice_resumed waiting listed k.agrees.events one e in
      ap (λ o. option_map (λ (event : Event C). event.number) o) found.3 ∙ sym (ap (λ o. option_map (λ (event : Event C). event.number) (option_map event_of o)) found.2)

  -- an event that was received: all stays
  pub resumed_is : is_some (first_seen waiting.postponed waiting.items) ≡ true → schedule_of waiting listed ≡ received_in (schedule_of waiting listed)
  resumed_is r = resumed_by (first_seen waiting.postponed waiting.items) refl r

  pub resumed_first : is_some (first_seen waiting.postponed waiting.items) ≡ true
      → option_map (λ (event : Event C). event.number) (first_received waiting.postponed (items_in listed waiting.items))
      ≡ option_map (λ (event : Event C). event.number) (next_in (schedule_of waiting listed))
  resumed_first r = resumed_first_by (first_seen waiting.postponed waiting.items) refl r

  module _ (f : first_seen waiting.postponed waiting.items ≡ None) where
    -- a time-out that is due at once
    module _ (timer : Timer) (number : ℕ) (z : ◌≡◌ {A = Option (Timer × ℕ)} (Some (timer, number)) (option_map name_of (first_zero_of (all_of listed)))) where
      pub lapsed_running : (running : Running C) × (first_zero_of (all_of listed) ≡ Some running) × (timer ≡ running.timer) × (number ≡ running.number)
      lapsed_running = lapsed_by timer number (first_zero_of (all_of listed)) z

      pub lapsed_live : live timer number listed ≡ Some lapsed_running.0
      lapsed_live = named_live listed timer number lapsed_running.0 lapsed_running.2 lapsed_running.3 (zero_live listed k.agrees.one_each lapsed_running.0 lapsed_running.1)

      pub lapsed_free : has (place_numbers waiting.items) number ≡ false
      lapsed_free = rw lapsed_running.3 (zero_unmarked listed lapsed_running.0 waiting.items k.agrees.marked lapsed_running.1)

      lapsed_found : running_of timer (all_of listed) ≡ Some lapsed_running.0
      lapsed_found = (live_is number (running_of timer (all_of listed)) lapsed_running.0 lapsed_live).0

      pub lapsed_below : number < waiting.next_number
      lapsed_below = rw lapsed_running.3 (below_member waiting.next_number lapsed_running.0.number (timeout_numbers listed) k.agrees.below (among timer lapsed_running.0 listed lapsed_found))

      module _ (after : Waiting C) (event : Event C) (o : IsOrdered after) (e : event ≡ timeout_event lapsed_running.0)
          (same : after ≡ record waiting { items = put_in waiting.postponed (Seen (queued.Event event) ∷ []) waiting.items; staged = waiting.staged - 1 }) where
        own_number : event.number ≡ number
        own_number = ap (λ (one : Event C). one.number) e ∙ sym lapsed_running.3

        not_postponed : has waiting.postponed event.number ≡ false
        not_postponed = rw own_number (k.agrees.ordered.postponed_there number lapsed_free)

        pub lapsed_kept : IsKept after (without_listed timer listed) expiries
        lapsed_kept =
            let items : after.items ≡ put_in waiting.postponed (map Seen (map queued.Event (event ∷ []))) waiting.items = ap (λ (w : Waiting C). w.items) same in
            let next : waiting.next_number ≤ after.next_number = rw (ap (λ (w : Waiting C). w.next_number) same) (let self : waiting.next_number ≤ waiting.next_number = omega arith in self) in
            let no_more : has (timeout_numbers (without_listed timer listed)) number ≡ false =
            rw lapsed_running.3 (number_no_more timer lapsed_running.0 listed k.agrees.distinct lapsed_found) in
            record {
              agrees = agrees_put waiting after (without_listed timer listed) expiries (agrees_cancelled waiting listed expiries k.agrees timer) o waiting.postponed (event ∷ []) items next
                  (λ other h. one_number number other event own_number (differ_from number other (timeout_numbers (without_listed timer listed)) h no_more));
              alive = rw same (alive_first (without_listed timer listed) event _ (first_put_in waiting.postponed [] event waiting.items not_postponed));
            }

        pub lapsed_is : schedule_of after (without_listed timer listed) ≡ received_in (schedule_of waiting listed)
        lapsed_is =
            let items : items_in (without_listed timer listed) (put_in waiting.postponed (Seen (queued.Event event) ∷ []) waiting.items) ≡ received_last (timeout_event lapsed_running.0) (items_in listed waiting.items) =
            items_last (without_listed timer listed) waiting.postponed event waiting.items k.agrees.events k.agrees.ordered.seen_first f
            ∙ ap (λ items. received_last event items) (items_cancelled listed timer waiting.items ∙ items_unmarked listed timer lapsed_running.0 waiting.items lapsed_found (rw (← lapsed_running.3) lapsed_free))
            ∙ ap (λ (one : Event C). received_last one (items_in listed waiting.items)) e in
            let running : all_of (without_listed timer listed) ≡ without_running lapsed_running.0.timer (all_of listed) = all_of_without_listed timer listed ∙ ap (λ (one : Timer). without_running one (all_of listed)) lapsed_running.2 in
            rw (same, choice_lapsed waiting listed k.agrees.events f lapsed_running.0 lapsed_running.1, items, running) refl

        pub lapsed_first : option_map (λ (one : Event C). one.number) (first_received after.postponed (items_in (without_listed timer listed) after.items))
            ≡ option_map (λ (one : Event C). one.number) (next_in (schedule_of waiting listed))
        lapsed_first =
            let pending : items_in (without_listed timer listed) after.items ≡ received_last (timeout_event lapsed_running.0) (items_in listed waiting.items) =
            ap (λ (s : Schedule C). s.pending) lapsed_is ∙ ap (λ choice. items_with choice (items_in listed waiting.items)) (choice_lapsed waiting listed k.agrees.events f lapsed_running.0 lapsed_running.1) in
            let postponed : after.postponed ≡ waiting.postponed = ap (λ (w : Waiting C). w.postponed) same in
            let free : has waiting.postponed (timeout_event lapsed_running.0).number ≡ false = rw (← e) not_postponed in
            rw (
              pending,
              postponed,
              first_is_last waiting.postponed (timeout_event lapsed_running.0) (items_in listed waiting.items) free (none_first waiting listed k.agrees.events f),
              choice_lapsed waiting listed k.agrees.events f lapsed_running.0 lapsed_running.1,
            ) refl

    module _ (z : first_zero_of (all_of listed) ≡ None) where
      -- a posted event
      module _ (event : Event C) (u : first_unseen waiting.items ≡ Some (queued.Event event)) (after : Waiting C) (o : IsOrdered after)
          (same : after ≡ record waiting { items = with_next_seen waiting.postponed waiting.items }) where
        now_seen : with_next_seen waiting.postponed waiting.items ≡ with_unseen_seen waiting.items
        now_seen = rw f refl

        pub arrived_kept : IsKept after listed expiries
        arrived_kept =
            let items : after.items ≡ with_unseen_seen waiting.items = ap (λ (w : Waiting C). w.items) same ∙ now_seen in
            let next : waiting.next_number ≤ after.next_number = rw (ap (λ (w : Waiting C). w.next_number) same) (let self : waiting.next_number ≤ waiting.next_number = omega arith in self) in
            let postponed : after.postponed ≡ waiting.postponed = ap (λ (w : Waiting C). w.postponed) same in
            record {
              agrees = agrees_arrived waiting after listed expiries k.agrees o event items next u;
              alive = rw (items, postponed) (alive_arrived listed waiting.postponed event waiting.items f u k.agrees.ordered.seen_first);
            }

        pub arrived_is : schedule_of after listed ≡ received_in (schedule_of waiting listed)
        arrived_is = rw (same, now_seen, choice_arrived waiting listed k.agrees.events f z event u, items_arrived listed event waiting.items u) refl

        pub arrived_first : option_map (λ (one : Event C). one.number) (first_received after.postponed (items_in listed after.items))
            ≡ option_map (λ (one : Event C). one.number) (next_in (schedule_of waiting listed))
        arrived_first =
            let free = unseen_free waiting.postponed (queued.Event event) waiting.items k.agrees.ordered.seen_first u in
            let first = first_is_first waiting.postponed event (all_of listed) (items_in listed waiting.items) (Arrived event) free
            (none_first waiting listed k.agrees.events f) (unreceived_event (all_of listed) listed event waiting.items u) in
            rw (same, now_seen, items_arrived listed event waiting.items u, first, choice_arrived waiting listed k.agrees.events f z event u) refl

      -- nothing
      pub nothing_is : first_unseen waiting.items ≡ None → schedule_of waiting listed ≡ received_in (schedule_of waiting listed)
      nothing_is u = rw (choice_none waiting listed k.agrees.events f z u) refl

      pub nothing_first : first_unseen waiting.items ≡ None
          → option_map (λ (one : Event C). one.number) (first_received waiting.postponed (items_in listed waiting.items))
          ≡ option_map (λ (one : Event C). one.number) (next_in (schedule_of waiting listed))
      nothing_first u = rw (choice_none waiting listed k.agrees.events f z u, none_first waiting listed k.agrees.events f) refl

      -- an expiry
      module _ (timer : Timer) (number : ℕ) (u : first_unseen waiting.items ≡ Some (queued.Expiry timer number)) where
        expired_alive : is_some (live timer number listed) ≡ true
        expired_alive = rw (f, u) at k.alive

        pub expired_running : (running : Running C) × (live timer number listed ≡ Some running)
        expired_running = some_is (live timer number listed) expired_alive

        expired_found : (running_of timer (all_of listed) ≡ Some expired_running.0) × (expired_running.0.number ≡ number)
        expired_found = live_is number (running_of timer (all_of listed)) expired_running.0 expired_running.1

        pub expired_counted : 1 ≤ expiries
        expired_counted = omega (arith, k.agrees.counted, counted_dropped timer number waiting.items k.agrees.ordered.distinct k.agrees.events u)

        pub expired_gone : has (place_numbers (without_slot number (with_next_seen waiting.postponed waiting.items))) number ≡ false
        expired_gone = slot_gone number (with_next_seen waiting.postponed waiting.items)

        pub expired_below : number < waiting.next_number
        expired_below = below_member waiting.next_number number (place_numbers waiting.items) k.agrees.ordered.below (unseen_number (queued.Expiry timer number) waiting.items u)

        module _ (middle after : Waiting C) (event : Event C) (p : IsOrdered middle) (o : IsOrdered after) (e : event ≡ timeout_event expired_running.0)
            (left : middle ≡ record waiting { items = without_slot number (with_next_seen waiting.postponed waiting.items) })
            (same : after ≡ record middle { items = put_in middle.postponed (Seen (queued.Event event) ∷ []) middle.items; staged = middle.staged - 1 }) where
          middle_items : middle.items ≡ without_slot number (with_unseen_seen waiting.items)
          middle_items = ap (λ (w : Waiting C). w.items) left ∙ (rw f refl)

          pub expired_free : has (place_numbers middle.items) number ≡ false
          expired_free = rw middle_items (slot_gone number (with_unseen_seen waiting.items))

          expired_number : event.number ≡ number
          expired_number = ap (λ (one : Event C). one.number) e ∙ expired_found.1

          middle_agrees : Agrees middle (without_listed timer listed) (expiries - 1)
          middle_agrees =
              let next : waiting.next_number ≤ middle.next_number = rw (ap (λ (w : Waiting C). w.next_number) left) (let self : waiting.next_number ≤ waiting.next_number = omega arith in self) in
              agrees_dropped waiting middle (without_listed timer listed) expiries (agrees_cancelled waiting listed expiries k.agrees timer) p timer number (expiries - 1) middle_items next u
              (dead_cancelled timer number listed) (omega (arith, expired_counted))

          pub expired_kept : IsKept after (without_listed timer listed) (expiries - 1)
          expired_kept =
              let items : after.items ≡ put_in middle.postponed (map Seen (map queued.Event (event ∷ []))) middle.items = ap (λ (w : Waiting C). w.items) same in
              let next : middle.next_number ≤ after.next_number = rw (ap (λ (w : Waiting C). w.next_number) same) (let self : middle.next_number ≤ middle.next_number = omega arith in self) in
              let no_more : has (timeout_numbers (without_listed timer listed)) number ≡ false =
              rw (← expired_found.1) (number_no_more timer expired_running.0 listed k.agrees.distinct expired_found.0) in
              let free : has middle.postponed event.number ≡ false = rw expired_number (p.postponed_there number expired_free) in
              record {
                agrees = agrees_put middle after (without_listed timer listed) (expiries - 1) middle_agrees o middle.postponed (event ∷ []) items next
                    (λ other h. one_number number other event expired_number (differ_from number other (timeout_numbers (without_listed timer listed)) h no_more));
                alive = rw same (alive_first (without_listed timer listed) event _ (first_put_in middle.postponed [] event middle.items free));
              }

          choice_is : choice_in (schedule_of waiting listed) ≡ Some (Expired expired_running.0)
          choice_is = choice_expired waiting listed k.agrees.events f z timer number expired_running.0 u expired_running.1

          expired_items : items_in (without_listed timer listed) after.items ≡ received_first (timeout_event expired_running.0) (items_in listed waiting.items)
          expired_items =
              let postponed : middle.postponed ≡ waiting.postponed = ap (λ (w : Waiting C). w.postponed) left in
              let items : after.items ≡ put_in waiting.postponed (Seen (queued.Event event) ∷ []) (without_slot number (with_unseen_seen waiting.items)) =
              ap (λ (w : Waiting C). w.items) same ∙ (rw (postponed, middle_items) refl) in
              rw items (items_expired listed waiting.postponed event timer number expired_running.0 waiting.items k.agrees.ordered.distinct k.agrees.events k.agrees.ordered.seen_first f u expired_running.1
              ∙ ap (λ (one : Event C). received_first one (items_in listed waiting.items)) e)

          pub expired_is : schedule_of after (without_listed timer listed) ≡ received_in (schedule_of waiting listed)
          expired_is =
              let timers : expired_running.0.timer ≡ timer = found_timer timer expired_running.0 (all_of listed) expired_found.0 in
              let running : all_of (without_listed timer listed) ≡ without_running expired_running.0.timer (all_of listed) = all_of_without_listed timer listed ∙ ap (λ (one : Timer). without_running one (all_of listed)) (sym timers) in
              let postponed : after.postponed ≡ waiting.postponed = ap (λ (w : Waiting C). w.postponed) same ∙ ap (λ (w : Waiting C). w.postponed) left in
              let next : after.next_number ≡ waiting.next_number = ap (λ (w : Waiting C). w.next_number) same ∙ ap (λ (w : Waiting C). w.next_number) left in
              rw (choice_is, expired_items, running, postponed, next) refl

          pub expired_first : option_map (λ (one : Event C). one.number) (first_received after.postponed (items_in (without_listed timer listed) after.items))
              ≡ option_map (λ (one : Event C). one.number) (next_in (schedule_of waiting listed))
          expired_first =
              let postponed : after.postponed ≡ waiting.postponed = ap (λ (w : Waiting C). w.postponed) same ∙ ap (λ (w : Waiting C). w.postponed) left in
              let unseen = unseen_free waiting.postponed (queued.Expiry timer number) waiting.items k.agrees.ordered.seen_first u in
              let free : has waiting.postponed (timeout_event expired_running.0).number ≡ false = rw expired_found.1 unseen in
              let unreceived : first_unreceived (all_of listed) (items_in listed waiting.items) ≡ Some (Expired expired_running.0) =
              unreceived_expiry (all_of listed) listed timer number waiting.items u expired_alive ∙ ap (λ o. option_map Expired o) expired_found.0 in
              let first = first_is_first waiting.postponed (timeout_event expired_running.0) (all_of listed) (items_in listed waiting.items) (Expired expired_running.0) free
              (none_first waiting listed k.agrees.events f) unreceived in
              rw (expired_items, postponed, first, choice_is) refl
