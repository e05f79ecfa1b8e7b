-- Expiries are taken out of the front of the queue whose time-outs run no more, and events leave or come in.
use Rattle.std.proofs.Common.{◌≡◌, ℕ, ◌+◌, ◌-◌, ◌<◌, ◌≤◌, Bool, true, false, ◌==◌, List, [], ◌∷◌, ◌++◌, Option, Some, None, map, refl, sym, ◌∙◌, ap, length, arith, if◌then◌else◌}
use Rattle.std.specs.Prelude.{is_some, Result, Ok, Err, OnOk, OnErr}
use Rattle.std.specs.Option.{option_map}
use Rattle.st_events.specs.declared.event.Event.{Event}
use Rattle.st_events.specs.declared.insert.Insert.{Insert}
use Rattle.st_events.specs.declared.timer.Timer.{Timer}
use Rattle.st_events.specs.declared.timer.Timer.TheVariants as timer
use Rattle.st_timeouts.specs.Timeouts.{Listed, Timeouts, all_of, live, without_listed, with_cancelled}
use Rattle.st_timeouts.proofs.OrderLemmas.{all_of_without_listed}
use Rattle.st_agenda.specs.declared.queued.Queued.{Queued}
use Rattle.st_agenda.specs.declared.queued.Queued.TheVariants as queued
use Rattle.st_agenda.specs.declared.item.Item.{Item}
use Rattle.st_agenda.specs.declared.item.Item.TheVariants.{Posted}
use Rattle.st_agenda.specs.Items.{has, first_received, with_number, kept, numbered, placed, is_postponed}
use Rattle.st_agenda.specs.Timing.{without_expiry}
use Rattle.st_agenda.specs.Slots.{inserted_slots}
use Rattle.st_agenda.specs.Waiting.{Seen, Unseen, put_in, slot_numbers, Waiting, IsOrdered, place_numbers, first_seen, first_unseen, with_unseen_seen, with_next_seen, next_of, next_number_of, without_slot}
use Rattle.st_agenda.specs.declared.schedule.Schedule.{Schedule}
use Rattle.st_agenda.specs.Agenda.{Agenda, Agrees, IsAlive, items_in, schedule_of, dead_at, cancelled_in, disposed_in, retried_in, inserted_in, IsKept, timeout_numbers}
use Rattle.st_agenda.proofs.PendingLemmas.{has_below}
use Rattle.st_agenda.proofs.ItemsLemmas.{first_cancelled, received_is, items_without_dead, items_cancelled, items_finished, items_put_in, items_posted}
use Rattle.st_agenda.proofs.AgreesLemmas.{below_member}
use Rattle.st_agenda.proofs.AgendaLemmas.{unseen_expiry, counted_dropped, agrees_dropped, agrees_kept, agrees_finished, agrees_put, agrees_pushed, alive_retried, alive_put_in, alive_behind}

-- it is alive where it is not dead
alive_by : (alive : Bool) (number : ℕ) → ◌≡◌ {A = Option ℕ} (if alive then None else Some number) None → alive ≡ true
alive_by true number d = refl
alive_by false number d = cc

module _ {C : Type 0} where
  -- ---- the next slot is dead, or alive
  dead_by : (listed : List (Listed C)) (timer : Timer) (own number : ℕ) (alive : Bool) → is_some (live timer own listed) ≡ alive
      → (if alive then None else Some own) ≡ Some number
      → (is_some (live timer number listed) ≡ false) × (own ≡ number)
  dead_by listed timer own number true e d = cc
  dead_by listed timer own number false e d = let same : own ≡ number = cc in (rw (← same) e, same)

  -- it is the expiry of a time-out that runs no more
  pub dead_is : (listed : List (Listed C)) (next : Option (Queued C)) (number : ℕ) → dead_at listed next ≡ Some number
      → (timer : Timer) × (next ≡ Some (queued.Expiry timer number)) × (is_some (live timer number listed) ≡ false)
  dead_is listed None number d = cc
  dead_is listed (Some (queued.Event event)) number d = cc
  dead_is listed (Some (queued.Expiry timer own)) number d =
      let found = dead_by listed timer own number (is_some (live timer own listed)) refl d in
      (timer, rw found.1 refl, found.0)

  -- ---- what the sweep keeps: queue and time-outs agree, what waits is the same, and only slots left
  pub record Swept (listed : List (Listed C)) (old now : Waiting C) (left : ℕ) : Type 0 where
    pub agrees : Agrees now listed left
    pub same_items : items_in listed now.items ≡ items_in listed old.items
    pub rest : now ≡ record old { items = now.items }

  module _ (listed : List (Listed C)) (old now : Waiting C) (left number : ℕ) (s : Swept listed old now left)
      (d : dead_at listed (next_of now.postponed now.items) ≡ Some number) where
    unseen_dead : (timer : Timer) × (first_seen now.postponed now.items ≡ None) × (first_unseen now.items ≡ Some (queued.Expiry timer number))
        × (is_some (live timer number listed) ≡ false)
    unseen_dead =
        let dead = dead_is listed (next_of now.postponed now.items) number d in
        let unseen = unseen_expiry now.postponed now.items dead.0 number s.agrees.events dead.1 in
        (dead.0, unseen.0, unseen.1, dead.2)

    -- an expiry is counted
    pub swept_left : 1 ≤ left
    swept_left =
        let dead = unseen_dead in
        omega (arith, s.agrees.counted, counted_dropped dead.0 number now.items s.agrees.ordered.distinct s.agrees.events dead.2)

    -- it leaves
    pub swept_more : (after : Waiting C) → IsOrdered after → after ≡ record now { items = without_slot number (with_next_seen now.postponed now.items) }
        → Swept listed old after (left - 1)
    swept_more after o e =
        let dead = unseen_dead in
        let items_are : after.items ≡ without_slot number (with_unseen_seen now.items) = ap (λ w. w.items) e ∙ (rw dead.1 refl) in
        let more : now.next_number ≤ after.next_number = rw e (omega arith) in
        record {
          agrees = agrees_dropped now after listed left s.agrees o dead.0 number (left - 1) items_are more dead.2 dead.3 (omega (arith, swept_left));
          same_items = rw items_are (items_without_dead listed dead.0 number now.items s.agrees.ordered.distinct dead.2 dead.3 ∙ s.same_items);
          rest = rw e (ap (λ (w : Waiting C). record w { items = without_slot number (with_next_seen now.postponed now.items) }) s.rest);
        }

  -- ---- where no expiry stands in the queue, the next slot is alive
  alive_at : (listed : List (Listed C)) (next : Option (Queued C)) → dead_at listed next ≡ None → IsAlive listed next
  alive_at listed None d = tt
  alive_at listed (Some (queued.Event event)) d = tt
  alive_at listed (Some (queued.Expiry timer number)) d = alive_by (is_some (live timer number listed)) number d

  none_dead_by : (listed : List (Listed C)) (now : Waiting C) → Agrees now listed 0 → (dead : Option ℕ) → dead_at listed (next_of now.postponed now.items) ≡ dead
      → IsAlive listed (next_of now.postponed now.items)
  none_dead_by listed now a None d = alive_at listed (next_of now.postponed now.items) d
  none_dead_by listed now a (Some number) d =
      absurd (omega (arith, swept_left listed now now 0 number (record { agrees = a; same_items = refl; rest = refl }) d))

  pub none_dead : (listed : List (Listed C)) (now : Waiting C) → Agrees now listed 0 → IsAlive listed (next_of now.postponed now.items)
  none_dead listed now a = none_dead_by listed now a (dead_at listed (next_of now.postponed now.items)) refl

  -- ---- an agenda, read part by part
  abbrev pub agenda_of : Waiting C → Timeouts C → Agenda C
  agenda_of waiting timeouts = record { schedule = schedule_of waiting timeouts.listed; staged = waiting.staged; reserved = timeouts.reserved }

  pub agenda_is : (after : Waiting C) (timeouts : Timeouts C) (schedule : Schedule C) (staged reserved : ℕ)
      → items_in timeouts.listed after.items ≡ schedule.pending → after.postponed ≡ schedule.postponed
      → all_of timeouts.listed ≡ schedule.running → after.next_number ≡ schedule.next_number → after.staged ≡ staged → timeouts.reserved ≡ reserved
      → agenda_of after timeouts ≡ record { schedule = schedule; staged = staged; reserved = reserved }
  agenda_is after timeouts schedule staged reserved i p r n s m = rw (i, p, r, n, s, m) refl

  -- a time-out is cancelled, and slots left that do not count
  pub cancelled_is : (old after : Waiting C) (timeouts now : Timeouts C) (timer : Timer) → now ≡ with_cancelled timeouts timer
      → items_in now.listed after.items ≡ items_in now.listed old.items → after ≡ record old { items = after.items }
      → agenda_of after now ≡ record (agenda_of old timeouts) { schedule = cancelled_in (schedule_of old timeouts.listed) timer }
  cancelled_is old after timeouts now timer e same rest =
      let listed_are : now.listed ≡ without_listed timer timeouts.listed = ap (λ t. t.listed) e in
      agenda_is after now (cancelled_in (schedule_of old timeouts.listed) timer) old.staged timeouts.reserved
      (same ∙ ap (λ listed. items_in listed old.items) listed_are ∙ items_cancelled timeouts.listed timer old.items)
      (ap (λ w. w.postponed) rest)
      (ap all_of listed_are ∙ all_of_without_listed timer timeouts.listed)
      (ap (λ w. w.next_number) rest)
      (ap (λ w. w.staged) rest)
      (ap (λ t. t.reserved) e)

  -- ---- the next event, which was received, is postponed or leaves
  number_by : (received : Option (Event C)) (seen : Option (Queued C)) (number : ℕ) → option_map queued.Event received ≡ seen
      → option_map (λ (event : Event C). event.number) received ≡ Some number
      → (event : Event C) × (seen ≡ Some (queued.Event event)) × (event.number ≡ number)
  number_by None seen number e n = cc
  number_by (Some event) seen number e n = (event, sym e, let same : event.number ≡ number = cc in same)

  abbrev pub disposed : Waiting C → ℕ → Bool → Waiting C
  disposed old number postpone = record old {
    items = if postpone then old.items else without_slot number old.items;
    postponed = with_number postpone number old.postponed;
  }

  module _ (old : Waiting C) (listed : List (Listed C)) (expiries number : ℕ) (a : Agrees old listed expiries)
      (n : option_map (λ (event : Event C). event.number) (first_received old.postponed (items_in listed old.items)) ≡ Some number) where
    first_with_number : (event : Event C) × (first_seen old.postponed old.items ≡ Some (queued.Event event)) × (event.number ≡ number)
    first_with_number = number_by _ (first_seen old.postponed old.items) number (received_is listed old.postponed old.items a.events) n

    pub number_is_next : next_number_of old.postponed old.items ≡ Some number
    number_is_next = let first = first_with_number in rw (first.1, first.2) refl

    next_seen_already : with_next_seen old.postponed old.items ≡ old.items
    next_seen_already = let first = first_with_number in rw first.1 refl

    pub postpone_disposes : (after : Waiting C) → after ≡ record old { items = with_next_seen old.postponed old.items; postponed = old.postponed ++ number ∷ [] }
        → after ≡ disposed old number true
    postpone_disposes after e = rw next_seen_already at e

    pub finish_disposes : (after : Waiting C) → after ≡ record old { items = without_slot number (with_next_seen old.postponed old.items) }
        → after ≡ disposed old number false
    finish_disposes after e = rw next_seen_already at e

    pub agrees_disposed : (after : Waiting C) (postpone : Bool) → IsOrdered after → after ≡ disposed old number postpone → Agrees after listed expiries
    agrees_disposed after true o e = agrees_kept old after listed expiries a o (rw e refl) (rw e (omega arith))
    agrees_disposed after false o e =
        let first = first_with_number in
        agrees_finished old after listed expiries a o old.postponed first.0 (rw (e, first.2) refl) (rw e (omega arith)) first.1

    items_disposed : (postpone : Bool) → items_in listed (disposed old number postpone).items ≡ kept postpone number (items_in listed old.items)
    items_disposed true = refl
    items_disposed false =
        let first = first_with_number in
        rw (← first.2) (items_finished listed old.postponed first.0 old.items a.ordered.distinct a.events first.1)

    pub disposed_is : (middle after : Waiting C) (reserved : ℕ) (postpone : Bool) → middle ≡ disposed old number postpone
        → items_in listed after.items ≡ items_in listed middle.items → after ≡ record middle { items = after.items }
        → agenda_of after (record { listed = listed; reserved = reserved })
        ≡ record (agenda_of old (record { listed = listed; reserved = reserved })) { schedule = disposed_in (schedule_of old listed) number postpone }
    disposed_is middle after reserved postpone e same rest =
        agenda_is after (record { listed = listed; reserved = reserved }) (disposed_in (schedule_of old listed) number postpone) old.staged reserved
        (same ∙ ap (λ (w : Waiting C). items_in listed w.items) e ∙ items_disposed postpone)
        (ap (λ w. w.postponed) rest ∙ ap (λ w. w.postponed) e) refl
        (ap (λ w. w.next_number) rest ∙ ap (λ w. w.next_number) e) (ap (λ w. w.staged) rest ∙ ap (λ w. w.staged) e) refl

  -- ---- none is postponed any more
  pub kept_retried : (old after : Waiting C) (listed : List (Listed C)) (expiries : ℕ) → IsKept old listed expiries → IsOrdered after
      → after ≡ record old { postponed = [] } → IsKept after listed expiries
  kept_retried old after listed expiries k o e = record {
    agrees = agrees_kept old after listed expiries k.agrees o (rw e refl) (rw e (omega arith));
    alive = rw e (alive_retried listed old.postponed old.items k.agrees.events k.alive);
  }

  -- ---- events come in before the first that is not postponed
  slots_numbered : (number : ℕ) (inserts : List (Insert C)) → inserted_slots number inserts ≡ map queued.Event (numbered number inserts)
  slots_numbered number [] = refl
  slots_numbered number (insert ∷ inserts) =
      ap (λ slots. queued.Event (record { number = number; kind = insert.kind; content = insert.content }) ∷ slots) (slots_numbered (number + 1) inserts)

  -- a number below theirs is none of them
  numbered_free : (number first : ℕ) (inserts : List (Insert C)) → number < first → has (slot_numbers (map queued.Event (numbered first inserts))) number ≡ false
  numbered_free number first [] h = refl
  numbered_free number first (insert ∷ inserts) h =
      let other : (first == number) ≡ false = grind (arith, h) in rw other (numbered_free number (first + 1) inserts (omega (arith, h)))

  first_numbered : (first : ℕ) (inserts : List (Insert C)) (event : Event C) (rest : List (Event C)) → numbered first inserts ≡ event ∷ rest → event.number ≡ first
  first_numbered first [] event rest e = cc
  first_numbered first (insert ∷ inserts) event rest e =
      let same : record { number = first; kind = insert.kind; content = insert.content } ≡ event = cc in sym (ap (λ (one : Event C). one.number) same)

  module _ (old after : Waiting C) (listed : List (Listed C)) (expiries : ℕ) (k : IsKept old listed expiries) where
    module _ (inserts : List (Insert C)) (e : after ≡ record old {
      items = put_in old.postponed (map Seen (inserted_slots old.next_number inserts)) old.items;
      next_number = old.next_number + length inserts;
      staged = old.staged - length inserts;
    }) where
      put_numbered : after.items ≡ put_in old.postponed (map Seen (map queued.Event (numbered old.next_number inserts))) old.items
      put_numbered = ap (λ w. w.items) e ∙ ap (λ slots. put_in old.postponed (map Seen slots) old.items) (slots_numbered old.next_number inserts)

      next_free : has old.postponed old.next_number ≡ false
      next_free = k.agrees.ordered.postponed_there old.next_number (has_below old.next_number old.next_number (place_numbers old.items) k.agrees.ordered.below (omega arith))

      pub kept_inserted : IsOrdered after → IsKept after listed expiries
      kept_inserted o = record {
        agrees = agrees_put old after listed expiries k.agrees o old.postponed (numbered old.next_number inserts) put_numbered (rw e (omega arith))
            (λ number h. numbered_free number old.next_number inserts (below_member old.next_number number (timeout_numbers listed) k.agrees.below h));
        alive = rw (put_numbered, ap (λ w. w.postponed) e)
            (alive_put_in listed old.postponed (numbered old.next_number inserts) old.items
            (λ event rest same. rw (first_numbered old.next_number inserts event rest same) next_free) k.alive);
      }

      pub inserted_is : (reserved : ℕ) → agenda_of after (record { listed = listed; reserved = reserved })
          ≡ record { schedule = inserted_in (schedule_of old listed) inserts; staged = old.staged - length inserts; reserved = reserved }
      inserted_is reserved =
          agenda_is after (record { listed = listed; reserved = reserved }) (inserted_in (schedule_of old listed) inserts) (old.staged - length inserts) reserved
          (ap (λ places. items_in listed places) put_numbered
          ∙ items_put_in listed old.postponed (numbered old.next_number inserts) old.items k.agrees.events k.agrees.ordered.seen_first)
          (ap (λ w. w.postponed) e) refl (ap (λ w. w.next_number) e) (ap (λ w. w.staged) e) refl

    -- ---- a posted event comes
    module _ (event : Event C) (number_is : event.number ≡ old.next_number) where
      abbrev pub pushed : Waiting C
      pushed = record old { items = old.items ++ Unseen (queued.Event event) ∷ []; next_number = old.next_number + 1 }

      kept_posted : IsOrdered after → after ≡ pushed → IsKept after listed expiries
      kept_posted o e = record {
        agrees = agrees_pushed old after listed expiries k.agrees o event (ap (λ w. w.items) e) (rw e (omega arith)) number_is;
        alive = rw e (alive_behind listed old.postponed old.items (queued.Event event) tt k.alive);
      }

      pub kept_pushed : {R E : Type 0} (result : Result R E) → OnOk result (after ≡ pushed) → OnErr result (after ≡ old) → IsOrdered after
          → IsKept after listed expiries
      kept_pushed (Ok value) e u o = kept_posted o e
      kept_pushed (Err error) e u o = rw u k

      pub pushed_is : after ≡ pushed
          → schedule_of after listed ≡ record (schedule_of old listed) { pending = items_in listed old.items ++ Posted event ∷ []; next_number = old.next_number + 1 }
      pushed_is e = rw (e, items_posted listed event old.items) refl

-- the event that was taken up is still the first received one, where an expiry is cancelled
pub next_received : {C : Type 0} (postponed : List ℕ) (items : List (Item C)) (next : Option ℕ) (number : ℕ)
    → option_map (λ (event : Event C). event.number) (first_received postponed items) ≡ next → next ≡ Some number
    → option_map (λ (event : Event C). event.number) (first_received postponed (without_expiry timer.Event items)) ≡ Some number
next_received postponed items next number first is = rw (first_cancelled postponed timer.Event items) (first ∙ is)

-- a state change takes no number
pub retried_next : {C : Type 0} (schedule : Schedule C) (changed : Bool) → (retried_in schedule changed).next_number ≡ schedule.next_number
retried_next schedule true = refl
retried_next schedule false = refl

-- ---- no event comes in
module _ {C : Type 0} where
  none_placed_by : (b : Bool) (postponed : List ℕ) (item : Item C) (items : List (Item C)) → placed postponed [] items ≡ items
      → (if b then item ∷ placed postponed [] items else item ∷ items) ≡ item ∷ items
  none_placed_by true postponed item items h = ap (λ t. item ∷ t) h
  none_placed_by false postponed item items h = refl

  none_placed : (postponed : List ℕ) (items : List (Item C)) → placed postponed [] items ≡ items
  none_placed postponed [] = refl
  none_placed postponed (item ∷ items) = none_placed_by (is_postponed postponed item) postponed item items (none_placed postponed items)

  pub none_inserted : (schedule : Schedule C) → inserted_in schedule [] ≡ schedule
  none_inserted schedule =
      let same : schedule.next_number + 0 ≡ schedule.next_number = omega arith in
      rw (none_placed schedule.postponed schedule.pending, same) refl
