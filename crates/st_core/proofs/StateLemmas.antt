-- What each call leaves can come about, by the parts of a machine.
use Rattle.std.proofs.Common.{◌≡◌, ℕ, ◌+◌, ◌<◌, ◌≤◌, ◌^◌, max, length, Bool, Option, Some, None, List, [], refl, arith}
use Rattle.std.specs.Option.{option_map}
use Rattle.st_events.specs.declared.event.Event.{Event}
use Rattle.st_events.specs.declared.insert.Insert.{Insert}
use Rattle.st_events.specs.declared.machine_id.MachineId.{MachineId}
use Rattle.st_events.specs.declared.setting.Setting.{Setting}
use Rattle.st_events.specs.declared.tag.Tag.{Tag}
use Rattle.st_events.specs.Timers.{AskedOnce}
use Rattle.st_requests.specs.declared.request.Request.{Request}
use Rattle.st_requests.specs.Requests.{with_answers}
use Rattle.st_requests.proofs.LawfulRequests.{are_of_later, are_of_answers, one_each_answers}
use Rattle.st_timeouts.specs.declared.running.Running.{Running}
use Rattle.st_agenda.specs.declared.item.Item.{Item}
use Rattle.st_agenda.specs.declared.schedule.Schedule.{Schedule}
use Rattle.st_agenda.specs.Agenda.{next_in, settled_in, inserted_in, all_set_in, running_on}
use Rattle.st_agenda.specs.Timing.{numbers_taken}
use Rattle.st_agenda.proofs.LoopLemmas.{none_not_some}
use Rattle.st_agenda.proofs.LawfulSetting.{lawful_empty, lawful_later, lawful_inserted, lawful_set_all}
use Rattle.st_agenda.proofs.LawfulTurn.{settled_lawful, settled_next}
use Rattle.st_outbox.specs.declared.outbox.Outbox.{Outbox}
use Rattle.st_outbox.specs.Outbox.{first_outbox, with_sent}
use Rattle.st_outbox.proofs.OutboxLemmas.{lawful_first, lawful_sent}
use Rattle.st_core.specs.Lawful.{IsOver, IsLawfulOf}
use Rattle.st_core.proofs.LawfulLemmas.{not_over, over_answers}

module _ {C : Type 0} where
  -- where nothing waits and nothing runs, there is no next event
  nothing_next : (pending : List (Item C)) (postponed : List ℕ) (running : List (Running C)) (next : ℕ) → pending ≡ [] → running ≡ []
      → option_map (λ (event : Event C). event.number) (next_in (record { pending = pending; postponed = postponed; running = running; next_number = next })) ≡ None
  nothing_next pending postponed running next no_items no_timeouts = rw (no_items, no_timeouts) refl

  -- a machine with a next event has not ended
  pub has_not_ended : (schedule : Schedule C) (requests : List (Request C)) (ended : Option (ℕ × ℕ)) (number : ℕ) → IsOver schedule requests ended
      → option_map (λ (event : Event C). event.number) (next_in schedule) ≡ Some number → ended ≡ None
  has_not_ended schedule requests None number over next = refl
  has_not_ended schedule requests (Some end) number over next =
      let none : option_map (λ (event : Event C). event.number) (next_in schedule) ≡ None =
      nothing_next schedule.pending schedule.postponed schedule.running schedule.next_number over.0 over.2 in
      absurd (none_not_some (option_map (λ (event : Event C). event.number) (next_in schedule)) number none next)

  -- what is equal part by part can come about where the other can
  pub lawful_same : (id : MachineId) (ended : Option (ℕ × ℕ)) {schedule schedule2 : Schedule C} {requests requests2 : List (Request C)} {outbox outbox2 : Outbox C} {latest latest2 : ℕ}
      → schedule ≡ schedule2 → requests ≡ requests2 → outbox ≡ outbox2 → latest ≡ latest2
      → IsLawfulOf id schedule2 requests2 outbox2 latest2 ended → IsLawfulOf id schedule requests outbox latest ended
  lawful_same id ended same_schedule same_requests same_outbox same_latest lawful = rw (same_schedule, same_requests, same_outbox, same_latest) lawful

  module _ (id : MachineId) (schedule : Schedule C) (requests : List (Request C)) (outbox : Outbox C) (latest now : ℕ) (ended : Option (ℕ × ℕ)) where
    early : now < 2 ^ 63 → latest < 2 ^ 63 → max latest now < 2 ^ 63
    early below lawful = omega (arith, below, lawful)

    -- replies were sent at a moment
    pub answered_keeps : (replies : List (Tag × C)) → now < 2 ^ 63 → IsLawfulOf id schedule requests outbox latest ended
        → IsLawfulOf id schedule (with_answers requests replies) outbox (max latest now) ended
    answered_keeps replies below lawful = record {
      scheduled = lawful_later latest (max latest now) schedule lawful.scheduled (omega arith);
      one_each = one_each_answers requests replies lawful.one_each;
      own = are_of_answers id schedule.next_number requests replies lawful.own;
      sent = lawful.sent;
      moment = early below lawful.moment;
      over = over_answers schedule requests ended replies lawful.over;
    }

    -- the next event was handled at a moment, and replies and messages were sent
    pub settled_keeps : (number : ℕ) (postpone changed : Bool) (inserts : List (Insert C)) (settings : List (Setting C)) (replies : List (Tag × C)) (sends : List (MachineId × C))
        → now < 2 ^ 63 → option_map (λ (event : Event C). event.number) (next_in schedule) ≡ Some number
        → AskedOnce settings → schedule.next_number + (length inserts + numbers_taken (running_on changed schedule) settings) ≤ 2 ^ 63
        → outbox.next_number + length sends ≤ 2 ^ 63
        → IsLawfulOf id schedule requests outbox latest ended
        → IsLawfulOf id (settled_in (max latest now) schedule number postpone changed inserts settings) (with_answers requests replies) (with_sent id outbox sends) (max latest now) ended
    settled_keeps number postpone changed inserts settings replies sends below next once enough places lawful =
        let scheduled = lawful_later latest (max latest now) schedule lawful.scheduled (omega arith) in
        let running = has_not_ended schedule requests ended number lawful.over next in
        record {
          scheduled = settled_lawful (max latest now) schedule number postpone changed inserts settings scheduled next once enough;
          one_each = one_each_answers requests replies lawful.one_each;
          own = are_of_later id schedule.next_number (settled_in (max latest now) schedule number postpone changed inserts settings).next_number (with_answers requests replies)
              (settled_next (max latest now) schedule number postpone changed inserts settings scheduled next once enough)
              (are_of_answers id schedule.next_number requests replies lawful.own);
          sent = lawful_sent id outbox sends places lawful.sent;
          moment = early below lawful.moment;
          over = not_over (settled_in (max latest now) schedule number postpone changed inserts settings) (with_answers requests replies) ended running;
        }

  module _ (id : MachineId) (now first : ℕ) where
    abbrev nothing_yet : Schedule C
    nothing_yet = record { pending = []; postponed = []; running = []; next_number = first }

    -- a machine has begun
    pub begun_keeps : (inserts : List (Insert C)) (settings : List (Setting C)) (sends : List (MachineId × C)) → now < 2 ^ 63
        → AskedOnce settings → first + (length inserts + numbers_taken [] settings) ≤ 2 ^ 63
        → 1 + length sends ≤ 2 ^ 63
        → IsLawfulOf id (all_set_in now (inserted_in nothing_yet inserts) settings) [] (with_sent id first_outbox sends) now None
    begun_keeps inserts settings sends below once enough places =
        let empty = lawful_empty {C = C} now first (omega (arith, enough)) in
        let inserted = lawful_inserted now nothing_yet inserts (omega (arith, enough)) empty in
        record {
          scheduled = lawful_set_all now (inserted_in nothing_yet inserts) settings once (omega (arith, enough)) inserted;
          one_each = tt;
          own = tt;
          sent = lawful_sent id first_outbox sends places (lawful_first id);
          moment = below;
          over = tt;
        }

    -- a machine has ended before its first event
    pub ended_keeps : (reason word : ℕ) → now < 2 ^ 63 → first < 2 ^ 63 → IsLawfulOf id nothing_yet [] first_outbox now (Some (reason, word))
    ended_keeps reason word below free = record {
      scheduled = lawful_empty {C = C} now first (omega (arith, free));
      one_each = tt;
      own = tt;
      sent = lawful_first id;
      moment = below;
      over = (refl, refl, refl, tt);
    }
