-- A whole turn's steps on what waits and what runs: a schedule that can come about is followed by one that can;
-- and the numbers that stand in it after the turn.
use Rattle.std.proofs.Common.{◌≡◌, ℕ, ◌+◌, ◌<◌, ◌≤◌, ◌^◌, Bool, true, false, ◌==◌, if◌then◌else◌, List, [], ◌∷◌, ◌++◌, Some, length, refl, sym, ◌∙◌, ap, arith, ◌⊎◌, inl, inr}
use Rattle.std.specs.Prelude.{nat_lt}
use Rattle.std.specs.Option.{option_map}
use Rattle.std.proofs.lemmas.Bool.{cases_lt}
use Rattle.st_events.specs.declared.event.Event.{Event}
use Rattle.st_events.specs.declared.insert.Insert.{Insert}
use Rattle.st_events.specs.declared.setting.Setting.{Setting}
use Rattle.st_events.specs.declared.timer.Timer.TheVariants as timer
use Rattle.st_events.specs.Timers.{AskedOnce}
use Rattle.st_events.proofs.ComparedLemmas.{same_number}
use Rattle.st_timeouts.specs.declared.running.Running.{Running}
use Rattle.st_timeouts.specs.Running.{without_running}
use Rattle.st_agenda.specs.Items.{has, first_received, numbers_of, numbered}
use Rattle.st_agenda.specs.Timing.{numbers_taken}
use Rattle.st_agenda.specs.declared.schedule.Schedule.{Schedule}
use Rattle.st_agenda.specs.Agenda.{next_in, received_in, cancelled_in, disposed_in, retried_in, inserted_in, settled_in, received_and_retried_in, running_on}
use Rattle.st_agenda.specs.Lawful.{times, waiting_numbers, running_numbers, live_numbers, IsLawfulSchedule}
use Rattle.st_agenda.proofs.LawfulReceiving.{received_lawful, received_is_first, received_live, received_waiting, next_is_live, disposed_lawful, disposed_waiting, disposed_live}
use Rattle.st_agenda.proofs.LawfulSetting.{times-append, numbered_times, numbered_times_once, cancelled_waiting, cancelled_live, cancelled_first, lawful_cancelled, lawful_retried, retried_waiting, retried_live, retried_next, inserted_waiting, inserted_live, lawful_inserted, set_all_waiting, set_all_next, set_all_live, lawful_set_all}

-- ---- how often a number stands in a list, and whether it does
has_times_by : (same among : Bool) (count : ℕ) → among ≡ nat_lt 0 count → (if same then true else among) ≡ nat_lt 0 ((if same then 1 else 0) + count)
has_times_by true among count e = grind arith
has_times_by false among count e = e ∙ (let same : 0 + count ≡ count = omega arith in ap (nat_lt 0) (sym same))

-- a number is among a list where it stands in it
pub has_times : (xs : List ℕ) (n : ℕ) → has xs n ≡ nat_lt 0 (times n xs)
has_times [] n = refl
has_times (x ∷ xs) n = has_times_by (x == n) (has xs n) (times n xs) (has_times xs n)

-- what stands once at most stands as often as it is there
once_or_none : (count : ℕ) (there : Bool) → there ≡ nat_lt 0 count → count ≤ 1 → count ≡ (if there then 1 else 0)
once_or_none count true e h = grind (arith, e, h)
once_or_none count false e h = grind (arith, e, h)

-- where it stands there is one
one_there : (one count : ℕ) (there : Bool) → one ≡ 1 → there ≡ nat_lt 0 count → 1 ≤ count → one ≡ (if there then 1 else 0)
one_there one count true same e h = same
one_there one count false same e h = grind (arith, e, h)

-- the numbers that stood, one more, and others that follow; no number stood that follows
accounted_by : (same there : Bool) (before following count : ℕ) → there ≡ nat_lt 0 count → count ≡ before + ((if same then 1 else 0) + following)
    → (same ≡ true → following ≡ 0) → before + following ≤ 1
    → (if same then 1 else before) + following ≡ (if there then 1 else 0)
accounted_by true there before following count e c none once =
    let nothing = none refl in
    one_there (1 + following) count there (omega (arith, nothing)) e (omega (arith, c))
accounted_by false there before following count e c none once =
    let whole : before + following ≡ count = omega (arith, c) in
    whole ∙ once_or_none count there e (omega (arith, whole, once))

-- an event that is not postponed is finished
finished_once : (postpone : Bool) (number : ℕ) → postpone ≡ false → times number (if postpone then [] else number ∷ []) ≡ 1
finished_once true number e = cc
finished_once false number e = rw (same_number number) refl

module _ {C : Type 0} where
  -- at a state change the state time-out runs no more
  retried_runs : (changed : Bool) (s : Schedule C) → (retried_in s changed).running ≡ (if changed then without_running timer.State s.running else s.running)
  retried_runs true s = refl
  retried_runs false s = refl

  -- when settings come to be done, those run that run on
  pub still_running : (s : Schedule C) (number : ℕ) (postpone changed : Bool) → (received_and_retried_in s number postpone changed).running ≡ running_on changed s
  still_running s number postpone changed = retried_runs changed (disposed_in (cancelled_in (received_in s) timer.Event) number postpone)

  -- ---- the next event
  below_by : (now : ℕ) (s : Schedule C) (number : ℕ) → IsLawfulSchedule now s → times number (live_numbers s) ≡ 1
      → (number < s.next_number) ⊎ (s.next_number ≤ number) → number < s.next_number
  below_by now s number law live (inl less) = less
  below_by now s number law live (inr more) = absurd (omega (arith, live, law.below number more))

  -- it has a number that was taken
  pub next_below : (now : ℕ) (s : Schedule C) (number : ℕ) → IsLawfulSchedule now s
      → option_map (λ (event : Event C). event.number) (next_in s) ≡ Some number → number < s.next_number
  next_below now s number law next = below_by now s number law (next_is_live now s number law next) (cases_lt number s.next_number)

  -- what waits may still be handled
  waiting_live : (n : ℕ) (s : Schedule C) → times n (waiting_numbers s.pending) ≤ times n (live_numbers s)
  waiting_live n s = omega (arith, times-append n (waiting_numbers s.pending) (running_numbers s.running))

  -- numbers that wait and numbers that are new stand once at most
  once_by : (now : ℕ) (s : Schedule C) (inserts : List (Insert C)) (n : ℕ) → IsLawfulSchedule now s → (n < s.next_number) ⊎ (s.next_number ≤ n)
      → times n (live_numbers s) + times n (numbers_of (numbered s.next_number inserts)) ≤ 1
  once_by now s inserts n law (inl less) = omega (arith, law.distinct n, numbered_times n s.next_number inserts less)
  once_by now s inserts n law (inr more) = omega (arith, law.below n more, numbered_times_once n s.next_number inserts)

  -- ---- the steps of a turn, one after another
  module _ (now : ℕ) (s : Schedule C) (number : ℕ) (postpone changed : Bool) (inserts : List (Insert C)) (settings : List (Setting C)) where
    abbrev received : Schedule C
    received = received_in s

    abbrev cancelled : Schedule C
    cancelled = cancelled_in received timer.Event

    abbrev disposed : Schedule C
    disposed = disposed_in cancelled number postpone

    abbrev retried : Schedule C
    retried = retried_in disposed changed

    abbrev inserted : Schedule C
    inserted = inserted_in retried inserts

    -- what is left of the number that the event had
    abbrev gone : List ℕ
    gone = if postpone then [] else number ∷ []

    -- the numbers that the inserted events get
    abbrev new : List ℕ
    new = numbers_of (numbered s.next_number inserts)

    same_next : retried.next_number ≡ s.next_number
    same_next = retried_next disposed changed

    new_times : (n : ℕ) → times n (numbers_of (numbered retried.next_number inserts)) ≡ times n new
    new_times n = ap (λ first. times n (numbers_of (numbered first inserts))) same_next

    module _ (law : IsLawfulSchedule now s) (next : option_map (λ (event : Event C). event.number) (next_in s) ≡ Some number)
        (once : AskedOnce settings) (reserved : s.next_number + (length inserts + numbers_taken (running_on changed s) settings) ≤ 2 ^ 63) where
      cancelled_lawful : IsLawfulSchedule now cancelled
      cancelled_lawful = lawful_cancelled now received timer.Event (received_lawful now s number law next)

      cancelled_is_first : option_map (λ (event : Event C). event.number) (first_received cancelled.postponed cancelled.pending) ≡ Some number
      cancelled_is_first =
          ap (option_map (λ (event : Event C). event.number)) (cancelled_first received timer.Event) ∙ received_is_first now s number law next

      retried_lawful : IsLawfulSchedule now retried
      retried_lawful = lawful_retried now disposed changed (disposed_lawful now cancelled number postpone cancelled_lawful cancelled_is_first)

      -- so settings take as many numbers
      same_taken : numbers_taken inserted.running settings ≡ numbers_taken (running_on changed s) settings
      same_taken = ap (λ (running : List (Running C)). numbers_taken running settings) (still_running s number postpone changed)

      -- the schedule can still come about
      pub settled_lawful : IsLawfulSchedule now (settled_in now s number postpone changed inserts settings)
      settled_lawful =
          lawful_set_all now inserted settings once (omega (arith, reserved, same_next, same_taken))
          (lawful_inserted now retried inserts (omega (arith, reserved, same_next)) retried_lawful)

      settled_waiting_sum : (n : ℕ)
          → times n (waiting_numbers (settled_in now s number postpone changed inserts settings).pending) + times n gone
          ≡ (if number == n then 1 else times n (waiting_numbers s.pending)) + times n new
      settled_waiting_sum n =
          let set = ap (times n) (set_all_waiting now inserted settings) in
          let more = inserted_waiting retried inserts n in
          let tried = ap (times n) (retried_waiting disposed changed) in
          let left = disposed_waiting now cancelled number postpone cancelled_lawful cancelled_is_first n in
          let same = ap (times n) (cancelled_waiting received timer.Event) in
          let came = received_waiting now s number law next n in
          omega (arith, set, more, tried, left, same, came, new_times n)

      new_none : (n : ℕ) → (number == n) ≡ true → times n new ≡ 0
      new_none n e =
          let same : number ≡ n = grind (arith, e) in
          numbered_times n s.next_number inserts (omega (arith, same, next_below now s number law next))

      -- the numbers that waited, the event's and the new ones wait, and the event's where it is finished does not
      pub settled_waiting : (n : ℕ)
          → times n (waiting_numbers (settled_in now s number postpone changed inserts settings).pending) + times n (if postpone then [] else number ∷ [])
          ≡ (if has (waiting_numbers s.pending ++ number ∷ numbers_of (numbered s.next_number inserts)) n then 1 else 0)
      settled_waiting n =
          let split = times-append n (waiting_numbers s.pending) (number ∷ new) in
          let live = waiting_live n s in
          settled_waiting_sum n
          ∙ accounted_by (number == n) (has (waiting_numbers s.pending ++ number ∷ new) n) (times n (waiting_numbers s.pending)) (times n new)
          (times n (waiting_numbers s.pending ++ number ∷ new)) (has_times (waiting_numbers s.pending ++ number ∷ new) n) split (new_none n)
          (omega (arith, live, once_by now s inserts n law (cases_lt n s.next_number)))

      -- no number is given back
      pub settled_next : s.next_number ≤ (settled_in now s number postpone changed inserts settings).next_number
      settled_next = omega (arith, set_all_next now inserted settings, same_next)

      -- of the numbers that were taken none may be handled that could not be before, nor the event's where it is finished
      settled_live : (n : ℕ) → n < s.next_number
          → times n (live_numbers (settled_in now s number postpone changed inserts settings)) + times n gone ≤ times n (live_numbers s)
      settled_live n less =
          let set = set_all_live now inserted settings n (omega (arith, less, same_next)) in
          let more = inserted_live retried inserts n in
          let none = numbered_times n s.next_number inserts less in
          let tried = retried_live disposed changed n in
          let left = disposed_live now cancelled number postpone cancelled_lawful cancelled_is_first n in
          let fewer = cancelled_live received timer.Event n in
          let came = received_live now s number law next n in
          omega (arith, set, more, none, tried, left, fewer, came, new_times n)

      -- what could not be handled before cannot be after
      pub settled_gone : (n : ℕ) → n < s.next_number → times n (live_numbers s) ≡ 0
          → times n (live_numbers (settled_in now s number postpone changed inserts settings)) ≡ 0
      settled_gone n less none = omega (arith, settled_live n less, none)

      -- nor the event where it is finished
      pub finished_gone : postpone ≡ false → times number (live_numbers (settled_in now s number postpone changed inserts settings)) ≡ 0
      finished_gone finished =
          omega (arith, settled_live number (next_below now s number law next), finished_once postpone number finished, law.distinct number)
