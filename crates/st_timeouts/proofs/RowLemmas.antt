-- A timer's entry as it is listed, and how many wait.
use Rattle.std.proofs.Common.{◌≡◌, ℕ, suc, ◌+◌, ◌-◌, ◌<◌, ◌≤◌, Bool, true, false, not, ◌==◌, if◌then◌else◌, List, [], ◌∷◌, ◌++◌, map, refl, sym, ap, subst, ◌∙◌, arith, length, length-append, ◌⊎◌, inl, inr}
use Rattle.std.specs.Prelude.{Option, Some, None, is_some}
use Rattle.std.specs.List.{filter}
use Rattle.std.specs.Option.{option_map}
use Rattle.std.proofs.lemmas.List.{map-append}
use Rattle.st_events.specs.declared.timer.Timer.{Timer}
use Rattle.st_events.specs.Timers.{same_timer}
use Rattle.st_events.proofs.ComparedLemmas.{timers_same, no_first}
use Rattle.st_timer_map.specs.Rows.{Rows, value_of, without_timer, with_put}
use Rattle.st_timeouts.specs.declared.entry.Entry.{Entry}
use Rattle.st_timeouts.specs.declared.key.Key.{Key}
use Rattle.st_timeouts.specs.declared.due.Due.{Due}
use Rattle.st_timeouts.specs.declared.due.Due.TheVariants.{At}
use Rattle.st_timeouts.specs.declared.running.Running.{Running}
use Rattle.st_timeouts.specs.Running.{is_zero, moment_of, running_of, OneEach}
use Rattle.st_timeouts.specs.Timeouts.{Listed, all_of, name_of, shown, without_listed, content_of, runs, with_expired, live}
use Rattle.st_timeouts.specs.Order.{NoneElse}
use Rattle.st_timeouts.specs.Keys.{before, put_key, put_late, ordered, key_at, key_of, keys_of}
use Rattle.st_timeouts.specs.Waiting.{waits, waiting_of, due_keys, zeros_of}
use Rattle.st_timeouts.specs.Entries.{running, listed_row, listed_of}
use Rattle.st_timeouts.proofs.OrderLemmas.{updated_listed}
use Rattle.st_timeouts.proofs.WaitingLemmas.{listed_for, due_keys_still, none_else_due}
use Rattle.st_timeouts.proofs.ZerosLemmas.{zeros_still}

-- ---- keys in order are as many
length_put_by : (b : Bool) (one other : Key) (others put : List Key) → length put ≡ suc (length others)
    → length (if b then one ∷ other ∷ others else other ∷ put) ≡ suc (suc (length others))
length_put_by true one other others put h = refl
length_put_by false one other others put h = ap suc h

length_put : (one : Key) (others : List Key) → length (put_key one others) ≡ suc (length others)
length_put one [] = refl
length_put one (other ∷ others) = length_put_by (before one other) one other others (put_key one others) (length_put one others)

length_ordered : (keys : List Key) → length (ordered keys) ≡ length keys
length_ordered [] = refl
length_ordered (one ∷ keys) = length_put one (ordered keys) ∙ ap suc (length_ordered keys)

length_late_by : (b : Bool) (one other : Key) (others put : List Key) → length put ≡ suc (length others)
    → length (if b then other ∷ put else one ∷ other ∷ others) ≡ suc (suc (length others))
length_late_by true one other others put h = ap suc h
length_late_by false one other others put h = refl

pub length_late : (one : Key) (others : List Key) → length (put_late one others) ≡ suc (length others)
length_late one [] = refl
length_late one (other ∷ others) = length_late_by (before other one) one other others (put_late one others) (length_late one others)

pub length_map : {X Y : Type 0} (f : X → Y) (rows : List X) → length (map f rows) ≡ length rows
length_map f [] = refl
length_map f (row ∷ rows) = ap suc (length_map f rows)

fits_by : (b : Bool) (less n reserved : ℕ) → less + (if b then 1 else 0) ≤ n → (b ≡ true) ⊎ (0 < reserved)
    → less + 1 + (if b then reserved else reserved - 1) ≤ n + reserved
fits_by true less n reserved h k = omega (arith, h)
fits_by false less n reserved h (inl k) = cc
fits_by false less n reserved h (inr k) = omega (arith, h, k)

module _ {C : Type 0} where
  -- ---- a timer's entry, as it is listed
  found_by : (b : Bool) (timer : Timer) (row : Timer × Entry C) (found : Option (Listed C)) (value : Option (Entry C)) → same_timer timer row.0 ≡ b
      → found ≡ option_map (λ (entry : Entry C). listed_row (timer, entry)) value
      → (if b then Some (listed_row row) else found) ≡ option_map (λ (entry : Entry C). listed_row (timer, entry)) (if b then Some row.1 else value)
  found_by true timer row found value e h = let same : timer ≡ row.0 = timers_same timer row.0 e in rw same refl
  found_by false timer row found value e h = h

  pub found_row : (timer : Timer) (rows : List (Timer × Entry C))
      → listed_for timer (listed_of rows) ≡ option_map (λ (entry : Entry C). listed_row (timer, entry)) (value_of timer rows)
  found_row timer [] = refl
  found_row timer (row ∷ rows) =
      found_by (same_timer timer row.0) timer row (listed_for timer (listed_of rows)) (value_of timer rows) refl (found_row timer rows)

  runs_by : (b : Bool) (timer : Timer) (row : Timer × Entry C) (found : Option (Running C)) (value : Option (Entry C)) → same_timer timer row.0 ≡ b
      → found ≡ option_map (running timer) value
      → (if b then Some (running row.0 row.1) else found) ≡ option_map (running timer) (if b then Some row.1 else value)
  runs_by true timer row found value e h = let same : timer ≡ row.0 = timers_same timer row.0 e in rw same refl
  runs_by false timer row found value e h = h

  pub running_row : (timer : Timer) (rows : List (Timer × Entry C)) → running_of timer (all_of (listed_of rows)) ≡ option_map (running timer) (value_of timer rows)
  running_row timer [] = refl
  running_row timer (row ∷ rows) =
      runs_by (same_timer timer row.0) timer row (running_of timer (all_of (listed_of rows))) (value_of timer rows) refl (running_row timer rows)

  some_running : (timer : Timer) (value : Option (Entry C)) → is_some (option_map (running timer) value) ≡ is_some value
  some_running timer None = refl
  some_running timer (Some entry) = refl

  content_running : (timer : Timer) (value : Option (Entry C))
      → option_map (λ (one : Running C). one.content) (option_map (running timer) value) ≡ option_map (λ (entry : Entry C). entry.content) value
  content_running timer None = refl
  content_running timer (Some entry) = refl

  pub runs_row : (timer : Timer) (rows : List (Timer × Entry C)) → runs timer (listed_of rows) ≡ is_some (value_of timer rows)
  runs_row timer rows = ap is_some (running_row timer rows) ∙ some_running timer (value_of timer rows)

  pub content_row : (timer : Timer) (rows : List (Timer × Entry C)) → content_of timer (listed_of rows) ≡ option_map (λ (entry : Entry C). entry.content) (value_of timer rows)
  content_row timer rows =
      ap (λ (found : Option (Running C)). option_map (λ (one : Running C). one.content) found) (running_row timer rows) ∙ content_running timer (value_of timer rows)

  pub found_listed : (timer : Timer) (rows : List (Timer × Entry C)) (entry : Entry C) → value_of timer rows ≡ Some entry → listed_for timer (listed_of rows) ≡ Some (listed_row (timer, entry))
  found_listed timer rows entry h = found_row timer rows ∙ ap (λ (value : Option (Entry C)). option_map (λ (entry : Entry C). listed_row (timer, entry)) value) h

  pub found_running : (timer : Timer) (rows : List (Timer × Entry C)) (entry : Entry C) → value_of timer rows ≡ Some entry → running_of timer (all_of (listed_of rows)) ≡ Some (running timer entry)
  found_running timer rows entry h = running_row timer rows ∙ ap (option_map (running timer)) h

  pub not_found : (timer : Timer) (rows : List (Timer × Entry C)) → value_of timer rows ≡ None → running_of timer (all_of (listed_of rows)) ≡ None
  not_found timer rows h = running_row timer rows ∙ ap (option_map (running timer)) h

  -- ---- the content of a timer's entry, where its number is this one, and where it is another
  pub content_live : (timer : Timer) (number : ℕ) (listed : List (Listed C)) (one : Running C) → running_of timer (all_of listed) ≡ Some one → one.number ≡ number
      → Some one.content ≡ option_map (λ (one : Running C). one.content) (live timer number listed)
  content_live timer number listed one runs same =
      let test : (one.number == number) ≡ true = grind (arith, same) in rw (runs, test) refl

  pub none_live : (timer : Timer) (number : ℕ) (listed : List (Listed C)) (one : Running C) → running_of timer (all_of listed) ≡ Some one → (one.number ≡ number → ⊥)
      → None ≡ option_map (λ (one : Running C). one.content) (live timer number listed)
  none_live timer number listed one runs other =
      let test : (one.number == number) ≡ false = grind (arith, other) in rw (runs, test) refl

  -- ---- a timer's entry is put, taken out or marked
  without_by : (b : Bool) (row : Timer × Entry C) (rows : List (Timer × Entry C)) (rest : List (Listed C)) → listed_of rows ≡ rest
      → listed_of (if not b then row ∷ rows else rows) ≡ (if not b then listed_row row ∷ rest else rest)
  without_by true row rows rest h = h
  without_by false row rows rest h = ap (λ t. listed_row row ∷ t) h

  pub listed_without : (timer : Timer) (rows : List (Timer × Entry C)) → listed_of (without_timer timer rows) ≡ without_listed timer (listed_of rows)
  listed_without timer [] = refl
  listed_without timer (row ∷ rows) =
      without_by (same_timer timer row.0) row (without_timer timer rows) (without_listed timer (listed_of rows)) (listed_without timer rows)

  pub listed_put : (kept : Rows (Entry C)) (timer : Timer) (entry : Entry C)
      → listed_of (with_put kept timer entry).rows ≡ without_listed timer (listed_of kept.rows) ++ listed_row (timer, entry) ∷ []
  listed_put kept timer entry =
      map-append listed_row (without_timer timer kept.rows) ((timer, entry) ∷ []) ∙ ap (λ t. t ++ listed_row (timer, entry) ∷ []) (listed_without timer kept.rows)

  marked_by : (b : Bool) (row : Timer × Entry C)
      → listed_row (row.0, if b then (record (row.1) { expired = true }) else row.1) ≡ record (listed_row row) { expired = if b then true else row.1.expired }
  marked_by true row = refl
  marked_by false row = refl

  pub listed_marked : (timer : Timer) (rows : List (Timer × Entry C))
      → listed_of (map (λ (row : Timer × Entry C). (row.0, if same_timer timer row.0 then (record (row.1) { expired = true }) else row.1)) rows)
      ≡ with_expired timer (listed_of rows)
  listed_marked timer [] = refl
  listed_marked timer (row ∷ rows) = rw (marked_by (same_timer timer row.0) row) (ap (λ t. (record (listed_row row) { expired = if same_timer timer row.0 then true else row.1.expired }) ∷ t) (listed_marked timer rows))

  -- ---- a timer's entry is replaced by one that differs in its content
  -- with this entry for a timer that is there
  abbrev pub with_entry : Timer → Entry C → List (Timer × Entry C) → List (Timer × Entry C)
  with_entry timer entry rows = map (λ (row : Timer × Entry C). (row.0, if same_timer timer row.0 then entry else row.1)) rows

  -- where the timer is not there, nothing is replaced
  replaced_none : (timer : Timer) (content : C) (entry : Entry C) (rows : List (Timer × Entry C)) → value_of timer rows ≡ None
      → listed_of (with_entry timer entry rows) ≡ updated_listed timer content (listed_of rows)
  replaced_none timer content entry [] h = refl
  replaced_none timer content entry (row ∷ rows) h =
      let parts = no_first (same_timer timer row.0) row.1 (value_of timer rows) h in
      rw parts.0 (ap (λ t. listed_row row ∷ t) (replaced_none timer content entry rows parts.1))

  none_by : (timer : Timer) (value : Option (Entry C)) → option_map (running timer) value ≡ None → value ≡ None
  none_by timer None h = refl
  none_by timer (Some entry) h = cc

  no_value : (timer : Timer) (rows : List (Timer × Entry C)) → running_of timer (all_of (listed_of rows)) ≡ None → value_of timer rows ≡ None
  no_value timer rows h = none_by timer (value_of timer rows) (sym (running_row timer rows) ∙ h)

  replaced_by : (b : Bool) (timer : Timer) (content : C) (entry : Entry C) (row : Timer × Entry C) (rows : List (Timer × Entry C)) → same_timer timer row.0 ≡ b
      → running_of row.0 (all_of (listed_of rows)) ≡ None → (if b then Some row.1 else value_of timer rows) ≡ Some entry
      → (value_of timer rows ≡ Some entry → listed_of (with_entry timer (record entry { content = content }) rows) ≡ updated_listed timer content (listed_of rows))
      → listed_of (with_entry timer (record entry { content = content }) (row ∷ rows)) ≡ updated_listed timer content (listed_of (row ∷ rows))
  replaced_by true timer content entry row rows e none found h =
      let its : row.1 ≡ entry = cc in
      let absent : value_of timer rows ≡ None = no_value timer rows (subst (λ (t : Timer). running_of t (all_of (listed_of rows)) ≡ None) (sym (timers_same timer row.0 e)) none) in
      subst (λ (it : Entry C). listed_of (with_entry timer (record it { content = content }) (row ∷ rows)) ≡ updated_listed timer content (listed_of (row ∷ rows))) its
      (rw e (ap (λ t. listed_row (row.0, record (row.1) { content = content }) ∷ t) (replaced_none timer content (record (row.1) { content = content }) rows absent)))
  replaced_by false timer content entry row rows e none found h = rw e (ap (λ t. listed_row row ∷ t) (h found))

  -- the others are listed as before, and the timer's with its new content
  pub listed_updated : (timer : Timer) (content : C) (entry : Entry C) (rows : List (Timer × Entry C)) → OneEach (all_of (listed_of rows)) → value_of timer rows ≡ Some entry
      → listed_of (with_entry timer (record entry { content = content }) rows) ≡ updated_listed timer content (listed_of rows)
  listed_updated timer content entry [] each found = cc
  listed_updated timer content entry (row ∷ rows) each found =
      replaced_by (same_timer timer row.0) timer content entry row rows refl each.0 found (λ found. listed_updated timer content entry rows each.1 found)

  -- ---- the entries as they are listed
  pub rows_shown : (rows : List (Timer × Entry C)) → map (λ (row : Timer × Entry C). (row.0, row.1.number, row.1.due)) rows ≡ map shown (listed_of rows)
  rows_shown [] = refl
  rows_shown (row ∷ rows) = ap (λ t. (row.0, row.1.number, row.1.due) ∷ t) (rows_shown rows)

  -- ---- how many there are without a timer's
  fewer_by : (b : Bool) (row : Timer × Entry C) (rows : List (Timer × Entry C)) (value : Option (Entry C)) (n : ℕ)
      → length rows + (if is_some value then 1 else 0) ≤ n
      → length (if not b then row ∷ rows else rows) + (if is_some (if b then Some row.1 else value) then 1 else 0) ≤ suc n
  fewer_by true row rows None n h = omega (arith, h)
  fewer_by true row rows (Some entry) n h = omega (arith, h)
  fewer_by false row rows None n h = omega (arith, h)
  fewer_by false row rows (Some entry) n h = omega (arith, h)

  pub fewer_rows : (timer : Timer) (rows : List (Timer × Entry C)) → length (without_timer timer rows) + (if is_some (value_of timer rows) then 1 else 0) ≤ length rows
  fewer_rows timer [] = omega arith
  fewer_rows timer (row ∷ rows) = fewer_by (same_timer timer row.0) row (without_timer timer rows) (value_of timer rows) (length rows) (fewer_rows timer rows)

  -- where one is set, there are no more with those that are reserved for
  pub fits_put : (kept : Rows (Entry C)) (timer : Timer) (entry : Entry C) → (runs timer (listed_of kept.rows) ≡ true) ⊎ (0 < kept.reserved)
      → length (with_put kept timer entry).rows + (with_put kept timer entry).reserved ≤ length kept.rows + kept.reserved
  fits_put kept timer entry h =
      let fits = fits_by (is_some (value_of timer kept.rows)) (length (without_timer timer kept.rows)) (length kept.rows) kept.reserved (fewer_rows timer kept.rows)
      (subst (λ (b : Bool). (b ≡ true) ⊎ (0 < kept.reserved)) (runs_row timer kept.rows) h) in
      omega (arith, fits, length-append (without_timer timer kept.rows) ((timer, entry) ∷ []))

  pub fits_place : (kept : Rows (Entry C)) (timer : Timer) → (runs timer (listed_of kept.rows) ≡ true) ⊎ (0 < kept.reserved)
      → length (without_timer timer kept.rows) + 1 ≤ length kept.rows + kept.reserved
  fits_place kept timer h =
      let fits = fits_by (is_some (value_of timer kept.rows)) (length (without_timer timer kept.rows)) (length kept.rows) kept.reserved (fewer_rows timer kept.rows)
      (subst (λ (b : Bool). (b ≡ true) ⊎ (0 < kept.reserved)) (runs_row timer kept.rows) h) in
      omega (arith, fits)

  -- ---- how many wait
  length_if : (b : Bool) (one : Listed C) (rest : List (Listed C)) (n : ℕ) → length (all_of rest) ≤ n → length (all_of (if b then one ∷ rest else rest)) ≤ suc n
  length_if true one rest n h = omega (arith, h)
  length_if false one rest n h = omega (arith, h)

  length_waiting : (listed : List (Listed C)) → length (waiting_of listed) ≤ length listed
  length_waiting [] = omega arith
  length_waiting (one ∷ listed) = length_if (waits one) one (filter waits listed) (length listed) (length_waiting listed)

  zero_length_if : (b : Bool) (one : Running C) (rest : List (Running C)) (n : ℕ) → length (map name_of rest) ≤ n → length (map name_of (if b then one ∷ rest else rest)) ≤ suc n
  zero_length_if true one rest n h = omega (arith, h)
  zero_length_if false one rest n h = omega (arith, h)

  zeros_fewer : (listed : List (Listed C)) → length (zeros_of listed) ≤ length listed
  zeros_fewer [] = omega arith
  zeros_fewer (one ∷ listed) =
      zero_length_if (is_zero one.running.due) one.running (filter (λ (one : Running C). is_zero one.due) (all_of listed)) (length listed) (zeros_fewer listed)

  -- no more wait than there are entries
  pub zeros_at_most : (rows : List (Timer × Entry C)) → length (zeros_of (listed_of rows)) ≤ length rows
  zeros_at_most rows = let fewer = zeros_fewer (listed_of rows) in let same = length_map listed_row rows in omega (arith, fewer, same)

  pub keys_at_most : (rows : List (Timer × Entry C)) → length (due_keys (listed_of rows)) ≤ length rows
  keys_at_most rows =
      let ordered_is = length_ordered (keys_of (waiting_of (listed_of rows))) in
      let keys = length_map key_of (waiting_of (listed_of rows)) in
      let fewer = length_waiting (listed_of rows) in
      let same = length_map listed_row rows in
      omega (arith, ordered_is, keys, fewer, same)

  -- ---- without one that does not wait for a moment, or is not due at once
  pub still_keys : (timer : Timer) (listed : List (Listed C)) (this : Listed C) → OneEach (all_of listed) → listed_for timer listed ≡ Some this → this.running.timer ≡ timer
      → waits this ≡ false → due_keys (without_listed timer listed) ≡ due_keys listed
  still_keys timer listed this each h same w =
      subst (λ (t : Timer). due_keys (without_listed t listed) ≡ due_keys listed) same
      (due_keys_still this listed each (subst (λ (t : Timer). listed_for t listed ≡ Some this) (sym same) h) w)

  pub still_zeros : (timer : Timer) (listed : List (Listed C)) (this : Listed C) → OneEach (all_of listed) → listed_for timer listed ≡ Some this → this.running.timer ≡ timer
      → is_zero this.running.due ≡ false → zeros_of (without_listed timer listed) ≡ zeros_of listed
  still_zeros timer listed this each h same w =
      subst (λ (t : Timer). zeros_of (without_listed t listed) ≡ zeros_of listed) same
      (zeros_still this listed each (subst (λ (t : Timer). listed_for t listed ≡ Some this) (sym same) h) w)

  -- of a timer none but its own is there
  pub else_key : (timer : Timer) (listed : List (Listed C)) (this : Listed C) (moment : ℕ) → OneEach (all_of listed) → listed_for timer listed ≡ Some this → this.running.timer ≡ timer
      → this.running.due ≡ At moment → NoneElse (key_at timer this.running.number moment) (due_keys listed)
  else_key timer listed this moment each h same due =
      let its = none_else_due this listed each (subst (λ (t : Timer). listed_for t listed ≡ Some this) (sym same) h) in
      let key : key_of this.running ≡ key_at timer this.running.number moment =
      ap (λ (d : Due). key_at this.running.timer this.running.number (moment_of d)) due ∙ ap (λ (t : Timer). key_at t this.running.number moment) same in
      subst (λ (k : Key). NoneElse k (due_keys listed)) key its
