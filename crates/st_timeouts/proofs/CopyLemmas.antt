-- Where the time-outs are listed in order, each is found by its timer.
use Rattle.std.proofs.Common.{◌≡◌, ℕ, zero, suc, ◌+◌, ◌<◌, Bool, true, false, List, [], ◌∷◌, ◌++◌, map, length, take, get_or, slice_index_or, refl, sym, ap, ◌∙◌, arith}
use Rattle.std.specs.Prelude.{Some, None, unwrap_or}
use Rattle.st_events.specs.declared.timer.Timer.{Timer}
use Rattle.st_events.specs.Timers.{same_timer}
use Rattle.st_events.proofs.ComparedLemmas.{timers_same, same_timer_self}
use Rattle.st_timer_map.specs.Rows.{value_of}
use Rattle.st_timeouts.specs.declared.due.Due.{Due}
use Rattle.st_timeouts.specs.declared.entry.Entry.{Entry}
use Rattle.st_timeouts.specs.Running.{running_of, OneEach}
use Rattle.st_timeouts.specs.Timeouts.{all_of, shown}
use Rattle.st_timeouts.specs.Entries.{running, listed_of}
use Rattle.st_timeouts.proofs.RowLemmas.{found_running}

module _ {C : Type 0} where
  -- the time-out that a row tells of: its entry, by which the list is longer
  pub record IsFound (rows : List (Timer × Entry C)) (place : ℕ) (timer : Timer) : Type 0 where
    pub entry : Entry C
    pub found : value_of timer rows ≡ Some entry
    pub further : take (suc place) (all_of (listed_of rows)) ≡ take place (all_of (listed_of rows)) ++ running timer entry ∷ []

  behind : (b : Bool) (row : Timer × Entry C) (rows : List (Timer × Entry C)) (timer : Timer) (entry : Entry C) → same_timer timer row.0 ≡ b
      → running_of row.0 (all_of (listed_of rows)) ≡ None → value_of timer rows ≡ Some entry → value_of timer (row ∷ rows) ≡ Some entry
  behind false row rows timer entry is none found = rw is found
  behind true row rows timer entry is none found =
      let same : timer ≡ row.0 = timers_same timer row.0 is in
      let there : running_of row.0 (all_of (listed_of rows)) ≡ Some (running timer entry) = rw (← same) (found_running timer rows entry found) in
      let never : None ≡ Some (running timer entry) = sym none ∙ there in
      cc

  further : (row : Timer × Entry C) (rows : List (Timer × Entry C)) (place : ℕ) (timer : Timer) → running_of row.0 (all_of (listed_of rows)) ≡ None
      → IsFound rows place timer → IsFound (row ∷ rows) (suc place) timer
  further row rows place timer none there = record {
    entry = there.entry;
    found = behind (same_timer timer row.0) row rows timer there.entry refl none there.found;
    further = ap (λ others. running row.0 row.1 ∷ others) there.further;
  }

  pub is_found : (rows : List (Timer × Entry C)) (place : ℕ) (item d : Timer × ℕ × Due) → OneEach (all_of (listed_of rows))
      → place < length (map shown (listed_of rows)) → item ≡ get_or (map shown (listed_of rows)) place d → IsFound rows place item.0
  is_found [] place item d each within is = absurd (omega (arith, within))
  is_found (row ∷ rows) zero item d each within is =
      let same : item.0 ≡ row.0 = ap (λ shown. shown.0) is in
      rw same (record {
        entry = row.1;
        found = rw (same_timer_self row.0) refl;
        further = refl;
      })
  is_found (row ∷ rows) (suc place) item d each within is =
      further row rows place item.0 each.0 (is_found rows place item d each.1 (omega (arith, within)) is)

  there_by : (rows : List (Timer × Entry C)) (place : ℕ) (d : Timer × ℕ × Due) (list : List (Timer × ℕ × Due)) → OneEach (all_of (listed_of rows))
      → list ≡ map shown (listed_of rows) → place < length list → IsFound rows place (slice_index_or list place d).0
  there_by rows place d list each is within =
      rw is (is_found rows place (slice_index_or (map shown (listed_of rows)) place d) d each (rw (← is) within) refl)

  -- it is never missed
  pub not_missed : (rows : List (Timer × Entry C)) (place : ℕ) (d : Timer × ℕ × Due) (list : List (Timer × ℕ × Due)) → OneEach (all_of (listed_of rows))
      → list ≡ map shown (listed_of rows) → place < length list → None ≡ value_of (slice_index_or list place d).0 rows → ⊥
  not_missed rows place d list each is within none =
      let there : IsFound rows place (slice_index_or list place d).0 = there_by rows place d list each is within in
      let never : None ≡ Some there.entry = none ∙ there.found in
      cc

  -- one more of them
  pub one_more : (rows : List (Timer × Entry C)) (place : ℕ) (d : Timer × ℕ × Due) (list : List (Timer × ℕ × Due)) (entry : Entry C) → OneEach (all_of (listed_of rows))
      → list ≡ map shown (listed_of rows) → place < length list → Some entry ≡ value_of (slice_index_or list place d).0 rows
      → take (place + 1) (all_of (listed_of rows)) ≡ take place (all_of (listed_of rows)) ++ running (slice_index_or list place d).0 entry ∷ []
  one_more rows place d list entry each is within found =
      let there : IsFound rows place (slice_index_or list place d).0 = there_by rows place d list each is within in
      let same : entry ≡ there.entry = ap (λ found. unwrap_or found entry) (found ∙ there.found) in
      let next : place + 1 ≡ suc place = omega arith in
      ap (λ n. take n (all_of (listed_of rows))) next ∙ there.further ∙ ap (λ e. take place (all_of (listed_of rows)) ++ running (slice_index_or list place d).0 e ∷ []) (sym same)

  -- as many are shown as run
  pub as_long : (rows : List (Timer × Entry C)) → length (map shown (listed_of rows)) ≡ length (all_of (listed_of rows))
  as_long [] = refl
  as_long (row ∷ rows) = ap suc (as_long rows)
