-- What is kept is sound after a time-out was set, stopped, handed out or updated.
use Rattle.std.proofs.Common.{◌≡◌, ℕ, ◌+◌, ◌<◌, ◌≤◌, Bool, true, false, if◌then◌else◌, List, [], ◌∷◌, ◌++◌, refl, sym, ap, ◌∙◌, arith, length, length-append, ◌⊎◌}
use Rattle.std.specs.Prelude.{Some}
use Rattle.st_events.specs.declared.timer.Timer.{Timer}
use Rattle.st_events.specs.Timers.{same_timer}
use Rattle.st_timer_map.specs.Rows.{Rows, value_of, without_timer, with_put, with_removed, with_marked}
use Rattle.st_timeouts.specs.declared.entry.Entry.{Entry}
use Rattle.st_timeouts.specs.declared.key.Key.{Key}
use Rattle.st_timeouts.specs.Entries.{running, listed_row, listed_of, IsSound}
use Rattle.st_timeouts.specs.Keys.{put_late, key_of}
use Rattle.st_timeouts.specs.Order.{Order, with_key, first_key, other_keys}
use Rattle.st_timeouts.specs.Running.{is_zero}
use Rattle.st_timeouts.specs.Timeouts.{Listed, all_of, runs, without_listed}
use Rattle.st_timeouts.specs.Waiting.{waits, due_keys, zeros_of}
use Rattle.st_timeouts.specs.Zeros.{Zeros, with_zero}
use Rattle.st_timeouts.proofs.HandedLemmas.{zeros_put, zeros_same, others_are, due_keys_expired, zeros_expired, due_keys_updated, zeros_updated}
use Rattle.st_timeouts.proofs.RowLemmas.{length_late, length_map, listed_put, listed_without, listed_marked, listed_updated, fits_put, fits_place, fewer_rows, zeros_at_most, keys_at_most}
use Rattle.st_timeouts.proofs.OrderLemmas.{one_each_without, one_each_set, all_of_with_expired, all_of_updated, one_each_with_content}
use Rattle.st_timeouts.proofs.WaitingLemmas.{due_keys_more, due_keys_same, once_due}

zeros_places : (z : Bool) (zeros : Zeros) (timer : Timer) (number : ℕ) → 0 < zeros.reserved
    → zeros.reserved + length zeros.items ≤ (if z then with_zero zeros timer number else zeros).reserved + length (if z then with_zero zeros timer number else zeros).items
zeros_places true zeros timer number h = omega (arith, h, length-append zeros.items ((timer, number) ∷ []))
zeros_places false zeros timer number h = omega arith

keys_places : (z : Bool) (order : Order) (key : Key) → 0 < order.reserved
    → order.reserved + length order.keys ≤ (if z then order else with_key order key).reserved + length (if z then order else with_key order key).keys
keys_places true order key h = omega arith
keys_places false order key h = omega (arith, h, length_late key order.keys)

module _ {C : Type 0} where
  put_zeros : (z : Bool) (listed : List (Listed C)) (one : Listed C) (zeros : Zeros) → is_zero one.running.due ≡ z → zeros.items ≡ zeros_of listed
      → (if z then with_zero zeros one.running.timer one.running.number else zeros).items ≡ zeros_of (listed ++ one ∷ [])
  put_zeros true listed one zeros e h = ap (λ t. t ++ (one.running.timer, one.running.number) ∷ []) h ∙ sym (zeros_put listed one e)
  put_zeros false listed one zeros e h = h ∙ sym (zeros_same listed one e)

  put_keys : (z : Bool) (listed : List (Listed C)) (one : Listed C) (order : Order) → is_zero one.running.due ≡ z → one.expired ≡ false → order.keys ≡ due_keys listed
      → (if z then order else with_key order (key_of one.running)).keys ≡ due_keys (listed ++ one ∷ [])
  put_keys true listed one order e f h = let still : waits one ≡ false = rw e refl in h ∙ sym (due_keys_same listed one still)
  put_keys false listed one order e f h =
      let waiting : waits one ≡ true = rw (e, f) refl in ap (put_late (key_of one.running)) h ∙ sym (due_keys_more listed one waiting)

  -- where a timer is forgotten there is a place for it
  pub zeros_room : (kept : Rows (Entry C)) (timer : Timer) (zeros zeros1 : Zeros) (order : Order) → IsSound kept zeros order
      → (runs timer (listed_of kept.rows) ≡ true) ⊎ (0 < kept.reserved) → zeros1.items ≡ zeros_of (without_listed timer (listed_of kept.rows))
      → zeros1.reserved + length zeros1.items ≡ zeros.reserved + length zeros.items → 0 < zeros1.reserved
  zeros_room kept timer zeros zeros1 order sound h z zp =
      let there = fits_place kept timer h in
      let long = ap length (z ∙ ap zeros_of (sym (listed_without timer kept.rows))) in
      let most = zeros_at_most (without_timer timer kept.rows) in
      omega (arith, there, long, most, sound.zeros_fit, zp)

  pub keys_room : (kept : Rows (Entry C)) (timer : Timer) (zeros : Zeros) (order order1 : Order) → IsSound kept zeros order
      → (runs timer (listed_of kept.rows) ≡ true) ⊎ (0 < kept.reserved) → order1.keys ≡ due_keys (without_listed timer (listed_of kept.rows))
      → order1.reserved + length order1.keys ≡ order.reserved + length order.keys → 0 < order1.reserved
  keys_room kept timer zeros order order1 sound h k kp =
      let there = fits_place kept timer h in
      let long = ap length (k ∙ ap due_keys (sym (listed_without timer kept.rows))) in
      let most = keys_at_most (without_timer timer kept.rows) in
      omega (arith, there, long, most, sound.keys_fit, kp)

  pub sound_set : (kept : Rows (Entry C)) (timer : Timer) (entry : Entry C) (zeros zeros1 zeros2 : Zeros) (order order1 order2 : Order)
      → IsSound kept zeros order → (runs timer (listed_of kept.rows) ≡ true) ⊎ (0 < kept.reserved)
      → zeros1.items ≡ zeros_of (without_listed timer (listed_of kept.rows)) → order1.keys ≡ due_keys (without_listed timer (listed_of kept.rows))
      → zeros1.reserved + length zeros1.items ≡ zeros.reserved + length zeros.items → order1.reserved + length order1.keys ≡ order.reserved + length order.keys
      → entry.expired ≡ false
      → zeros2 ≡ (if is_zero entry.due then with_zero zeros1 timer entry.number else zeros1)
      → order2 ≡ (if is_zero entry.due then order1 else with_key order1 (key_of (running timer entry)))
      → IsSound (with_put kept timer entry) zeros2 order2
  sound_set kept timer entry zeros zeros1 zeros2 order order1 order2 sound h z k zp kp x ze ke =
      let listed = listed_of kept.rows in
      let put = listed_put kept timer entry in
      let zeros_kept = zeros_places (is_zero entry.due) zeros1 timer entry.number (zeros_room kept timer zeros zeros1 order sound h z zp) in
      let keys_kept = keys_places (is_zero entry.due) order1 (key_of (running timer entry)) (keys_room kept timer zeros order order1 sound h k kp) in
      let zeros_sum : zeros1.reserved + length zeros1.items ≤ zeros2.reserved + length zeros2.items = rw ze zeros_kept in
      let keys_sum : order1.reserved + length order1.keys ≤ order2.reserved + length order2.keys = rw ke keys_kept in
      let fits = fits_put kept timer entry h in
      record {
        one_each = rw put (one_each_set timer (listed_row (timer, entry)) listed refl sound.one_each);
        zeros_are = ap (λ (t : Zeros). t.items) ze ∙ (put_zeros (is_zero entry.due) (without_listed timer listed) (listed_row (timer, entry)) zeros1 refl z ∙ ap zeros_of (sym put));
        keys_are = ap (λ (t : Order). t.keys) ke ∙ (put_keys (is_zero entry.due) (without_listed timer listed) (listed_row (timer, entry)) order1 refl x k ∙ ap due_keys (sym put));
        zeros_fit = omega (arith, sound.zeros_fit, zp, zeros_sum, fits);
        keys_fit = omega (arith, sound.keys_fit, kp, keys_sum, fits);
      }

  pub sound_cancelled : (kept : Rows (Entry C)) (timer : Timer) (zeros zeros1 : Zeros) (order order1 : Order) → IsSound kept zeros order
      → zeros1.items ≡ zeros_of (without_listed timer (listed_of kept.rows)) → order1.keys ≡ due_keys (without_listed timer (listed_of kept.rows))
      → zeros1.reserved + length zeros1.items ≡ zeros.reserved + length zeros.items → order1.reserved + length order1.keys ≡ order.reserved + length order.keys
      → IsSound (with_removed kept timer) zeros1 order1
  sound_cancelled kept timer zeros zeros1 order order1 sound z k zp kp =
      let fewer = listed_without timer kept.rows in
      let less = fewer_rows timer kept.rows in
      record {
        one_each = rw fewer (one_each_without timer (listed_of kept.rows) sound.one_each);
        zeros_are = z ∙ ap zeros_of (sym fewer);
        keys_are = k ∙ ap due_keys (sym fewer);
        zeros_fit = omega (arith, sound.zeros_fit, zp, less);
        keys_fit = omega (arith, sound.keys_fit, kp, less);
      }

  -- another content leaves all that waits where it is
  pub sound_updated : (kept : Rows (Entry C)) (timer : Timer) (content : C) (entry : Entry C) (zeros : Zeros) (order : Order) → IsSound kept zeros order
      → value_of timer kept.rows ≡ Some entry → IsSound (with_marked (λ (old : Entry C). record entry { content = content }) kept timer) zeros order
  sound_updated kept timer content entry zeros order sound found =
      let listed = listed_of kept.rows in
      let updated = listed_updated timer content entry kept.rows sound.one_each found in
      let as_many = length_map {Y = Timer × Entry C} (λ (row : Timer × Entry C). (row.0, if same_timer timer row.0 then (record entry { content = content }) else row.1)) kept.rows in
      record {
        one_each = rw (updated, all_of_updated timer content listed) (one_each_with_content timer content (all_of listed) sound.one_each);
        zeros_are = sound.zeros_are ∙ (sym (zeros_updated timer content listed) ∙ ap zeros_of (sym updated));
        keys_are = sound.keys_are ∙ (sym (due_keys_updated timer content listed) ∙ ap due_keys (sym updated));
        zeros_fit = omega (arith, sound.zeros_fit, as_many);
        keys_fit = omega (arith, sound.keys_fit, as_many);
      }

  pub sound_handed : (kept : Rows (Entry C)) (zeros : Zeros) (order order1 : Order) (key : Key) → IsSound kept zeros order → first_key order.keys ≡ Some key
      → order1.keys ≡ other_keys order.keys → order1.reserved + length order1.keys ≡ order.reserved + length order.keys
      → IsSound (with_marked (λ (entry : Entry C). record entry { expired = true }) kept key.timer) zeros order1
  sound_handed kept zeros order order1 key sound first others places =
      let listed = listed_of kept.rows in
      let marked = listed_marked key.timer kept.rows in
      let some : first_key (due_keys listed) ≡ Some key = sym (ap first_key sound.keys_are) ∙ first in
      let as_many = length_map {Y = Timer × Entry C} (λ (row : Timer × Entry C). (row.0, if same_timer key.timer row.0 then (record (row.1) { expired = true }) else row.1)) kept.rows in
      record {
        one_each = rw (marked, all_of_with_expired key.timer listed) sound.one_each;
        zeros_are = sound.zeros_are ∙ (sym (zeros_expired key.timer listed) ∙ ap zeros_of (sym marked));
        keys_are = others ∙ (ap other_keys sound.keys_are
            ∙ (others_are (due_keys listed) key (once_due listed sound.one_each) some ∙ (sym (due_keys_expired key.timer listed) ∙ ap due_keys (sym marked))));
        zeros_fit = omega (arith, sound.zeros_fit, as_many);
        keys_fit = omega (arith, sound.keys_fit, as_many, places);
      }
