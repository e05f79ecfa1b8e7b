-- What is due first, what stays where it is handed out or has another content, and what is due at once.
use Rattle.std.proofs.Common.{◌≡◌, ℕ, ◌<◌, arith, Bool, true, false, not, ◌&&◌, nat_le, if◌then◌else◌, List, [], ◌∷◌, ◌++◌, map, refl, sym, ap, subst, ◌∙◌, length, suc}
use Rattle.std.specs.Prelude.{Option, Some, None}
use Rattle.std.specs.List.{filter}
use Rattle.std.specs.Option.{option_map}
use Rattle.std.proofs.lemmas.List.{map-append, append-nil}
use Rattle.std.proofs.lemmas.List.Elements.{filter-append}
use Rattle.st_events.specs.declared.timer.Timer.{Timer}
use Rattle.st_events.specs.Timers.{same_timer}
use Rattle.st_events.proofs.ComparedLemmas.{same_timer_self}
use Rattle.st_timeouts.specs.declared.due.Due.{Due}
use Rattle.st_timeouts.specs.declared.due.Due.TheVariants.{Zero, At}
use Rattle.st_timeouts.specs.declared.key.Key.{Key}
use Rattle.st_timeouts.specs.declared.running.Running.{Running}
use Rattle.st_timeouts.specs.Running.{is_zero, is_due_by, moment_of, runs_for, first_zero_of, without_running, with_content, in_order}
use Rattle.st_timeouts.specs.Timeouts.{Listed, Timeouts, all_of, name_of, expiring, first_of, with_expired, with_first_expired, next_due_of}
use Rattle.st_timeouts.specs.Keys.{ordered, NoneBefore, InOrder, key_of, keys_of}
use Rattle.st_timeouts.specs.Order.{has_come, is_other, OnceEach, first_key, other_keys}
use Rattle.st_timeouts.specs.Waiting.{waits, waiting_of, due_keys, zeros_of}
use Rattle.st_timeouts.proofs.DueLemmas.{ordered_filter, ordered_is, keys_in_order}
use Rattle.st_timeouts.proofs.FallingLemmas.{come_later, other_filter}
use Rattle.st_timeouts.proofs.OrderLemmas.{all_of_with_expired, updated_listed, all_of_updated}
use Rattle.st_timeouts.proofs.WaitingLemmas.{key_name, keys_without}

-- ---- of keys in order the first that has come is the first
none_come_first : (now : ℕ) (key : Key) (keys : List Key) → NoneBefore key keys → has_come now key ≡ false → filter (has_come now) keys ≡ []
none_come_first now key [] h e = refl
none_come_first now key (other ∷ keys) h e = rw (come_later now other key h.0 e) (none_come_first now key keys h.1 e)

first_come_by : (b : Bool) (now : ℕ) (key : Key) (keys : List Key) → has_come now key ≡ b → NoneBefore key keys
    → first_key (filter (has_come now) (key ∷ keys)) ≡ (if b then Some key else None)
first_come_by true now key keys e h = rw e refl
first_come_by false now key keys e h = rw (e, none_come_first now key keys h e) refl

pub first_come : (now : ℕ) (keys : List Key) (key : Key) → InOrder keys → first_key keys ≡ Some key
    → first_key (filter (has_come now) keys) ≡ (if has_come now key then Some key else None)
first_come now [] key h e = cc
first_come now (first ∷ keys) key h e =
    let same : first ≡ key = cc in
    subst (λ (k : Key). first_key (filter (has_come now) (first ∷ keys)) ≡ (if has_come now k then Some k else None)) same
    (first_come_by (has_come now first) now first keys refl h.0)

pub none_come_none : (now : ℕ) (keys : List Key) → first_key keys ≡ None → first_key (filter (has_come now) keys) ≡ None
none_come_none now [] e = refl
none_come_none now (key ∷ keys) e = cc

come_first_by : (b : Bool) (now : ℕ) (key : Key) (keys : List Key) → has_come now key ≡ b → NoneBefore key keys → 0 < length (filter (has_come now) (key ∷ keys))
    → first_key (filter (has_come now) (key ∷ keys)) ≡ Some key
come_first_by true now key keys e h some = rw e refl
come_first_by false now key keys e h some =
    let none : filter (has_come now) (key ∷ keys) ≡ [] = rw (e, none_come_first now key keys h e) refl in absurd (omega (arith, some, ap length none))

-- where one has come, it is the first of all
pub come_first : (now : ℕ) (keys : List Key) → InOrder keys → 0 < length (filter (has_come now) keys)
    → (key : Key) × (first_key (filter (has_come now) keys) ≡ Some key) × (first_key keys ≡ Some key)
come_first now [] h some = absurd (omega (arith, some))
come_first now (key ∷ keys) h some = (key, come_first_by (has_come now key) now key keys refl h.0 some, refl)

pub others_are : (keys : List Key) (key : Key) → OnceEach keys → first_key keys ≡ Some key → other_keys keys ≡ filter (is_other key.timer) keys
others_are [] key h e = cc
others_are (first ∷ keys) key h e =
    let same : first ≡ key = cc in
    subst (λ (k : Key). keys ≡ filter (is_other k.timer) (first ∷ keys)) same
    (let own : same_timer first.timer first.timer ≡ true = same_timer_self first.timer in rw own (sym (other_filter first.timer keys h.0)))

module _ {C : Type 0} where
  -- ---- those that have come
  come_by : (x b : Bool) (now : ℕ) (one : Listed C) (rest waiting : List (Listed C)) → is_zero one.running.due ≡ false → one.expired ≡ x
      → is_due_by now one.running.due ≡ b → has_come now (key_of one.running) ≡ b
      → keys_of (all_of rest) ≡ filter (has_come now) (keys_of (all_of waiting))
      → keys_of (all_of (if is_due_by now one.running.due && not one.expired then one ∷ rest else rest))
      ≡ filter (has_come now) (keys_of (all_of (if not (is_zero one.running.due) && not one.expired then one ∷ waiting else waiting)))
  come_by true true now one rest waiting z x d c h = rw (d, z, x) h
  come_by true false now one rest waiting z x d c h = rw (d, z, x) h
  come_by false true now one rest waiting z x d c h = rw (d, z, x, c) (ap (λ t. key_of one.running ∷ t) h)
  come_by false false now one rest waiting z x d c h = rw (d, z, x, c) h

  come_due : (due : Due) (now : ℕ) (one : Listed C) (rest waiting : List (Listed C)) → one.running.due ≡ due
      → keys_of (all_of rest) ≡ filter (has_come now) (keys_of (all_of waiting))
      → keys_of (all_of (if is_due_by now one.running.due && not one.expired then one ∷ rest else rest))
      ≡ filter (has_come now) (keys_of (all_of (if not (is_zero one.running.due) && not one.expired then one ∷ waiting else waiting)))
  come_due Zero now one rest waiting e h = rw e h
  come_due (At moment) now one rest waiting e h =
      come_by one.expired (nat_le moment now) now one rest waiting (ap is_zero e) refl (ap (is_due_by now) e) (ap (λ (due : Due). nat_le (moment_of due) now) e) h

  come_keys : (now : ℕ) (listed : List (Listed C))
      → keys_of (all_of (filter (λ (one : Listed C). is_due_by now one.running.due && not one.expired) listed)) ≡ filter (has_come now) (keys_of (waiting_of listed))
  come_keys now [] = refl
  come_keys now (one ∷ listed) =
      come_due one.running.due now one (filter (λ (one : Listed C). is_due_by now one.running.due && not one.expired) listed) (filter waits listed) refl (come_keys now listed)

  pub expiring_keys : (now : ℕ) (listed : List (Listed C)) → keys_of (expiring now listed) ≡ filter (has_come now) (due_keys listed)
  expiring_keys now listed =
      keys_in_order (all_of (filter (λ (one : Listed C). is_due_by now one.running.due && not one.expired) listed))
      ∙ (ap ordered (come_keys now listed) ∙ ordered_filter (has_come now) (keys_of (waiting_of listed)))

  length_keys : (running : List (Running C)) → length (keys_of running) ≡ length running
  length_keys [] = refl
  length_keys (one ∷ running) = ap suc (length_keys running)

  pub count_is : (now : ℕ) (listed : List (Listed C)) → length (filter (has_come now) (due_keys listed)) ≡ length (expiring now listed)
  count_is now listed = sym (ap length (expiring_keys now listed)) ∙ length_keys (expiring now listed)

  pub waiting_keys : (listed : List (Listed C)) → keys_of (in_order (waiting_of listed)) ≡ due_keys listed
  waiting_keys listed = keys_in_order (waiting_of listed)

  -- ---- the first of some, by its key
  pub name_by_key : (running : List (Running C)) → option_map name_of (first_of running) ≡ option_map key_name (first_key (keys_of running))
  name_by_key [] = refl
  name_by_key (one ∷ running) = refl

  pub expired_by_key : (running : List (Running C)) (old : Timeouts C) (key : Key) → first_key (keys_of running) ≡ Some key
      → with_first_expired running old ≡ record old { listed = with_expired key.timer old.listed }
  expired_by_key [] old key e = cc
  expired_by_key (one ∷ running) old key e = let same : key_of one ≡ key = cc in subst (λ (k : Key). with_first_expired (one ∷ running) old ≡ record old { listed = with_expired k.timer old.listed }) same refl

  pub none_expired_by_key : (running : List (Running C)) (old : Timeouts C) → first_key (keys_of running) ≡ None → with_first_expired running old ≡ old
  none_expired_by_key [] old e = refl
  none_expired_by_key (one ∷ running) old e = cc

  first_due : (now : ℕ) (listed : List (Listed C)) → 0 < length (expiring now listed)
      → (key : Key) × (first_key (keys_of (expiring now listed)) ≡ Some key) × (first_key (keys_of (in_order (waiting_of listed))) ≡ Some key)
  first_due now listed some =
      let there : 0 < length (filter (has_come now) (due_keys listed)) = omega (arith, some, count_is now listed) in
      let first = come_first now (due_keys listed) (ordered_is (keys_of (waiting_of listed))) there in
      (first.0, ap first_key (expiring_keys now listed) ∙ first.1, ap first_key (waiting_keys listed) ∙ first.2)

  -- where one is due, the first of those that wait is the first of those that are due
  pub due_name : (now : ℕ) (listed : List (Listed C)) → 0 < length (expiring now listed)
      → option_map name_of (first_of (in_order (waiting_of listed))) ≡ option_map name_of (first_of (expiring now listed))
  due_name now listed some =
      let first = first_due now listed some in
      rw (name_by_key (in_order (waiting_of listed)), name_by_key (expiring now listed), first.1, first.2) refl

  pub due_expired : (now : ℕ) (listed : List (Listed C)) (old : Timeouts C) → 0 < length (expiring now listed)
      → with_first_expired (in_order (waiting_of listed)) old ≡ with_first_expired (expiring now listed) old
  due_expired now listed old some =
      let first = first_due now listed some in
      expired_by_key (in_order (waiting_of listed)) old first.0 first.2 ∙ sym (expired_by_key (expiring now listed) old first.0 first.1)

  moment_by_key : (running : List (Running C)) → option_map (λ (one : Running C). moment_of one.due) (first_of running) ≡ option_map (λ (key : Key). key.moment.milliseconds) (first_key (keys_of running))
  moment_by_key [] = refl
  moment_by_key (one ∷ running) = refl

  pub next_due_by_key : (listed : List (Listed C)) → next_due_of listed ≡ option_map (λ (key : Key). key.moment.milliseconds) (first_key (due_keys listed))
  next_due_by_key listed =
      moment_by_key (in_order (waiting_of listed)) ∙ ap (λ t. option_map (λ (key : Key). key.moment.milliseconds) (first_key t)) (waiting_keys listed)

  -- ---- an expiry is handed out
  expired_if : (b z x : Bool) (timer : Timer) (one : Running C) (rest fewer : List (Listed C)) → runs_for timer one ≡ b
      → all_of fewer ≡ without_running timer (all_of rest)
      → all_of (if z && not (if b then true else x) then (record { running = one; expired = if b then true else x }) ∷ fewer else fewer)
      ≡ without_running timer (all_of (if z && not x then (record { running = one; expired = x }) ∷ rest else rest))
  expired_if true true true timer one rest fewer e h = h
  expired_if true true false timer one rest fewer e h = rw e h
  expired_if true false x timer one rest fewer e h = h
  expired_if false true true timer one rest fewer e h = h
  expired_if false true false timer one rest fewer e h = rw e (ap (λ t. one ∷ t) h)
  expired_if false false x timer one rest fewer e h = h

  waiting_expired : (timer : Timer) (listed : List (Listed C)) → waiting_of (with_expired timer listed) ≡ without_running timer (waiting_of listed)
  waiting_expired timer [] = refl
  waiting_expired timer (one ∷ listed) =
      expired_if (runs_for timer one.running) (not (is_zero one.running.due)) one.expired timer one.running (filter waits listed)
      (filter waits (with_expired timer listed)) refl (waiting_expired timer listed)

  pub due_keys_expired : (timer : Timer) (listed : List (Listed C)) → due_keys (with_expired timer listed) ≡ filter (is_other timer) (due_keys listed)
  due_keys_expired timer listed =
      ap (λ t. ordered (keys_of t)) (waiting_expired timer listed)
      ∙ (ap ordered (keys_without timer (waiting_of listed)) ∙ ordered_filter (is_other timer) (keys_of (waiting_of listed)))

  pub zeros_expired : (timer : Timer) (listed : List (Listed C)) → zeros_of (with_expired timer listed) ≡ zeros_of listed
  zeros_expired timer listed = ap (λ t. map name_of (filter (λ (one : Running C). is_zero one.due) t)) (all_of_with_expired timer listed)

  -- ---- another content, which no key and no name tells of
  keys_if : (w : Bool) (one other : Listed C) (rest others : List (Listed C)) → key_of one.running ≡ key_of other.running → keys_of (all_of rest) ≡ keys_of (all_of others)
      → keys_of (all_of (if w then one ∷ rest else rest)) ≡ keys_of (all_of (if w then other ∷ others else others))
  keys_if true one other rest others e h = ap (λ k. k ∷ keys_of (all_of rest)) e ∙ ap (λ t. key_of other.running ∷ t) h
  keys_if false one other rest others e h = h

  keys_by : (b : Bool) (content : C) (one : Listed C) (rest listed : List (Listed C)) → keys_of (waiting_of rest) ≡ keys_of (waiting_of listed)
      → keys_of (waiting_of ((if b then record one { running = record one.running { content = content } } else one) ∷ rest)) ≡ keys_of (waiting_of (one ∷ listed))
  keys_by true content one rest listed h =
      keys_if (waits one) (record one { running = record one.running { content = content } }) one (filter waits rest) (filter waits listed) refl h
  keys_by false content one rest listed h = keys_if (waits one) one one (filter waits rest) (filter waits listed) refl h

  keys_updated : (timer : Timer) (content : C) (listed : List (Listed C)) → keys_of (waiting_of (updated_listed timer content listed)) ≡ keys_of (waiting_of listed)
  keys_updated timer content [] = refl
  keys_updated timer content (one ∷ listed) = keys_by (runs_for timer one.running) content one (updated_listed timer content listed) listed (keys_updated timer content listed)

  pub due_keys_updated : (timer : Timer) (content : C) (listed : List (Listed C)) → due_keys (updated_listed timer content listed) ≡ due_keys listed
  due_keys_updated timer content listed = ap ordered (keys_updated timer content listed)

  names_if : (z : Bool) (one other : Running C) (rest others : List (Running C)) → name_of one ≡ name_of other → map name_of rest ≡ map name_of others
      → map name_of (if z then one ∷ rest else rest) ≡ map name_of (if z then other ∷ others else others)
  names_if true one other rest others e h = ap (λ n. n ∷ map name_of rest) e ∙ ap (λ t. name_of other ∷ t) h
  names_if false one other rest others e h = h

  names_by : (b : Bool) (content : C) (one : Running C) (rest running : List (Running C))
      → map name_of (filter (λ (one : Running C). is_zero one.due) rest) ≡ map name_of (filter (λ (one : Running C). is_zero one.due) running)
      → map name_of (filter (λ (one : Running C). is_zero one.due) (if b then (record one { content = content }) ∷ rest else one ∷ rest))
      ≡ map name_of (filter (λ (one : Running C). is_zero one.due) (one ∷ running))
  names_by true content one rest running h =
      names_if (is_zero one.due) (record one { content = content }) one (filter (λ (one : Running C). is_zero one.due) rest) (filter (λ (one : Running C). is_zero one.due) running) refl h
  names_by false content one rest running h =
      names_if (is_zero one.due) one one (filter (λ (one : Running C). is_zero one.due) rest) (filter (λ (one : Running C). is_zero one.due) running) refl h

  zeros_with_content : (timer : Timer) (content : C) (running : List (Running C))
      → map name_of (filter (λ (one : Running C). is_zero one.due) (with_content timer content running)) ≡ map name_of (filter (λ (one : Running C). is_zero one.due) running)
  zeros_with_content timer content [] = refl
  zeros_with_content timer content (one ∷ running) =
      names_by (runs_for timer one) content one (with_content timer content running) running (zeros_with_content timer content running)

  pub zeros_updated : (timer : Timer) (content : C) (listed : List (Listed C)) → zeros_of (updated_listed timer content listed) ≡ zeros_of listed
  zeros_updated timer content listed =
      ap (λ t. map name_of (filter (λ (one : Running C). is_zero one.due) t)) (all_of_updated timer content listed) ∙ zeros_with_content timer content (all_of listed)

  -- ---- what is due at once
  first_by : (b : Bool) (one : Running C) (rest : List (Running C)) (found : Option (Running C)) → option_map name_of found ≡ first_of (map name_of rest)
      → option_map name_of (if b then Some one else found) ≡ first_of (map name_of (if b then one ∷ rest else rest))
  first_by true one rest found h = refl
  first_by false one rest found h = h

  first_zero_in : (running : List (Running C)) → option_map name_of (first_zero_of running) ≡ first_of (map name_of (filter (λ (one : Running C). is_zero one.due) running))
  first_zero_in [] = refl
  first_zero_in (one ∷ running) =
      first_by (is_zero one.due) one (filter (λ (one : Running C). is_zero one.due) running) (first_zero_of running) (first_zero_in running)

  pub first_zero_is : (listed : List (Listed C)) → option_map name_of (first_zero_of (all_of listed)) ≡ first_of (zeros_of listed)
  first_zero_is listed = first_zero_in (all_of listed)

  zero_if : (b : Bool) (one : Listed C) → is_zero one.running.due ≡ b → zeros_of (one ∷ []) ≡ (if b then name_of one.running ∷ [] else [])
  zero_if true one e = rw e refl
  zero_if false one e = rw e refl

  zeros_more : (listed : List (Listed C)) (one : Listed C) → zeros_of (listed ++ one ∷ []) ≡ zeros_of listed ++ zeros_of (one ∷ [])
  zeros_more listed one =
      ap (λ t. map name_of (filter (λ (one : Running C). is_zero one.due) t)) (map-append (λ (one : Listed C). one.running) listed (one ∷ []))
      ∙ (ap (map name_of) (filter-append (λ (one : Running C). is_zero one.due) (all_of listed) (one.running ∷ []))
      ∙ map-append name_of (filter (λ (one : Running C). is_zero one.due) (all_of listed)) (filter (λ (one : Running C). is_zero one.due) (one.running ∷ [])))

  pub zeros_put : (listed : List (Listed C)) (one : Listed C) → is_zero one.running.due ≡ true → zeros_of (listed ++ one ∷ []) ≡ zeros_of listed ++ name_of one.running ∷ []
  zeros_put listed one e = zeros_more listed one ∙ ap (λ t. zeros_of listed ++ t) (zero_if true one e)

  pub zeros_same : (listed : List (Listed C)) (one : Listed C) → is_zero one.running.due ≡ false → zeros_of (listed ++ one ∷ []) ≡ zeros_of listed
  zeros_same listed one e = zeros_more listed one ∙ (ap (λ t. zeros_of listed ++ t) (zero_if false one e) ∙ append-nil (zeros_of listed))
