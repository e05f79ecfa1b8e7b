-- Those that are due at once, where one of them leaves.
use Rattle.std.proofs.Common.{◌≡◌, ℕ, zero, suc, ◌+◌, ◌<◌, Bool, true, false, not, if◌then◌else◌, List, [], ◌∷◌, ◌++◌, map, refl, sym, ap, subst, ◌∙◌, arith, length, take, drop}
use Rattle.std.specs.Prelude.{Some, None}
use Rattle.std.specs.List.{filter, slice_get, remove}
use Rattle.std.proofs.lemmas.List.{take-append-drop}
use Rattle.std.proofs.lemmas.List.Elements.{filter-append}
use Rattle.st_events.specs.declared.timer.Timer.{Timer}
use Rattle.st_events.specs.Timers.{same_timer}
use Rattle.st_events.proofs.ComparedLemmas.{timers_same}
use Rattle.st_timeouts.specs.declared.running.Running.{Running}
use Rattle.st_timeouts.specs.Running.{is_zero, runs_for, running_of, without_running, OneEach}
use Rattle.st_timeouts.specs.Timeouts.{Listed, all_of, name_of, without_listed}
use Rattle.st_timeouts.specs.Waiting.{zeros_of}
use Rattle.st_timeouts.specs.Zeros.{other_zero, OtherZeros, OnceZeros}
use Rattle.st_timeouts.proofs.OrderLemmas.{not_first, all_of_without_listed}
use Rattle.st_timeouts.proofs.WaitingLemmas.{listed_for}

zeros_drop_at : (xs : List (Timer × ℕ)) (i : ℕ) (y : Timer × ℕ) → slice_get xs i ≡ Some y → drop i xs ≡ y ∷ drop (suc i) xs
zeros_drop_at [] i y h = cc
zeros_drop_at (x ∷ xs) zero y h = let same : x ≡ y = cc in rw same refl
zeros_drop_at (x ∷ xs) (suc i) y h = zeros_drop_at xs i y h

pub zeros_take_more : (xs : List (Timer × ℕ)) (i : ℕ) (y : Timer × ℕ) (timer : Timer) → slice_get xs i ≡ Some y → same_timer timer y.0 ≡ false
    → OtherZeros timer (take i xs) → OtherZeros timer (take (suc i) xs)
zeros_take_more [] i y timer h e k = cc
zeros_take_more (x ∷ xs) zero y timer h e k = let same : x ≡ y = cc in (subst (λ (z : Timer × ℕ). same_timer timer z.0 ≡ false) (sym same) e, tt)
zeros_take_more (x ∷ xs) (suc i) y timer h e k = (k.0, zeros_take_more xs i y timer h e k.1)

pub zeros_filter : (timer : Timer) (xs : List (Timer × ℕ)) → OtherZeros timer xs → filter (other_zero timer) xs ≡ xs
zeros_filter timer [] h = refl
zeros_filter timer (x ∷ xs) h = rw h.0 (ap (λ t. x ∷ t) (zeros_filter timer xs h.1))

once_zeros_drop : (xs : List (Timer × ℕ)) (i : ℕ) → OnceZeros xs → OnceZeros (drop i xs)
once_zeros_drop xs zero h = h
once_zeros_drop [] (suc i) h = tt
once_zeros_drop (x ∷ xs) (suc i) h = once_zeros_drop xs i h.1

pub zeros_forgotten : (xs : List (Timer × ℕ)) (place : ℕ) (y : Timer × ℕ) (timer : Timer) → slice_get xs place ≡ Some y → same_timer timer y.0 ≡ true
    → OtherZeros timer (take place xs) → OnceZeros xs → remove xs place ≡ filter (other_zero timer) xs
zeros_forgotten xs place y timer e same h once =
    let front = take place xs in
    let back = drop (suc place) xs in
    let here = zeros_drop_at xs place y e in
    let alone = subst OnceZeros here (once_zeros_drop xs place once) in
    let is : timer ≡ y.0 = timers_same timer y.0 same in
    let others : filter (other_zero timer) back ≡ back = zeros_filter timer back (subst (λ (t : Timer). OtherZeros t back) (sym is) alone.0) in
    let head : filter (other_zero timer) (y ∷ back) ≡ back = rw same others in
    sym (ap (filter (other_zero timer)) (sym (take-append-drop place xs) ∙ ap (λ t. front ++ t) here)
    ∙ (filter-append (other_zero timer) front (y ∷ back)
    ∙ (ap (λ t. t ++ filter (other_zero timer) (y ∷ back)) (zeros_filter timer front h) ∙ ap (λ t. front ++ t) head)))

pub zeros_all : (xs : List (Timer × ℕ)) (n : ℕ) → n ≡ length xs → take n xs ≡ xs
zeros_all [] zero h = refl
zeros_all [] (suc n) h = refl
zeros_all (x ∷ xs) zero h = cc
zeros_all (x ∷ xs) (suc n) h = ap (λ t. x ∷ t) (zeros_all xs n (omega (arith, h)))

pub zeros_within : (xs : List (Timer × ℕ)) (place : ℕ) → place < length xs → (y : Timer × ℕ) × (slice_get xs place ≡ Some y)
zeros_within [] place h = absurd (omega (arith, h))
zeros_within (x ∷ xs) zero h = (x, refl)
zeros_within (x ∷ xs) (suc place) h = zeros_within xs place (omega (arith, h))

module _ {C : Type 0} where
  without_zero_by : (b z : Bool) (timer : Timer) (one : Running C) (rest : List (Running C)) (zeros : List (Timer × ℕ)) → runs_for timer one ≡ b → is_zero one.due ≡ z
      → map name_of (filter (λ (one : Running C). is_zero one.due) rest) ≡ filter (other_zero timer) zeros
      → map name_of (filter (λ (one : Running C). is_zero one.due) (if not b then one ∷ rest else rest)) ≡ filter (other_zero timer) (if z then name_of one ∷ zeros else zeros)
  without_zero_by true true timer one rest zeros e f h = rw e h
  without_zero_by true false timer one rest zeros e f h = h
  without_zero_by false true timer one rest zeros e f h = rw (e, f) (ap (λ t. name_of one ∷ t) h)
  without_zero_by false false timer one rest zeros e f h = rw f h

  zero_names : (z : Bool) (one : Running C) (rest : List (Running C)) → map name_of (if z then one ∷ rest else rest) ≡ (if z then name_of one ∷ map name_of rest else map name_of rest)
  zero_names true one rest = refl
  zero_names false one rest = refl

  zeros_without_in : (timer : Timer) (running : List (Running C))
      → map name_of (filter (λ (one : Running C). is_zero one.due) (without_running timer running)) ≡ filter (other_zero timer) (map name_of (filter (λ (one : Running C). is_zero one.due) running))
  zeros_without_in timer [] = refl
  zeros_without_in timer (one ∷ running) =
      without_zero_by (runs_for timer one) (is_zero one.due) timer one (without_running timer running) (map name_of (filter (λ (one : Running C). is_zero one.due) running)) refl refl
      (zeros_without_in timer running)
      ∙ ap (filter (other_zero timer)) (sym (zero_names (is_zero one.due) one (filter (λ (one : Running C). is_zero one.due) running)))

  pub zeros_without : (timer : Timer) (listed : List (Listed C)) → zeros_of (without_listed timer listed) ≡ filter (other_zero timer) (zeros_of listed)
  zeros_without timer listed =
      ap (λ t. map name_of (filter (λ (one : Running C). is_zero one.due) t)) (all_of_without_listed timer listed) ∙ zeros_without_in timer (all_of listed)

  -- ---- each timer once
  other_zeros_by : (b : Bool) (timer : Timer) (one : Running C) (rest : List (Running C)) → runs_for timer one ≡ false → OtherZeros timer (map name_of rest)
      → OtherZeros timer (map name_of (if b then one ∷ rest else rest))
  other_zeros_by true timer one rest e h = (e, h)
  other_zeros_by false timer one rest e h = h

  pub other_zeros : (timer : Timer) (running : List (Running C)) → running_of timer running ≡ None → OtherZeros timer (map name_of (filter (λ (one : Running C). is_zero one.due) running))
  other_zeros timer [] h = tt
  other_zeros timer (one ∷ running) h =
      let parts = not_first timer one running h in
      other_zeros_by (is_zero one.due) timer one (filter (λ (one : Running C). is_zero one.due) running) parts.0 (other_zeros timer running parts.1)

  once_zeros_by : (b : Bool) (one : Running C) (rest : List (Running C)) → OtherZeros one.timer (map name_of rest) → OnceZeros (map name_of rest)
      → OnceZeros (map name_of (if b then one ∷ rest else rest))
  once_zeros_by true one rest e h = (e, h)
  once_zeros_by false one rest e h = h

  once_zeros_in : (running : List (Running C)) → OneEach running → OnceZeros (map name_of (filter (λ (one : Running C). is_zero one.due) running))
  once_zeros_in [] h = tt
  once_zeros_in (one ∷ running) h =
      once_zeros_by (is_zero one.due) one (filter (λ (one : Running C). is_zero one.due) running) (other_zeros one.timer running h.0) (once_zeros_in running h.1)

  pub once_zeros : (listed : List (Listed C)) → OneEach (all_of listed) → OnceZeros (zeros_of listed)
  once_zeros listed each = once_zeros_in (all_of listed) each

  -- ---- one that is not due at once is none of them
  zero_still_by : (b : Bool) (this one : Listed C) (listed : List (Listed C)) → runs_for this.running.timer one.running ≡ b
      → running_of one.running.timer (all_of listed) ≡ None → (if b then Some one else listed_for this.running.timer listed) ≡ Some this → is_zero this.running.due ≡ false
      → (listed_for this.running.timer listed ≡ Some this → OtherZeros this.running.timer (zeros_of listed))
      → OtherZeros this.running.timer (zeros_of (one ∷ listed))
  zero_still_by true this one listed e none h w k =
      let same : one ≡ this = cc in
      subst (λ (it : Listed C). OtherZeros it.running.timer (zeros_of (one ∷ listed))) same
      (let still : is_zero one.running.due ≡ false = subst (λ (it : Listed C). is_zero it.running.due ≡ false) (sym same) w in rw still (other_zeros one.running.timer (all_of listed) none))
  zero_still_by false this one listed e none h w k =
      other_zeros_by (is_zero one.running.due) this.running.timer one.running (filter (λ (one : Running C). is_zero one.due) (all_of listed)) e (k h)

  zero_still : (this : Listed C) (listed : List (Listed C)) → OneEach (all_of listed) → listed_for this.running.timer listed ≡ Some this → is_zero this.running.due ≡ false
      → OtherZeros this.running.timer (zeros_of listed)
  zero_still this [] each h w = cc
  zero_still this (one ∷ listed) each h w =
      zero_still_by (runs_for this.running.timer one.running) this one listed refl each.0 h w (λ found. zero_still this listed each.1 found w)

  pub zeros_still : (this : Listed C) (listed : List (Listed C)) → OneEach (all_of listed) → listed_for this.running.timer listed ≡ Some this → is_zero this.running.due ≡ false
      → zeros_of (without_listed this.running.timer listed) ≡ zeros_of listed
  zeros_still this listed each h w = zeros_without this.running.timer listed ∙ zeros_filter this.running.timer (zeros_of listed) (zero_still this listed each h w)

  pub zeros_none : (timer : Timer) (listed : List (Listed C)) → running_of timer (all_of listed) ≡ None → zeros_of (without_listed timer listed) ≡ zeros_of listed
  zeros_none timer listed h = zeros_without timer listed ∙ zeros_filter timer (zeros_of listed) (other_zeros timer (all_of listed) h)
