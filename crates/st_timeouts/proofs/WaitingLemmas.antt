-- What waits after a time-out was set, stopped or handed out.
use Rattle.std.proofs.Common.{◌≡◌, ℕ, Bool, true, false, not, if◌then◌else◌, List, [], ◌∷◌, ◌++◌, refl, sym, ap, subst, ◌∙◌}
use Rattle.std.specs.Prelude.{Option, Some, None}
use Rattle.std.specs.List.{filter}
use Rattle.std.proofs.lemmas.List.{map-append, append-nil}
use Rattle.std.proofs.lemmas.List.Elements.{filter-append}
use Rattle.st_events.specs.declared.timer.Timer.{Timer}
use Rattle.st_events.specs.Timers.{same_timer}
use Rattle.st_events.proofs.ComparedLemmas.{same_timer_flips}
use Rattle.st_timeouts.specs.declared.key.Key.{Key}
use Rattle.st_timeouts.specs.declared.running.Running.{Running}
use Rattle.st_timeouts.specs.Running.{runs_for, running_of, without_running, OneEach}
use Rattle.st_timeouts.specs.Timeouts.{Listed, all_of, without_listed}
use Rattle.st_timeouts.specs.Keys.{before, put_key, put_late, ordered, key_of, keys_of}
use Rattle.st_timeouts.specs.Order.{is_other, NoneElse, OtherThan, OnceEach}
use Rattle.st_timeouts.specs.Waiting.{waits, waiting_of, due_keys}
use Rattle.st_timeouts.proofs.DueLemmas.{before_self, ordered_more, ordered_filter}
use Rattle.st_timeouts.proofs.FallingLemmas.{other_filter}
use Rattle.st_timeouts.proofs.OrderLemmas.{not_first, filtered_none, one_each_filtered}

-- the timer and the number of a key
abbrev pub key_name : Key → Timer × ℕ
key_name key = (key.timer, key.number)

-- ---- keys that are put in order
other_put_by : (b : Bool) (timer : Timer) (x y : Key) (ys put : List Key) → same_timer timer x.timer ≡ false → OtherThan timer (y ∷ ys) → OtherThan timer put
    → OtherThan timer (if b then x ∷ y ∷ ys else y ∷ put)
other_put_by true timer x y ys put e h k = (e, h)
other_put_by false timer x y ys put e h k = (h.0, k)

other_put : (timer : Timer) (x : Key) (ys : List Key) → same_timer timer x.timer ≡ false → OtherThan timer ys → OtherThan timer (put_key x ys)
other_put timer x [] e h = (e, tt)
other_put timer x (y ∷ ys) e h = other_put_by (before x y) timer x y ys (put_key x ys) e h (other_put timer x ys e h.1)

other_ordered : (timer : Timer) (xs : List Key) → OtherThan timer xs → OtherThan timer (ordered xs)
other_ordered timer [] h = tt
other_ordered timer (x ∷ xs) h = other_put timer x (ordered xs) h.0 (other_ordered timer xs h.1)

once_put_by : (b : Bool) (x y : Key) (ys put : List Key) → OtherThan x.timer (y ∷ ys) → OnceEach (y ∷ ys) → OtherThan y.timer put → OnceEach put
    → OnceEach (if b then x ∷ y ∷ ys else y ∷ put)
once_put_by true x y ys put e h k l = (e, h)
once_put_by false x y ys put e h k l = (k, l)

once_put : (x : Key) (ys : List Key) → OtherThan x.timer ys → OnceEach ys → OnceEach (put_key x ys)
once_put x [] e h = (tt, tt)
once_put x (y ∷ ys) e h =
    once_put_by (before x y) x y ys (put_key x ys) e h (other_put y.timer x ys (same_timer_flips y.timer x.timer ∙ e.0) h.0) (once_put x ys e.1 h.1)

once_ordered : (xs : List Key) → OnceEach xs → OnceEach (ordered xs)
once_ordered [] h = tt
once_ordered (x ∷ xs) h = once_put x (ordered xs) (other_ordered x.timer xs h.0) (once_ordered xs h.1)

else_other : (key : Key) (xs : List Key) → OtherThan key.timer xs → NoneElse key xs
else_other key [] h = tt
else_other key (x ∷ xs) h = ((λ e. let wrong : true ≡ false = sym e ∙ h.0 in cc), else_other key xs h.1)

else_put_by : (b : Bool) (key x y : Key) (ys put : List Key) → NoneElse key (x ∷ []) → NoneElse key (y ∷ ys) → NoneElse key put
    → NoneElse key (if b then x ∷ y ∷ ys else y ∷ put)
else_put_by true key x y ys put e h k = (e.0, h)
else_put_by false key x y ys put e h k = (h.0, k)

else_put : (key x : Key) (ys : List Key) → NoneElse key (x ∷ []) → NoneElse key ys → NoneElse key (put_key x ys)
else_put key x [] e h = e
else_put key x (y ∷ ys) e h = else_put_by (before x y) key x y ys (put_key x ys) e h (else_put key x ys e h.1)

else_ordered : (key : Key) (xs : List Key) → NoneElse key xs → NoneElse key (ordered xs)
else_ordered key [] h = tt
else_ordered key (x ∷ xs) h = else_put key x (ordered xs) (h.0, tt) (else_ordered key xs h.1)

module _ {C : Type 0} where
  -- ---- one more is set
  more_if : (b : Bool) (one : Listed C) (rest : List (Listed C)) → all_of (if b then one ∷ [] else []) ≡ (if b then one.running ∷ [] else [])
  more_if true one rest = refl
  more_if false one rest = refl

  waiting_more : (listed : List (Listed C)) (one : Listed C) → waiting_of (listed ++ one ∷ []) ≡ waiting_of listed ++ (if waits one then one.running ∷ [] else [])
  waiting_more listed one =
      ap all_of (filter-append waits listed (one ∷ []))
      ∙ (map-append (λ (one : Listed C). one.running) (filter waits listed) (filter waits (one ∷ [])) ∙ ap (λ t. waiting_of listed ++ t) (more_if (waits one) one listed))

  keys_more : (running more : List (Running C)) → keys_of (running ++ more) ≡ keys_of running ++ keys_of more
  keys_more running more = map-append key_of running more

  -- one that waits stands behind those that are due before it
  pub due_keys_more : (listed : List (Listed C)) (one : Listed C) → waits one ≡ true → due_keys (listed ++ one ∷ []) ≡ put_late (key_of one.running) (due_keys listed)
  due_keys_more listed one w =
      let more : waiting_of (listed ++ one ∷ []) ≡ waiting_of listed ++ one.running ∷ [] = waiting_more listed one ∙ (rw w refl) in
      ap (λ t. ordered (keys_of t)) more
      ∙ (ap ordered (keys_more (waiting_of listed) (one.running ∷ [])) ∙ ordered_more (keys_of (waiting_of listed)) (key_of one.running))

  pub due_keys_same : (listed : List (Listed C)) (one : Listed C) → waits one ≡ false → due_keys (listed ++ one ∷ []) ≡ due_keys listed
  due_keys_same listed one w =
      let more : waiting_of (listed ++ one ∷ []) ≡ waiting_of listed ++ [] = waiting_more listed one ∙ (rw w refl) in
      ap (λ t. ordered (keys_of t)) (more ∙ append-nil (waiting_of listed))

  -- ---- without a timer's
  keys_without_by : (b : Bool) (one : Running C) (rest : List (Running C)) (keys : List Key) → keys_of rest ≡ keys
      → keys_of (if not b then one ∷ rest else rest) ≡ (if not b then key_of one ∷ keys else keys)
  keys_without_by true one rest keys h = h
  keys_without_by false one rest keys h = ap (λ t. key_of one ∷ t) h

  pub keys_without : (timer : Timer) (running : List (Running C)) → keys_of (without_running timer running) ≡ filter (is_other timer) (keys_of running)
  keys_without timer [] = refl
  keys_without timer (one ∷ running) =
      keys_without_by (runs_for timer one) one (without_running timer running) (filter (is_other timer) (keys_of running)) (keys_without timer running)

  waiting_without_if : (w b : Bool) (timer : Timer) (one : Listed C) (listed : List (Listed C)) → runs_for timer one.running ≡ b → waits one ≡ w
      → waiting_of (without_listed timer listed) ≡ without_running timer (waiting_of listed)
      → waiting_of (if not b then one ∷ without_listed timer listed else without_listed timer listed) ≡ without_running timer (all_of (if w then one ∷ filter waits listed else filter waits listed))
  waiting_without_if true true timer one listed e f h = rw e h
  waiting_without_if true false timer one listed e f h = rw (f, e) (ap (λ t. one.running ∷ t) h)
  waiting_without_if false true timer one listed e f h = h
  waiting_without_if false false timer one listed e f h = rw f h

  pub waiting_without : (timer : Timer) (listed : List (Listed C)) → waiting_of (without_listed timer listed) ≡ without_running timer (waiting_of listed)
  waiting_without timer [] = refl
  waiting_without timer (one ∷ listed) =
      waiting_without_if (waits one) (runs_for timer one.running) timer one listed refl refl (waiting_without timer listed)

  pub due_keys_without : (timer : Timer) (listed : List (Listed C)) → due_keys (without_listed timer listed) ≡ filter (is_other timer) (due_keys listed)
  due_keys_without timer listed =
      ap (λ t. ordered (keys_of t)) (waiting_without timer listed)
      ∙ (ap ordered (keys_without timer (waiting_of listed)) ∙ ordered_filter (is_other timer) (keys_of (waiting_of listed)))

  -- ---- each timer once
  other_by : (b : Bool) (timer : Timer) (one : Running C) (rest : List (Running C)) → same_timer timer one.timer ≡ b → b ≡ false
      → OtherThan timer (keys_of rest) → OtherThan timer (keys_of (one ∷ rest))
  other_by true timer one rest e f h = cc
  other_by false timer one rest e f h = (e, h)

  -- of a timer that does not run there is no key
  pub key_none : (timer : Timer) (running : List (Running C)) → running_of timer running ≡ None → OtherThan timer (keys_of running)
  key_none timer [] h = tt
  key_none timer (one ∷ running) h =
      let parts = not_first timer one running h in
      other_by (same_timer timer one.timer) timer one running refl parts.0 (key_none timer running parts.1)

  once_keys : (running : List (Running C)) → OneEach running → OnceEach (keys_of running)
  once_keys [] h = tt
  once_keys (one ∷ running) h = (key_none one.timer running h.0, once_keys running h.1)

  -- the time-out of a timer as it is listed
  abbrev pub listed_for : Timer → List (Listed C) → Option (Listed C)
  listed_for timer [] = None
  listed_for timer (one ∷ listed) = if runs_for timer one.running then Some one else listed_for timer listed

  pub once_due : (listed : List (Listed C)) → OneEach (all_of listed) → OnceEach (due_keys listed)
  once_due listed each = once_ordered (keys_of (waiting_of listed)) (once_keys (waiting_of listed) (one_each_filtered waits listed each))

  -- ---- of a timer none but its own
  waiting_none : (timer : Timer) (listed : List (Listed C)) → running_of timer (all_of listed) ≡ None → OtherThan timer (keys_of (waiting_of listed))
  waiting_none timer listed h = key_none timer (waiting_of listed) (filtered_none waits timer listed h)

  else_if : (w : Bool) (key : Key) (one : Listed C) (listed : List (Listed C)) → NoneElse key (key_of one.running ∷ []) → NoneElse key (keys_of (waiting_of listed))
      → NoneElse key (keys_of (all_of (if w then one ∷ filter waits listed else filter waits listed)))
  else_if true key one listed e h = (e.0, h)
  else_if false key one listed e h = h

  else_by : (b : Bool) (this one : Listed C) (listed : List (Listed C)) → runs_for this.running.timer one.running ≡ b
      → running_of one.running.timer (all_of listed) ≡ None → (if b then Some one else listed_for this.running.timer listed) ≡ Some this
      → (listed_for this.running.timer listed ≡ Some this → NoneElse (key_of this.running) (keys_of (waiting_of listed)))
      → NoneElse (key_of this.running) (keys_of (waiting_of (one ∷ listed)))
  else_by true this one listed e none h k =
      let same : one ≡ this = cc in
      let it : NoneElse (key_of this.running) (key_of one.running ∷ []) = subst (λ (it : Listed C). NoneElse (key_of it.running) (key_of one.running ∷ [])) same ((λ t. before_self (key_of one.running)), tt) in
      let rest : NoneElse (key_of this.running) (keys_of (waiting_of listed)) =
      subst (λ (it : Listed C). NoneElse (key_of it.running) (keys_of (waiting_of listed))) same (else_other (key_of one.running) (keys_of (waiting_of listed)) (waiting_none one.running.timer listed none)) in
      else_if (waits one) (key_of this.running) one listed it rest
  else_by false this one listed e none h k =
      else_if (waits one) (key_of this.running) one listed ((λ t. let wrong : true ≡ false = sym t ∙ e in cc), tt) (k h)

  none_else : (this : Listed C) (listed : List (Listed C)) → OneEach (all_of listed) → listed_for this.running.timer listed ≡ Some this
      → NoneElse (key_of this.running) (keys_of (waiting_of listed))
  none_else this [] each h = cc
  none_else this (one ∷ listed) each h =
      else_by (runs_for this.running.timer one.running) this one listed refl each.0 h (λ found. none_else this listed each.1 found)

  pub none_else_due : (this : Listed C) (listed : List (Listed C)) → OneEach (all_of listed) → listed_for this.running.timer listed ≡ Some this
      → NoneElse (key_of this.running) (due_keys listed)
  none_else_due this listed each h = else_ordered (key_of this.running) (keys_of (waiting_of listed)) (none_else this listed each h)

  -- ---- one that does not wait has no key
  still_if : (w : Bool) (this one : Listed C) (listed : List (Listed C)) → same_timer this.running.timer one.running.timer ≡ false
      → OtherThan this.running.timer (keys_of (waiting_of listed))
      → OtherThan this.running.timer (keys_of (all_of (if w then one ∷ filter waits listed else filter waits listed)))
  still_if true this one listed e h = (e, h)
  still_if false this one listed e h = h

  still_by : (b : Bool) (this one : Listed C) (listed : List (Listed C)) → runs_for this.running.timer one.running ≡ b
      → running_of one.running.timer (all_of listed) ≡ None → (if b then Some one else listed_for this.running.timer listed) ≡ Some this → waits this ≡ false
      → (listed_for this.running.timer listed ≡ Some this → OtherThan this.running.timer (keys_of (waiting_of listed)))
      → OtherThan this.running.timer (keys_of (waiting_of (one ∷ listed)))
  still_by true this one listed e none h w k =
      let same : one ≡ this = cc in
      subst (λ (it : Listed C). OtherThan it.running.timer (keys_of (waiting_of (one ∷ listed)))) same
      (let still : waits one ≡ false = subst (λ (it : Listed C). waits it ≡ false) (sym same) w in rw still (waiting_none one.running.timer listed none))
  still_by false this one listed e none h w k = still_if (waits one) this one listed e (k h)

  still : (this : Listed C) (listed : List (Listed C)) → OneEach (all_of listed) → listed_for this.running.timer listed ≡ Some this → waits this ≡ false
      → OtherThan this.running.timer (keys_of (waiting_of listed))
  still this [] each h w = cc
  still this (one ∷ listed) each h w =
      still_by (runs_for this.running.timer one.running) this one listed refl each.0 h w (λ found. still this listed each.1 found w)

  -- without it the keys stay
  pub due_keys_still : (this : Listed C) (listed : List (Listed C)) → OneEach (all_of listed) → listed_for this.running.timer listed ≡ Some this → waits this ≡ false
      → due_keys (without_listed this.running.timer listed) ≡ due_keys listed
  due_keys_still this listed each h w =
      due_keys_without this.running.timer listed ∙ other_filter this.running.timer (due_keys listed) (other_ordered this.running.timer (keys_of (waiting_of listed)) (still this listed each h w))

  pub due_keys_none : (timer : Timer) (listed : List (Listed C)) → running_of timer (all_of listed) ≡ None → due_keys (without_listed timer listed) ≡ due_keys listed
  due_keys_none timer listed h =
      due_keys_without timer listed ∙ other_filter timer (due_keys listed) (other_ordered timer (keys_of (waiting_of listed)) (waiting_none timer listed h))
