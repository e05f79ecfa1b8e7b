-- The order in which machines are due is total; and lists of machines in that order.
use Rattle.std.proofs.Common.{◌≡◌, ℕ, suc, ◌<◌, Bool, true, false, not, cond, ◌&&◌, ◌||◌, ◌==◌, nat_lt, ◌⊎◌, inl, inr, if◌then◌else◌, List, [], ◌∷◌, length, refl, sym, ap, subst, ◌∙◌, true≢false, lt-ltb, le-ltb, arith}
use Rattle.std.specs.Prelude.{Some, None}
use Rattle.std.proofs.lemmas.Bool.Decides.{nat_tests}
use Rattle.std.proofs.lemmas.Bool.{cases_Bool, cases_order, ne_eqb, eq-eqb, eqb-true, ltb-false, and_parts, and_from, true_from_ne_false, false_from_ne_true}
use Rattle.st_events.specs.declared.machine_id.MachineId.{MachineId}
use Rattle.st_due.specs.declared.due_machine.DueMachine.{DueMachine}
use Rattle.st_due.specs.Machines.{same_machine, before, put, moment_of, without, BeforeAll, InOrder, OnceEach}

-- ---- two machines
-- which are the same are one
pub same_machines : (one other : MachineId) → same_machine one other ≡ true → one ≡ other
same_machines one other h =
    let parts = and_parts (one.slot == other.slot) (one.serial == other.serial) h in
    let slot : one.slot ≡ other.slot = eqb-true _ _ parts.0 in
    let serial : one.serial ≡ other.serial = eqb-true _ _ parts.1 in
    λ i. record { slot = slot i; serial = serial i }

pub same_machine_self : (one : MachineId) → same_machine one one ≡ true
same_machine_self one = and_from _ _ (eq-eqb one.slot one.slot refl) (eq-eqb one.serial one.serial refl)

pub same_machine_flips : (one other : MachineId) → same_machine one other ≡ false → same_machine other one ≡ false
same_machine_flips one other h =
    false_from_ne_true (same_machine other one) (λ same.
    true≢false (sym (subst (λ (machine : MachineId). same_machine one machine ≡ true) (sym (same_machines other one same)) (same_machine_self one)) ∙ h))

-- ---- numbers first, and then what stands behind them
abbrev step : ℕ → ℕ → Bool → Bool
step m n t = nat_lt m n || ((m == n) && t)

step_below : (m n : ℕ) (t : Bool) → m < n → step m n t ≡ true
step_below m n t h = rw (lt-ltb m n h) refl

step_above : (m n : ℕ) (t : Bool) → n < m → step m n t ≡ false
step_above m n t h =
    let differ : m ≡ n → ⊥ = λ e. omega (arith, e, h) in
    rw (le-ltb m n (omega (arith, h)), ne_eqb m n differ) refl

step_same : (m n : ℕ) (t : Bool) → m ≡ n → step m n t ≡ t
step_same m n t e = rw (le-ltb m n (omega (arith, e)), eq-eqb m n e) refl

not_above : (m n : ℕ) (t : Bool) (P : Type 0) → n < m → step m n t ≡ true → P
not_above m n t P h p = absurd (true≢false (sym p ∙ step_above m n t h))

step_trans : (m n o : ℕ) (t u v : Bool) → (t ≡ true → u ≡ true → v ≡ true) → step m n t ≡ true → step n o u ≡ true → step m o v ≡ true
step_trans m n o t u v h p q = by (cases_order m n) (cases_order n o)
  where
    by : (m ≡ n) ⊎ ((m < n) ⊎ (n < m)) → (n ≡ o) ⊎ ((n < o) ⊎ (o < n)) → step m o v ≡ true
    by (inl a) (inl b) = step_same m o v (a ∙ b) ∙ h (sym (step_same m n t a) ∙ p) (sym (step_same n o u b) ∙ q)
    by (inl a) (inr (inl b)) = step_below m o v (omega (arith, a, b))
    by (inr (inl a)) (inl b) = step_below m o v (omega (arith, a, b))
    by (inr (inl a)) (inr (inl b)) = step_below m o v (omega (arith, a, b))
    by (inr (inr a)) b = not_above m n t (step m o v ≡ true) a p
    by a (inr (inr b)) = not_above n o u (step m o v ≡ true) b q

step_asym : (m n : ℕ) (t u : Bool) → (t ≡ true → u ≡ false) → step m n t ≡ true → step n m u ≡ false
step_asym m n t u h p = by (cases_order m n)
  where
    by : (m ≡ n) ⊎ ((m < n) ⊎ (n < m)) → step n m u ≡ false
    by (inl a) = step_same n m u (sym a) ∙ h (sym (step_same m n t a) ∙ p)
    by (inr (inl a)) = step_above n m u a
    by (inr (inr a)) = not_above m n t (step n m u ≡ false) a p

step_total : (m n : ℕ) (t u : Bool) → step m n t ≡ false → step n m u ≡ false → (m ≡ n) × (t ≡ false) × (u ≡ false)
step_total m n t u p q = by (cases_order m n)
  where
    by : (m ≡ n) ⊎ ((m < n) ⊎ (n < m)) → (m ≡ n) × (t ≡ false) × (u ≡ false)
    by (inl a) = (a, sym (step_same m n t a) ∙ p, sym (step_same n m u (sym a)) ∙ q)
    by (inr (inl a)) = absurd (true≢false (sym (step_below m n t a) ∙ p))
    by (inr (inr a)) = absurd (true≢false (sym (step_below n m u a) ∙ q))

-- ---- the order
lt_trans : (m n o : ℕ) → nat_lt m n ≡ true → nat_lt n o ≡ true → nat_lt m o ≡ true
lt_trans m n o p q = grind (arith, nat_tests)

lt_asym : (m n : ℕ) → nat_lt m n ≡ true → nat_lt n m ≡ false
lt_asym m n p = grind (arith, nat_tests)

pub before_trans : (one two three : DueMachine) → before one two ≡ true → before two three ≡ true → before one three ≡ true
unfolding before
before_trans one two three p q =
    step_trans one.moment two.moment three.moment _ _ _
    (λ a b. step_trans one.machine.slot two.machine.slot three.machine.slot _ _ _
    (λ c d. lt_trans one.machine.serial two.machine.serial three.machine.serial c d) a b) p q

pub before_asym : (one other : DueMachine) → before one other ≡ true → before other one ≡ false
unfolding before
before_asym one other p =
    step_asym one.moment other.moment _ _
    (λ a. step_asym one.machine.slot other.machine.slot _ _ (λ b. lt_asym one.machine.serial other.machine.serial b) a) p

pub before_total : (one other : DueMachine) → before one other ≡ false → before other one ≡ false → one ≡ other
unfolding before
before_total one other p q =
    let moments = step_total one.moment other.moment _ _ p q in
    let slots = step_total one.machine.slot other.machine.slot _ _ moments.1 moments.2 in
    let serials : one.machine.serial ≡ other.machine.serial = omega (arith, ltb-false _ _ slots.1, ltb-false _ _ slots.2) in
    λ i. record { moment = moments.0 i; machine = record { slot = slots.0 i; serial = serials i } }

-- one that is due earlier comes before the other
pub before_moment : (one other : DueMachine) → one.moment < other.moment → before one other ≡ true
unfolding before
before_moment one other less = step_below one.moment other.moment _ less

-- where neither of two comes before the one in front of it, the last does not come before the first
pub not_before_trans : (one two three : DueMachine) → before one two ≡ false → before two three ≡ false → before one three ≡ false
not_before_trans one two three p q = by (cases_Bool (before two one)) (cases_Bool (before one three))
  where
    by : (before two one ≡ true) ⊎ (before two one ≡ false) → (before one three ≡ true) ⊎ (before one three ≡ false) → before one three ≡ false
    by a (inr b) = b
    by (inl a) (inl b) = absurd (true≢false (sym (before_trans two one three a b) ∙ q))
    by (inr a) (inl b) = absurd (true≢false (sym b ∙ rw (sym (before_total one two p a)) at q))

-- of two other machines one comes before the other
pub before_other : (one other : DueMachine) → same_machine one.machine other.machine ≡ false → before one other ≡ false → before other one ≡ true
before_other one other differ h =
    true_from_ne_false (before other one) (λ none.
    true≢false (sym (subst (λ (due : DueMachine). same_machine one.machine due.machine ≡ true) (before_total one other h none) (same_machine_self one.machine)) ∙ differ))

-- ---- one more in a list
put_first : (one other : DueMachine) (others : List DueMachine) → before one other ≡ true → put one (other ∷ others) ≡ one ∷ other ∷ others
put_first one other others h = rw h refl

put_later : (one other : DueMachine) (others : List DueMachine) → before one other ≡ false → put one (other ∷ others) ≡ other ∷ put one others
put_later one other others h = rw h refl

-- two that each come first
put_two : (one other : DueMachine) (machines : List DueMachine) → put one machines ≡ one ∷ machines → put other machines ≡ other ∷ machines
    → put one (put other machines) ≡ put other (put one machines)
put_two one other machines first second =
    ap (put one) second ∙ (by (cases_Bool (before one other)) (cases_Bool (before other one)) ∙ sym (ap (put other) first))
  where
    by : (before one other ≡ true) ⊎ (before one other ≡ false) → (before other one ≡ true) ⊎ (before other one ≡ false)
        → put one (other ∷ machines) ≡ put other (one ∷ machines)
    by (inl a) (inl b) = absurd (true≢false (sym b ∙ before_asym one other a))
    by (inl a) (inr b) = put_first one other machines a ∙ (ap (λ t. one ∷ t) (sym second) ∙ sym (put_later other one machines b))
    by (inr a) (inl b) = put_later one other machines a ∙ (ap (λ t. other ∷ t) first ∙ sym (put_first other one machines b))
    by (inr a) (inr b) = let same : one ≡ other = before_total one other a b in λ i. put (same i) (sym same i ∷ machines)

-- one that comes before the first, and one that does not
put_around : (one other first : DueMachine) (machines : List DueMachine) → before one first ≡ true → before other first ≡ false
    → put one (put other (first ∷ machines)) ≡ put other (put one (first ∷ machines))
put_around one other first machines a b =
    let none : before other one ≡ false = false_from_ne_true (before other one) (λ c. true≢false (sym (before_trans other one first c a) ∙ b)) in
    ap (put one) (put_later other first machines b) ∙ (put_first one first (put other machines) a
    ∙ (ap (λ t. one ∷ t) (sym (put_later other first machines b)) ∙ (sym (put_later other one (first ∷ machines) none)
    ∙ ap (put other) (sym (put_first one first machines a)))))

-- it does not matter which of two is put in first
pub put_comm : (one other : DueMachine) (machines : List DueMachine) → put one (put other machines) ≡ put other (put one machines)
put_comm one other [] = put_two one other [] refl refl
put_comm one other (first ∷ machines) = by (cases_Bool (before one first)) (cases_Bool (before other first)) (put_comm one other machines)
  where
    by : (before one first ≡ true) ⊎ (before one first ≡ false) → (before other first ≡ true) ⊎ (before other first ≡ false)
        → put one (put other machines) ≡ put other (put one machines)
        → put one (put other (first ∷ machines)) ≡ put other (put one (first ∷ machines))
    by (inl a) (inl b) h = put_two one other (first ∷ machines) (put_first one first machines a) (put_first other first machines b)
    by (inl a) (inr b) h = put_around one other first machines a b
    by (inr a) (inl b) h = sym (put_around other one first machines b a)
    by (inr a) (inr b) h =
        ap (put one) (put_later other first machines b) ∙ (put_later one first (put other machines) a
        ∙ (ap (λ t. first ∷ t) h ∙ (sym (put_later other first (put one machines) b)
        ∙ ap (put other) (sym (put_later one first machines a)))))

pub length_put : (one : DueMachine) (machines : List DueMachine) → length (put one machines) ≡ suc (length machines)
length_put one [] = refl
length_put one (first ∷ machines) = by (before one first) (length_put one machines)
  where
    by : (b : Bool) → length (put one machines) ≡ suc (length machines)
        → length (if b then one ∷ first ∷ machines else first ∷ put one machines) ≡ suc (suc (length machines))
    by true h = refl
    by false h = ap suc h

-- ---- a machine that is not there
-- the first is another, and so are the others
pub not_first : (machine : MachineId) (one : DueMachine) (others : List DueMachine) → moment_of machine (one ∷ others) ≡ None
    → (same_machine machine one.machine ≡ false) × (moment_of machine others ≡ None)
not_first machine one others h = by (same_machine machine one.machine) refl h
  where
    by : (b : Bool) → same_machine machine one.machine ≡ b → (if b then Some one.moment else moment_of machine others) ≡ None
        → (same_machine machine one.machine ≡ false) × (moment_of machine others ≡ None)
    by true e n = cc
    by false e n = (e, n)

pub without_none : (machine : MachineId) (machines : List DueMachine) → moment_of machine machines ≡ None → without machine machines ≡ machines
without_none machine [] h = refl
without_none machine (one ∷ others) h =
    let parts = not_first machine one others h in
    rw parts.0 (ap (λ t. one ∷ t) (without_none machine others parts.1))

pub moment_put_other : (machine : MachineId) (one : DueMachine) (machines : List DueMachine) → same_machine machine one.machine ≡ false
    → moment_of machine (put one machines) ≡ moment_of machine machines
moment_put_other machine one [] h = rw h refl
moment_put_other machine one (first ∷ machines) h = by (before one first) (moment_put_other machine one machines h)
  where
    by : (b : Bool) → moment_of machine (put one machines) ≡ moment_of machine machines
        → moment_of machine (if b then one ∷ first ∷ machines else first ∷ put one machines) ≡ moment_of machine (first ∷ machines)
    by true e = rw h refl
    by false e = ap (λ t. if same_machine machine first.machine then Some first.moment else t) e

pub moment_put_same : (machine : MachineId) (one : DueMachine) (machines : List DueMachine) → same_machine machine one.machine ≡ true
    → moment_of machine machines ≡ None → moment_of machine (put one machines) ≡ Some one.moment
moment_put_same machine one [] h none = rw h refl
moment_put_same machine one (first ∷ machines) h none =
    let parts = not_first machine first machines none in by (before one first) parts.0 (moment_put_same machine one machines h parts.1)
  where
    by : (b : Bool) → same_machine machine first.machine ≡ false → moment_of machine (put one machines) ≡ Some one.moment
        → moment_of machine (if b then one ∷ first ∷ machines else first ∷ put one machines) ≡ Some one.moment
    by true other e = rw h refl
    by false other e = rw other e

-- ---- each machine once, in order
pub once_each_put : (one : DueMachine) (machines : List DueMachine) → moment_of one.machine machines ≡ None → OnceEach machines → OnceEach (put one machines)
once_each_put one [] none each = (refl, tt)
once_each_put one (first ∷ machines) none each =
    let parts = not_first one.machine first machines none in
    by (before one first) (moment_put_other first.machine one machines (same_machine_flips one.machine first.machine parts.0) ∙ each.0) (once_each_put one machines parts.1 each.1)
  where
    by : (b : Bool) → moment_of first.machine (put one machines) ≡ None → OnceEach (put one machines)
        → OnceEach (if b then one ∷ first ∷ machines else first ∷ put one machines)
    by true a e = (none, each)
    by false a e = (a, e)

before_all : (one first : DueMachine) (machines : List DueMachine) → before one first ≡ true → BeforeAll first machines → BeforeAll one machines
before_all one first [] h all = tt
before_all one first (other ∷ machines) h all = (before_trans one first other h all.0, before_all one first machines h all.1)

before_put : (first one : DueMachine) (machines : List DueMachine) → before first one ≡ true → BeforeAll first machines → BeforeAll first (put one machines)
before_put first one [] h all = (h, tt)
before_put first one (other ∷ machines) h all = by (before one other) (before_put first one machines h all.1)
  where
    by : (b : Bool) → BeforeAll first (put one machines) → BeforeAll first (if b then one ∷ other ∷ machines else other ∷ put one machines)
    by true e = (h, all)
    by false e = (all.0, e)

pub in_order_put : (one : DueMachine) (machines : List DueMachine) → moment_of one.machine machines ≡ None → InOrder machines → InOrder (put one machines)
in_order_put one [] none order = (tt, tt)
in_order_put one (first ∷ machines) none order =
    let parts = not_first one.machine first machines none in
    by (before one first) refl parts.0 (in_order_put one machines parts.1 order.1)
  where
    by : (b : Bool) → before one first ≡ b → same_machine one.machine first.machine ≡ false → InOrder (put one machines)
        → InOrder (if b then one ∷ first ∷ machines else first ∷ put one machines)
    by true e other o = ((e, before_all one first machines e order.0), order)
    by false e other o = (before_put first one machines (before_other one first other e) order.0, o)

-- ---- without a machine
-- which of two lists follows, where one is left out or stays
without_by : (b : Bool) (first : DueMachine) (some others : List DueMachine) → some ≡ others
    → cond (not b) (first ∷ some) some ≡ cond (not b) (first ∷ others) others
without_by b first some others e = ap (λ t. cond (not b) (first ∷ t) t) e

pub without_put_same : (machine : MachineId) (one : DueMachine) (machines : List DueMachine) → same_machine machine one.machine ≡ true
    → without machine (put one machines) ≡ without machine machines
without_put_same machine one [] h = rw h refl
without_put_same machine one (first ∷ machines) h = by (before one first) (without_put_same machine one machines h)
  where
    by : (b : Bool) → without machine (put one machines) ≡ without machine machines
        → without machine (if b then one ∷ first ∷ machines else first ∷ put one machines) ≡ without machine (first ∷ machines)
    by true e = rw h refl
    by false e = without_by (same_machine machine first.machine) first _ _ e

before_all_without : (one : DueMachine) (machine : MachineId) (machines : List DueMachine) → BeforeAll one machines → BeforeAll one (without machine machines)
before_all_without one machine [] all = tt
before_all_without one machine (first ∷ machines) all = by (same_machine machine first.machine) (before_all_without one machine machines all.1)
  where
    by : (b : Bool) → BeforeAll one (without machine machines) → BeforeAll one (cond (not b) (first ∷ without machine machines) (without machine machines))
    by true e = e
    by false e = (all.0, e)

put_before_all : (one : DueMachine) (machines : List DueMachine) → BeforeAll one machines → put one machines ≡ one ∷ machines
put_before_all one [] all = refl
put_before_all one (first ∷ machines) all = put_first one first machines all.0

pub without_put_other : (machine : MachineId) (one : DueMachine) (machines : List DueMachine) → same_machine machine one.machine ≡ false → InOrder machines
    → without machine (put one machines) ≡ put one (without machine machines)
without_put_other machine one [] h order = rw h refl
without_put_other machine one (first ∷ machines) h order =
    by (before one first) refl (same_machine machine first.machine) refl (without_put_other machine one machines h order.1)
  where
    by : (b : Bool) → before one first ≡ b → (s : Bool) → same_machine machine first.machine ≡ s → without machine (put one machines) ≡ put one (without machine machines)
        → without machine (if b then one ∷ first ∷ machines else first ∷ put one machines) ≡ put one (without machine (first ∷ machines))
    by true e s is o =
        let all : BeforeAll one (first ∷ machines) = (e, before_all one first machines e order.0) in
        let behind : without machine (one ∷ first ∷ machines) ≡ one ∷ without machine (first ∷ machines) = rw h refl in
        behind ∙ sym (put_before_all one (without machine (first ∷ machines)) (before_all_without one machine (first ∷ machines) all))
    by false e true is o =
        let left : without machine (first ∷ put one machines) ≡ without machine (put one machines) = rw is refl in
        let right : without machine (first ∷ machines) ≡ without machine machines = rw is refl in
        left ∙ (o ∙ ap (put one) (sym right))
    by false e false is o =
        let left : without machine (first ∷ put one machines) ≡ first ∷ without machine (put one machines) = rw is refl in
        let right : without machine (first ∷ machines) ≡ first ∷ without machine machines = rw is refl in
        left ∙ (ap (λ t. first ∷ t) o ∙ (sym (put_later one first (without machine machines) e) ∙ ap (put one) (sym right)))
