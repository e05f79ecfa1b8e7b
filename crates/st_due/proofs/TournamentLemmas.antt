-- The first node of a tournament is the first of all; and how a change passes up.
use Rattle.std.proofs.Common.{◌≡◌, ℕ, zero, suc, ◌+◌, ◌-◌, ◌*◌, ◌/◌, ◌^◌, ◌<◌, ◌≤◌, true, false, ◌⊎◌, inl, inr, List, ◌∷◌, length, map, get_or, replicate, drop, set, refl, sym, ap, subst, ◌∙◌, true≢false, arith}
use Rattle.std.specs.Prelude.{Option, Some, None}
use Rattle.std.proofs.Math.Numerals.{add-one}
use Rattle.std.proofs.lemmas.Bool.{cases_Bool, cases_eq}
use Rattle.std.proofs.lemmas.List.{length-replicate, get_or-map, drop_all, drop_more, get_or-set_same, get_or-set_other}
use Rattle.std.specs.Option.{option_map}
use Rattle.st_events.specs.declared.machine_id.MachineId.{MachineId}
use Rattle.st_due.specs.declared.contender.Contender.{Contender}
use Rattle.st_due.specs.declared.due_machine.DueMachine.{DueMachine}
use Rattle.st_due.specs.Machines.{before}
use Rattle.st_due.specs.Tournament.{seen, earlier, earliest, node_at, IsWon, IsPlayed}
use Rattle.st_due.proofs.OrderLemmas.{before_moment, before_trans, before_asym, before_total, not_before_trans}

-- ---- the earlier of some
earlier_none : (one : Option DueMachine) → earlier one None ≡ one
earlier_none None = refl
earlier_none (Some one) = refl

earlier_one : (one other : DueMachine) → before one other ≡ true → earlier (Some one) (Some other) ≡ Some one
earlier_one one other h = rw h refl

earlier_other : (one other : DueMachine) → before one other ≡ false → earlier (Some one) (Some other) ≡ Some other
earlier_other one other h = rw h refl

earlier_comm : (one other : Option DueMachine) → earlier one other ≡ earlier other one
earlier_comm None other = sym (earlier_none other)
earlier_comm (Some one) None = refl
earlier_comm (Some one) (Some other) = by (cases_Bool (before one other)) (cases_Bool (before other one))
  where
    by : (before one other ≡ true) ⊎ (before one other ≡ false) → (before other one ≡ true) ⊎ (before other one ≡ false)
        → earlier (Some one) (Some other) ≡ earlier (Some other) (Some one)
    by (inl a) (inl b) = absurd (true≢false (sym b ∙ before_asym one other a))
    by (inl a) (inr b) = earlier_one one other a ∙ sym (earlier_other other one b)
    by (inr a) (inl b) = earlier_other one other a ∙ sym (earlier_one other one b)
    by (inr a) (inr b) = let same : one ≡ other = before_total one other a b in λ i. earlier (Some (same i)) (Some (sym same i))

earlier_assoc : (one two three : Option DueMachine) → earlier (earlier one two) three ≡ earlier one (earlier two three)
earlier_assoc None two three = refl
earlier_assoc (Some one) None three = refl
earlier_assoc (Some one) (Some two) None = earlier_none (earlier (Some one) (Some two))
earlier_assoc (Some one) (Some two) (Some three) = by (cases_Bool (before one two)) (cases_Bool (before two three))
  where
    by : (before one two ≡ true) ⊎ (before one two ≡ false) → (before two three ≡ true) ⊎ (before two three ≡ false)
        → earlier (earlier (Some one) (Some two)) (Some three) ≡ earlier (Some one) (earlier (Some two) (Some three))
    by (inl a) (inl b) =
        ap (λ t. earlier t (Some three)) (earlier_one one two a) ∙ (earlier_one one three (before_trans one two three a b)
        ∙ (sym (earlier_one one two a) ∙ ap (earlier (Some one)) (sym (earlier_one two three b))))
    by (inl a) (inr b) =
        ap (λ t. earlier t (Some three)) (earlier_one one two a) ∙ ap (earlier (Some one)) (sym (earlier_other two three b))
    by (inr a) (inl b) =
        ap (λ t. earlier t (Some three)) (earlier_other one two a) ∙ (earlier_one two three b
        ∙ (sym (earlier_other one two a) ∙ ap (earlier (Some one)) (sym (earlier_one two three b))))
    by (inr a) (inr b) =
        ap (λ t. earlier t (Some three)) (earlier_other one two a) ∙ (earlier_other two three b
        ∙ (sym (earlier_other one three (not_before_trans one two three a b)) ∙ ap (earlier (Some one)) (sym (earlier_other two three b))))

-- ---- nodes that are told apart by their moments
abbrev due_at : ℕ → MachineId → DueMachine
due_at moment machine = record { moment = moment; machine = machine }

pub earlier_first : (one other : Contender) → other.moment < 2 ^ 64 → one.moment < other.moment → seen one ≡ earlier (seen one) (seen other)
earlier_first one other fits less = by one.machine other.machine refl
  where
    by : (a b : Option MachineId) → one.machine ≡ a
        → option_map (due_at one.moment) a ≡ earlier (option_map (due_at one.moment) a) (option_map (due_at other.moment) b)
    by (Some m) (Some n) e = sym (earlier_one (due_at one.moment m) (due_at other.moment n) (before_moment (due_at one.moment m) (due_at other.moment n) less))
    by (Some m) None e = refl
    by None b e = let late : one.moment ≡ 2 ^ 64 - 1 = one.late e in absurd (omega (arith, late, less, fits))

pub earlier_second : (one other : Contender) → one.moment < 2 ^ 64 → other.moment < one.moment → seen other ≡ earlier (seen one) (seen other)
earlier_second one other fits less = by one.machine other.machine refl
  where
    by : (a b : Option MachineId) → other.machine ≡ b
        → option_map (due_at other.moment) b ≡ earlier (option_map (due_at one.moment) a) (option_map (due_at other.moment) b)
    by (Some m) (Some n) e =
        sym (earlier_other (due_at one.moment m) (due_at other.moment n)
        (before_asym (due_at other.moment n) (due_at one.moment m) (before_moment (due_at other.moment n) (due_at one.moment m) less)))
    by (Some m) None e = let late : other.moment ≡ 2 ^ 64 - 1 = other.late e in absurd (omega (arith, late, less, fits))
    by None b e = refl

-- ---- the first of some nodes
module _ (nodes : List (Option DueMachine)) where
  -- of so many from one on
  abbrev first_from : ℕ → ℕ → Option DueMachine
  first_from k zero = None
  first_from k (suc n) = earlier (node_at nodes k) (first_from (suc k) n)

  -- of two more
  first_more : (k n j : ℕ) → j ≡ k + n → first_from k (suc (suc n)) ≡ earlier (first_from k n) (earlier (node_at nodes j) (node_at nodes (suc j)))
  first_more k zero j e =
      let same : j ≡ k = omega (arith, e) in
      ap (earlier (node_at nodes k)) (earlier_none (node_at nodes (suc k))) ∙ (λ i. earlier (node_at nodes (sym same i)) (node_at nodes (suc (sym same i))))
  first_more k (suc n) j e =
      ap (earlier (node_at nodes k)) (first_more (suc k) n j (omega (arith, e)))
      ∙ sym (earlier_assoc (node_at nodes k) (first_from (suc k) n) (earlier (node_at nodes j) (node_at nodes (suc j))))

  -- of as many as one's number, and of one more from the next on
  first_next : (j : ℕ) → IsWon nodes (suc j) → first_from (suc j) (suc j) ≡ first_from (suc (suc j)) (suc (suc j))
  first_next j won =
      let one : ℕ = 2 * suc j in
      let next : suc one ≡ 2 * suc j + 1 = omega arith in
      let here : node_at nodes (suc j) ≡ earlier (node_at nodes one) (node_at nodes (suc one)) = won ∙ ap (λ k. earlier (node_at nodes one) (node_at nodes k)) (sym next) in
      ap (λ t. earlier t (first_from (suc (suc j)) j)) here
      ∙ (earlier_comm (earlier (node_at nodes one) (node_at nodes (suc one))) (first_from (suc (suc j)) j)
      ∙ sym (first_more (suc (suc j)) j one (omega arith)))

  first_all : (n : ℕ) → ((k : ℕ) → 1 ≤ k → k < suc n → IsWon nodes k) → first_from 1 1 ≡ first_from (suc n) (suc n)
  first_all zero won = refl
  first_all (suc n) won = first_all n (λ k some less. won k some (omega (arith, less))) ∙ first_next n (won (suc n) (omega arith) (omega arith))

  first_listed : (k n : ℕ) → length nodes ≡ k + n → earliest (drop k nodes) ≡ first_from k n
  first_listed k zero long = ap earliest (drop_all k nodes (omega (arith, long)))
  first_listed k (suc n) long =
      ap earliest (drop_more nodes k None (omega (arith, long)))
      ∙ ap (earlier (node_at nodes k)) (ap (λ m. earliest (drop m nodes)) (add-one k) ∙ first_listed (suc k) n (omega (arith, long)))

  -- the first node is the first of all places
  pub first_is_earliest : (places : ℕ) → (places ≡ 0 → ⊥) → IsPlayed nodes places → node_at nodes 1 ≡ earliest (drop places nodes)
  first_is_earliest zero some played = absurd (some refl)
  first_is_earliest (suc n) some played =
      sym (earlier_none (node_at nodes 1)) ∙ (first_all n played.won ∙ sym (first_listed (suc n) (suc n) (omega (arith, played.counted))))

-- ---- a change passes up
-- all nodes but the one above this are won
abbrev pub AreWonBut : List (Option DueMachine) → ℕ → ℕ → Type 0
AreWonBut nodes places node = (k : ℕ) → 1 ≤ k → k < places → (k ≡ node / 2 → ⊥) → IsWon nodes k

module _ (nodes : List (Option DueMachine)) (at : ℕ) (new : Option DueMachine) where
  -- a node is won still where neither it nor one of those below it changes
  won_still : (k : ℕ) → (k ≡ at → ⊥) → (2 * k ≡ at → ⊥) → (2 * k + 1 ≡ at → ⊥) → IsWon nodes k → IsWon (set nodes at new) k
  won_still k here one other won =
      get_or-set_other nodes at k new None here ∙ (won
      ∙ (λ i. earlier (sym (get_or-set_other nodes at (2 * k) new None one) i) (sym (get_or-set_other nodes at (2 * k + 1) new None other) i)))

  -- a place changes
  pub won_but_above : (places : ℕ) → places ≤ at → ((k : ℕ) → 1 ≤ k → k < places → IsWon nodes k) → AreWonBut (set nodes at new) places at
  won_but_above places far won k some less above =
      won_still k (λ e. omega (arith, e, far, less)) (λ e. above (omega (arith, e))) (λ e. above (omega (arith, e))) (won k some less)

  -- the node above the one that changed is won anew
  pub won_up : (places node : ℕ) → at ≡ node / 2 → 1 ≤ at → at < length nodes → new ≡ earlier (node_at nodes (2 * at)) (node_at nodes (2 * at + 1))
      → AreWonBut nodes places node → AreWonBut (set nodes at new) places at
  won_up places node is some within first won k low less above = by (cases_eq k at)
    where
      by : (k ≡ at) ⊎ (k ≡ at → ⊥) → IsWon (set nodes at new) k
      by (inl e) = subst (λ n. IsWon (set nodes at new) n) (sym e) here
        where
          here : IsWon (set nodes at new) at
          here =
              get_or-set_same nodes at new None within ∙ (first
              ∙ (λ i. earlier (sym (get_or-set_other nodes at (2 * at) new None (λ same. omega (arith, same, some))) i)
              (sym (get_or-set_other nodes at (2 * at + 1) new None (λ same. omega (arith, same, some))) i)))
      by (inr other) =
          won_still k other (λ e. above (omega (arith, e))) (λ e. above (omega (arith, e))) (won k low less (λ e. other (e ∙ sym is)))

-- where the node above is won too, all are
pub all_won : (nodes : List (Option DueMachine)) (places node : ℕ) → AreWonBut nodes places node → IsWon nodes (node / 2)
    → (k : ℕ) → 1 ≤ k → k < places → IsWon nodes k
all_won nodes places node but above k some less = by (cases_eq k (node / 2))
  where
    by : (k ≡ node / 2) ⊎ (k ≡ node / 2 → ⊥) → IsWon nodes k
    by (inl e) = subst (λ n. IsWon nodes n) (sym e) above
    by (inr other) = but k some less other

-- the other node below the same node
abbrev pub beside : ℕ → ℕ
beside node = 2 * (node / 2) + (2 * (node / 2) + 1 - node)

-- the earlier of a node and of the one beside it
pub earlier_beside : (nodes : List (Option DueMachine)) (node : ℕ)
    → earlier (node_at nodes node) (node_at nodes (beside node)) ≡ earlier (node_at nodes (2 * (node / 2))) (node_at nodes (2 * (node / 2) + 1))
earlier_beside nodes node = by (cases_eq node (2 * (node / 2)))
  where
    by : (node ≡ 2 * (node / 2)) ⊎ (node ≡ 2 * (node / 2) → ⊥)
        → earlier (node_at nodes node) (node_at nodes (beside node)) ≡ earlier (node_at nodes (2 * (node / 2))) (node_at nodes (2 * (node / 2) + 1))
    by (inl e) =
        let other : beside node ≡ 2 * (node / 2) + 1 = omega (arith, e) in
        λ i. earlier (node_at nodes (e i)) (node_at nodes (other i))
    by (inr differ) =
        let is : node ≡ 2 * (node / 2) + 1 = omega (arith, differ) in
        let other : beside node ≡ 2 * (node / 2) = omega (arith, is) in
        earlier_comm (node_at nodes node) (node_at nodes (beside node)) ∙ (λ i. earlier (node_at nodes (other i)) (node_at nodes (is i)))

-- ---- nodes that are read and written
-- what is read at a node is seen there
pub seen_at : (nodes : List Contender) (k : ℕ) (one : Contender) → k < length nodes → one ≡ get_or nodes k one → seen one ≡ node_at (map seen nodes) k
seen_at nodes k one within is = ap seen is ∙ sym (get_or-map seen nodes k one None within)

pub seen_none : (n : ℕ) (one : Contender) → seen one ≡ None → map seen (replicate n one) ≡ replicate n None
seen_none zero one h = refl
seen_none (suc n) one h = λ i. h i ∷ seen_none n one h i

none_at : (n k : ℕ) → node_at (replicate n None) k ≡ None
none_at zero k = refl
none_at (suc n) zero = refl
none_at (suc n) (suc k) = none_at n k

-- where there is no machine, all nodes are won
pub none_won : (count places : ℕ) → count ≡ 2 * places → IsPlayed (replicate count None) places
none_won count places twice = record {
  counted = length-replicate count None ∙ twice;
  won = λ k some less. none_at count k ∙ (λ i. earlier (sym (none_at count (2 * k)) i) (sym (none_at count (2 * k + 1)) i));
}
