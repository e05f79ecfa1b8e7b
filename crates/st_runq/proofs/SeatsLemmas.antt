-- A new worker gets its thieves, and what it keeps then.
use Rattle.std.proofs.Common.{◌≡◌, ◌≢◌, ◌⊎◌, inl, inr, ⊎_elim, ℕ, zero, suc, ◌+◌, ◌<◌, List, [], ◌∷◌, ◌++◌, length, map, set, get_or, take, drop, ◌-◌, All, Some, slice_get, sym, refl, ap, ◌∙◌, subst, arith}
use Rattle.std.proofs.lemmas.Option.{none-some, same_Some}
use Rattle.std.proofs.lemmas.List.{drop-map, take-map, take_all, length-drop, length-set}
use Rattle.std.proofs.lemmas.List.Elements.{All-get_or, All-set}
use Rattle.std.proofs.Math.Seq.{map-set_same}
use Rattle.st_runq.specs.declared.inlet.Inlet.{Inlet}
use Rattle.st_runq.specs.declared.seats.Seats.{Seats}
use Rattle.st_runq.specs.declared.thief.Thief.{Thief}
use Rattle.st_runq.specs.Ends.{LaneId, lane_of, robbed_of}
use Rattle.st_runq.specs.Seats.{lanes_of, others_of, AreThieves, IsReady, EachRobsOthers}

-- an element of a list in which one is set is the new one, or an old one elsewhere
get-set : {A : Type 0} (xs : List A) (i : ℕ) (x : A) (k : ℕ) (y : A) → slice_get (set xs i x) k ≡ Some y → ((k ≡ i) × (x ≡ y)) ⊎ ((k ≢ i) × (slice_get xs k ≡ Some y))
get-set [] i x k y at = absurd (none-some y at)
get-set (z ∷ xs) zero x zero y at = inl (refl, same_Some x y at)
get-set (z ∷ xs) zero x (suc k) y at = inr ((λ e. omega arith), at)
get-set (z ∷ xs) (suc i) x zero y at = inr ((λ e. omega arith), at)
get-set (z ∷ xs) (suc i) x (suc k) y at =
    ⊎_elim (λ new. inl (ap suc new.0, new.1)) (λ old. let apart = old.0 in inr ((λ e. apart (omega arith)), old.1)) (get-set xs i x k y at)

-- the thieves of those after the own number, and then of those before it, are the thieves of the others
pub both_sides : (all : List Seats) (own : ℕ) (none after both : List Thief) → map robbed_of none ≡ []
    → map robbed_of after ≡ map robbed_of none ++ lanes_of (take (length all - (own + 1)) (drop (own + 1) all))
    → AreThieves (map robbed_of after ++ lanes_of (take own all)) both → AreThieves (others_of own (lanes_of all)) both
both_sides all own none after both nothing added robs =
    let id : Seats → LaneId = λ seats. lane_of seats.lane in
    let behind : List Seats = take (length all - (own + 1)) (drop (own + 1) all) in
    let whole : behind ≡ drop (own + 1) all = take_all _ _ (omega (arith, length-drop (own + 1) all)) in
    let had : map robbed_of after ≡ drop (own + 1) (lanes_of all) =
    added ∙ ap (λ l. l ++ lanes_of behind) nothing ∙ ap lanes_of whole ∙ sym (drop-map id (own + 1) all) in
    (robs.0 ∙ (λ i. had i ++ sym (take-map id own all) i), robs.1)

-- one that gets thieves keeps its run queue
lanes-set : (all : List Seats) (i : ℕ) (old new : Seats) → old ≡ get_or all i old → lane_of new.lane ≡ lane_of old.lane → lanes_of (set all i new) ≡ lanes_of all
lanes-set all i old new is same = map-set_same (λ (seats : Seats). lane_of seats.lane) all i new old (same ∙ ap (λ (seats : Seats). lane_of seats.lane) is)

-- the next worker gets its thieves
pub next_has_thieves : (inlet : Inlet) (all : List Seats) (count own : ℕ) (old new : Seats) → old ≡ get_or all own old → own < count → length all ≡ count
    → All (IsReady inlet) all → EachRobsOthers own all
    → (IsReady inlet old → IsReady inlet new) → lane_of new.lane ≡ lane_of old.lane → AreThieves (others_of own (lanes_of all)) new.thieves.items
    → (length (set all own new) ≡ count) × All (IsReady inlet) (set all own new) × EachRobsOthers (own + 1) (set all own new)
next_has_thieves inlet all count own old new is within long ready robs still same thieves = (
  length-set all own new ∙ long,
  All-set (IsReady inlet) all own new (still (subst (IsReady inlet) (sym is) (All-get_or (IsReady inlet) all own old (omega (arith, long)) ready))) ready,
  λ k seats below at. rw (lanes-set all own old new is same) (
      ⊎_elim
      (λ (here : (k ≡ own) × (new ≡ seats)). subst (λ (x : ℕ × Seats). AreThieves (others_of x.0 (lanes_of all)) x.1.thieves.items) (λ j. (sym here.0 j, here.1 j)) thieves)
      (λ there. let apart = there.0 in robs k seats (omega arith) there.1)
      (get-set all own new k seats at)
      ),
)
