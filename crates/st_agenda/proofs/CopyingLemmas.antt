-- The queue's slots, read one after another as what waits.
use Rattle.std.proofs.Common.{◌≡◌, ℕ, zero, suc, ◌+◌, ◌-◌, ◌<◌, ◌≤◌, Bool, true, false, List, [], ◌∷◌, ◌++◌, Option, Some, None, take, drop, length, nat_lt, refl, sym, ap, ◌∙◌, arith, if◌then◌else◌, append-nil}
use Rattle.std.specs.Prelude.{is_some}
use Rattle.std.specs.List.{slice_get}
use Rattle.std.specs.Option.{option_to_list}
use Rattle.std.proofs.lemmas.List.{append_assoc, drop_all}
use Rattle.st_timeouts.specs.Timeouts.{Listed, live}
use Rattle.st_timeouts.proofs.FallingLemmas.{drop_at}
use Rattle.st_agenda.specs.declared.item.Item.{Item}
use Rattle.st_agenda.specs.declared.item.Item.TheVariants.{Expiry}
use Rattle.st_agenda.specs.declared.queued.Queued.{Queued}
use Rattle.st_agenda.specs.declared.queued.Queued.TheVariants as queued
use Rattle.st_agenda.specs.Agenda.{item_of, items_in, with_live}
use Rattle.st_agenda.specs.Slots.{number_of}
use Rattle.st_agenda.specs.Waiting.{slot_numbers, places_of}

-- what is there stands within the list
pub at_within : {X : Type 0} (xs : List X) (i : ℕ) (x : X) → slice_get xs i ≡ Some x → i < length xs
at_within [] i x h = cc
at_within (y ∷ ys) zero x h = omega arith
at_within (y ∷ ys) (suc i) x h = omega (arith, at_within ys i x h)

-- the numbers of one slot more
pub one_number_more : {C : Type 0} (slots : List (Queued C)) (i : ℕ) (one : Queued C) → slice_get slots i ≡ Some one
    → slot_numbers (take (i + 1) slots) ≡ slot_numbers (take i slots) ++ number_of one ∷ []
one_number_more [] i one h = cc
one_number_more (first ∷ slots) zero one h = let same : first ≡ one = cc in rw same refl
one_number_more (first ∷ slots) (suc i) one h =
    let next : suc i + 1 ≡ suc (i + 1) = omega arith in
    ap (λ n. slot_numbers (take n (first ∷ slots))) next ∙ ap (λ numbers. number_of first ∷ numbers) (one_number_more slots i one h)

-- one at most
pub at_most_one : {X : Type 0} (one : Option X) → length (option_to_list one) ≤ 1
at_most_one None = omega arith
at_most_one (Some x) = omega arith

module _ {C : Type 0} (listed : List (Listed C)) where
  -- what is still to be read behind a place
  abbrev pub unread : ℕ → ℕ → List (Queued C) → List (Item C)
  unread received place slots = items_in listed (places_of (received - place) (drop place slots))

  live_in_front : (alive : Bool) (timer : _) (items : List (Item C)) → with_live alive timer items ≡ option_to_list (if alive then Some (Expiry timer) else None) ++ items
  live_in_front true timer items = refl
  live_in_front false timer items = refl

  in_front : (received : ℕ) (one : Queued C) (slots : List (Queued C))
      → items_in listed (places_of received (one ∷ slots)) ≡ option_to_list (item_of listed (nat_lt 0 received) one) ++ items_in listed (places_of (received - 1) slots)
  in_front zero (queued.Event event) slots = refl
  in_front zero (queued.Expiry timer number) slots = live_in_front (is_some (live timer number listed)) timer (items_in listed (places_of 0 slots))
  in_front (suc received) (queued.Event event) slots =
      let less : suc received - 1 ≡ received = omega arith in
      let some : nat_lt 0 (suc received) ≡ true = grind arith in
      rw (less, some) refl
  in_front (suc received) (queued.Expiry timer number) slots =
      let less : suc received - 1 ≡ received = omega arith in
      let some : nat_lt 0 (suc received) ≡ true = grind arith in
      rw (less, some) refl

  -- the slot at a place is received where the place is among so many
  among : (place received : ℕ) → nat_lt 0 (received - place) ≡ nat_lt place received
  among place received = grind arith

  unread_at : (received place : ℕ) (slots : List (Queued C)) (one : Queued C) → slice_get slots place ≡ Some one
      → unread received place slots ≡ option_to_list (item_of listed (nat_lt place received) one) ++ unread received (place + 1) slots
  unread_at received place slots one at =
      let less : (received - place) - 1 ≡ received - (place + 1) = omega arith in
      let next : suc place ≡ place + 1 = omega arith in
      ap (λ rest. items_in listed (places_of (received - place) rest)) (drop_at slots place one at)
      ∙ (in_front (received - place) one (drop (suc place) slots)
      ∙ (ap (λ b. option_to_list (item_of listed b one) ++ items_in listed (places_of ((received - place) - 1) (drop (suc place) slots))) (among place received)
      ∙ (ap (λ n. option_to_list (item_of listed (nat_lt place received) one) ++ items_in listed (places_of n (drop (suc place) slots))) less
      ∙ ap (λ n. option_to_list (item_of listed (nat_lt place received) one) ++ items_in listed (places_of (received - (place + 1)) (drop n slots))) next)))

  -- one slot more is read
  pub read_more : (received place : ℕ) (slots : List (Queued C)) (one : Queued C) (items : List (Item C)) → slice_get slots place ≡ Some one
      → items ++ unread received place slots ≡ items_in listed (places_of received slots)
      → (items ++ option_to_list (item_of listed (nat_lt place received) one)) ++ unread received (place + 1) slots ≡ items_in listed (places_of received slots)
  read_more received place slots one items at so_far =
      append_assoc items (option_to_list (item_of listed (nat_lt place received) one)) (unread received (place + 1) slots)
      ∙ (ap (λ rest. items ++ rest) (sym (unread_at received place slots one at)) ∙ so_far)

  nothing : (received : ℕ) → items_in listed (places_of received []) ≡ []
  nothing zero = refl
  nothing (suc received) = refl

  -- all are read
  pub read_all : (received place : ℕ) (slots : List (Queued C)) (items : List (Item C)) → length slots ≤ place
      → items ++ unread received place slots ≡ items_in listed (places_of received slots) → items ≡ items_in listed (places_of received slots)
  read_all received place slots items past so_far =
      let none : unread received place slots ≡ [] = ap (λ rest. items_in listed (places_of (received - place) rest)) (drop_all place slots past) ∙ nothing (received - place) in
      sym (append-nil items) ∙ (ap (λ rest. items ++ rest) (sym none) ∙ so_far)
