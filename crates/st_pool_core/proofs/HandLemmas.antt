-- The workers' second hands, as a list with one place a worker.
use Rattle.std.proofs.Common.{◌≡◌, ℕ, zero, suc, ◌-◌, ◌<◌, ◌≤◌, true, Option, Some, None, is_some, List, [], ◌∷◌, ◌++◌, length, replicate, slice_index_or, refl, ap, arith}
use Rattle.st_events.specs.declared.message.Message.{Message}
use Rattle.st_pool_core.specs.Transit.{message_in, is_carrying, with_message}
use Rattle.st_pool_core.proofs.TransitLemmas.{message_there, length-changed}

module _ {C : Type 0} where
  -- one empty hand more
  hands_next : (count : ℕ) → replicate {A = Option (Message C)} count None ++ None ∷ [] ≡ replicate (suc count) None
  hands_next zero = refl
  hands_next (suc count) = ap (λ (hands : List (Option (Message C))). None ∷ hands) (hands_next count)

  pub hands_more : (count next : ℕ) → next ≡ suc count → replicate {A = Option (Message C)} count None ++ None ∷ [] ≡ replicate next None
  hands_more count next is = rw is (hands_next count)

  -- what is found at a place that is there
  there_at : (hands : List (Option (Message C))) (place : ℕ) (message : Message C) → slice_index_or hands place None ≡ Some message → place < length hands
  there_at [] place message at = cc
  there_at (hand ∷ hands) zero message at = omega arith
  there_at (hand ∷ hands) (suc place) message at = let rest : place < length hands = there_at hands place message at in omega arith

  -- a worker that carries a message is there
  some_carried : (found : Option (Message C)) → is_some found ≡ true → (message : Message C) × (found ≡ Some message)
  some_carried None h = cc
  some_carried (Some message) h = (message, refl)

  pub carrier_there : (hands : List (Option (Message C))) (worker : ℕ) → is_carrying hands worker ≡ true → (0 < worker) × (worker - 1 < length hands)
  carrier_there hands worker carrying =
      let carried = some_carried (message_in hands worker) carrying in
      let there = message_there hands worker carried.0 carried.1 in
      (there.0, there_at hands (worker - 1) carried.0 there.1)

  pub message_place : (hands : List (Option (Message C))) (worker : ℕ) (message : Message C) → message_in hands worker ≡ Some message → worker ≤ length hands
  message_place hands worker message carried =
      let there = message_there hands worker message carried in
      let within = there_at hands (worker - 1) message there.1 in
      omega (arith, there.0, within)

  -- and it is there after it laid its message down
  pub laid_place : (hands new : List (Option (Message C))) (worker : ℕ) (message : Message C) → message_in hands worker ≡ Some message → new ≡ with_message hands worker None
      → worker ≤ length new
  laid_place hands new worker message carried same = rw (same, length-changed (worker - 1) None hands) (message_place hands worker message carried)
