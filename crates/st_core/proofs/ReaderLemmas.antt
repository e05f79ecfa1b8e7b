-- What can be read off a machine, and what its commands answer.
use Rattle.std.proofs.Common.{◌≡◌, suc, Option, Some, None, List, [], ◌∷◌, length, refl, ap}
use Rattle.st_requests.specs.declared.collected.Collected.TheVariants as collected
use Rattle.st_requests.specs.declared.request_state.RequestState.{RequestState}
use Rattle.st_requests.specs.declared.request_state.RequestState.TheVariants.{Open, Reply, Stopped}
use Rattle.st_requests.specs.Requests.{reply_of, collected_of}
use Rattle.st_agenda.specs.declared.item.Item.{Item}
use Rattle.st_agenda.specs.declared.item.Item.TheVariants.{Received, Posted, Expiry}
use Rattle.st_agenda.specs.Items.{events_in}
use Rattle.st_agenda.specs.Lawful.{waiting_numbers}
use Rattle.st_agenda.proofs.LoopLemmas.{some_injective}

module _ {C : Type 0} where
  -- what is shown would be collected
  pub shown_is_collected : (held : Option (RequestState C)) (content : C) → reply_of held ≡ Some content → collected_of held ≡ collected.Reply content
  shown_is_collected None content shown = cc
  shown_is_collected (Some Open) content shown = cc
  shown_is_collected (Some (Reply kept)) content shown = ap collected.Reply (some_injective shown)
  shown_is_collected (Some (Stopped reason)) content shown = cc

  -- what would be collected is shown
  pub collected_is_shown : (held : Option (RequestState C)) (content : C) → collected_of held ≡ collected.Reply content → reply_of held ≡ Some content
  collected_is_shown None content collects = cc
  collected_is_shown (Some Open) content collects = cc
  collected_is_shown (Some (Reply kept)) content collects = cc
  collected_is_shown (Some (Stopped reason)) content collects = cc

  -- the events that wait are as many as their numbers
  pub counted_by_numbers : (items : List (Item C)) → events_in items ≡ length (waiting_numbers items)
  counted_by_numbers [] = refl
  counted_by_numbers (Received event ∷ items) = ap suc (counted_by_numbers items)
  counted_by_numbers (Posted event ∷ items) = ap suc (counted_by_numbers items)
  counted_by_numbers (Expiry timer ∷ items) = counted_by_numbers items
