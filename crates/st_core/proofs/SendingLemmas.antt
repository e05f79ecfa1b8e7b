-- One message more of a list of actions is sent.
use Rattle.std.proofs.Common.{◌≡◌, ◌+◌, ◌≤◌, ◌<◌, ◌^◌, Some, None, Option, List, [], ◌∷◌, ◌++◌, sym, ap, ◌∙◌, length, arith}
use Rattle.std.specs.Option.{option_to_list}
use Rattle.st_events.specs.declared.machine_id.MachineId.{MachineId}
use Rattle.st_outbox.specs.declared.outbox.Outbox.{Outbox}
use Rattle.st_outbox.specs.Outbox.{OutgoingState, with_sent}
use Rattle.st_outbox.proofs.OutboxLemmas.{with_sent-nothing, with_sent-cons}

module _ {C : Type 0} (sender : MachineId) (old : Outbox C) (sends : List (MachineId × C)) where
  -- some messages are sent; those that are left are to be sent
  pub record SentSoFar (outgoing : OutgoingState C) (left : List (MachineId × C)) : Type 0 where
    pub all : with_sent sender outgoing.outbox left ≡ with_sent sender old sends
    pub reserved : length left ≤ outgoing.reserved
    pub numbers : outgoing.outbox.next_number + length left ≤ 2 ^ 63

  -- all are sent
  pub all_sent : (outgoing : OutgoingState C) (left : List (MachineId × C)) → left ≡ [] → SentSoFar outgoing left → outgoing.outbox ≡ with_sent sender old sends
  all_sent outgoing left none so_far =
      sym (with_sent-nothing sender outgoing.outbox) ∙ (ap (λ (l : List (MachineId × C)). with_sent sender outgoing.outbox l) (sym none) ∙ so_far.all)

  module _ (outgoing : OutgoingState C) (left rest : List (MachineId × C)) (found : Option (MachineId × C)) (taken : left ≡ option_to_list found ++ rest) (so_far : SentSoFar outgoing left) where
    -- none was at this place
    pub none_more : found ≡ None → SentSoFar outgoing rest
    none_more none =
        let same : left ≡ rest = taken ∙ ap (λ (o : Option (MachineId × C)). option_to_list o ++ rest) none in rw (← same) so_far

    module _ (target : MachineId) (content : C) (one : found ≡ Some (target, content)) where
      split : left ≡ (target, content) ∷ rest
      split = taken ∙ ap (λ (o : Option (MachineId × C)). option_to_list o ++ rest) one

      -- one was, and there is a place for it, and a number
      pub has_place : 0 < outgoing.reserved
      has_place = omega (arith, ap length split, so_far.reserved)

      pub has_number : outgoing.outbox.next_number < 2 ^ 63
      has_number = omega (arith, ap length split, so_far.numbers)

      -- it is sent
      pub one_sent : (after : OutgoingState C) → after.outbox ≡ with_sent sender outgoing.outbox ((target, content) ∷ []) → after.reserved + 1 ≡ outgoing.reserved
          → SentSoFar after rest
      one_sent after sent fewer =
          let next : after.outbox.next_number ≡ outgoing.outbox.next_number + 1 = ap (λ (o : Outbox C). o.next_number) sent in
          record {
            all = ap (λ (o : Outbox C). with_sent sender o rest) sent
                ∙ (sym (with_sent-cons sender outgoing.outbox (target, content) rest) ∙ (ap (λ (l : List (MachineId × C)). with_sent sender outgoing.outbox l) (sym split) ∙ so_far.all));
            reserved = omega (arith, ap length split, so_far.reserved, fewer);
            numbers = omega (arith, ap length split, so_far.numbers, next);
          }
