-- What is sent one after another is sent at once; its numbers; and an outbox that can come about is followed by one that can.
use Rattle.std.proofs.Common.{◌≡◌, ℕ, suc, ◌+◌, ◌≤◌, ◌^◌, List, [], ◌∷◌, ◌++◌, length, refl, sym, ap, subst, append_assoc, append-nil, arith}
use Rattle.std.specs.List.{range_with_len}
use Rattle.st_events.specs.declared.machine_id.MachineId.{MachineId}
use Rattle.st_events.specs.declared.message.Message.{Message}
use Rattle.st_outbox.specs.declared.outbox.Outbox.{Outbox}
use Rattle.st_outbox.specs.Outbox.{first_outbox, message_numbers, messages_from, with_sent, without_message, taken_out, AreSentBy, AreFrom, IsLawfulOutbox}

-- nothing was sent: that can be, whoever the machine is
pub lawful_first : {C : Type 0} (sender : MachineId) → IsLawfulOutbox {C = C} sender first_outbox
lawful_first sender = record { first = 1; numbered = refl; bounded = omega arith }

module _ {C : Type 0} where
  abbrev outbox_of : List (Message C) → ℕ → Outbox C
  outbox_of messages number = record { messages = messages; next_number = number }

  -- outboxes are equal where their messages are, and their next numbers
  outbox_is : (messages others : List (Message C)) (number next : ℕ) → messages ≡ others → number ≡ next → outbox_of messages number ≡ outbox_of others next
  outbox_is messages others number next same is = rw (same, is) refl

  -- ---- what is sent
  -- who sends nothing leaves the outbox as it was
  pub with_sent-nothing : (sender : MachineId) (outbox : Outbox C) → with_sent sender outbox [] ≡ outbox
  with_sent-nothing sender outbox = outbox_is _ outbox.messages _ outbox.next_number (append-nil outbox.messages) (omega arith)

  -- to send some is to send the first and then the others
  pub with_sent-cons : (sender : MachineId) (outbox : Outbox C) (send : MachineId × C) (sends : List (MachineId × C))
      → with_sent sender outbox (send ∷ sends) ≡ with_sent sender (with_sent sender outbox (send ∷ [])) sends
  with_sent-cons sender outbox send sends =
      outbox_is _ _ _ _ (sym (append_assoc outbox.messages _ (messages_from sender (outbox.next_number + 1) sends))) (omega arith)

  -- as many messages come of what is sent
  pub length-messages_from : (sender : MachineId) (number : ℕ) (sends : List (MachineId × C)) → length (messages_from sender number sends) ≡ length sends
  length-messages_from sender number [] = refl
  length-messages_from sender number (send ∷ sends) = ap suc (length-messages_from sender (number + 1) sends)

  -- their numbers follow each other
  pub numbers_sent : (sender : MachineId) (number : ℕ) (sends : List (MachineId × C))
      → message_numbers (messages_from sender number sends) ≡ range_with_len number (length sends)
  numbers_sent sender number [] = refl
  numbers_sent sender number (send ∷ sends) = ap (λ (numbers : List ℕ). number ∷ numbers) (numbers_sent sender (number + 1) sends)

  -- what a machine sends is its own
  pub sent_own : (sender : MachineId) (number : ℕ) (sends : List (MachineId × C)) → AreFrom sender (messages_from sender number sends)
  sent_own sender number [] = tt
  sent_own sender number (send ∷ sends) = (refl, sent_own sender (number + 1) sends)

  -- ---- outboxes that can come about
  -- what is sent stands behind what was sent, numbered on
  numbered_on : (sender : MachineId) (number next : ℕ) (messages : List (Message C)) (sends : List (MachineId × C)) → AreSentBy sender number messages next
      → AreSentBy sender number (messages ++ messages_from sender next sends) (next + length sends)
  numbered_on sender number next [] [] of = omega (arith, of)
  numbered_on sender number next [] (send ∷ sends) of =
      let more : next + 1 + length sends ≡ next + length (send ∷ sends) = omega arith in (
        refl,
        sym of,
        subst (λ (n : ℕ). AreSentBy sender (number + 1) (messages_from sender (next + 1) sends) n) more
            (numbered_on sender (number + 1) (next + 1) [] sends (ap (λ (n : ℕ). n + 1) of)),
      )
  numbered_on sender number next (message ∷ messages) sends of = (of.0, of.1, numbered_on sender (number + 1) next messages sends of.2)

  -- a machine sends, and there are numbers enough
  pub lawful_sent : (sender : MachineId) (outbox : Outbox C) (sends : List (MachineId × C)) → outbox.next_number + length sends ≤ 2 ^ 63
      → IsLawfulOutbox sender outbox → IsLawfulOutbox sender (with_sent sender outbox sends)
  lawful_sent sender outbox sends enough law = record {
    first = law.first;
    numbered = numbered_on sender law.first outbox.next_number outbox.messages sends law.numbered;
    bounded = enough;
  }

  -- the first of these messages leaves
  rest_lawful : (sender : MachineId) (outbox : Outbox C) (messages : List (Message C)) (number : ℕ) → AreSentBy sender number messages outbox.next_number
      → outbox.next_number ≤ 2 ^ 63 → IsLawfulOutbox sender (record outbox { messages = without_message messages })
  rest_lawful sender outbox [] number of bounded = record { first = number; numbered = of; bounded = bounded }
  rest_lawful sender outbox (message ∷ messages) number of bounded = record { first = number + 1; numbered = of.2; bounded = bounded }

  -- a message is taken out, if there is one
  pub lawful_taken_out : (sender : MachineId) (outbox : Outbox C) → IsLawfulOutbox sender outbox → IsLawfulOutbox sender (taken_out outbox)
  lawful_taken_out sender outbox law = rest_lawful sender outbox outbox.messages law.first law.numbered law.bounded
