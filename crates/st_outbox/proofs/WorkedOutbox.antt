-- The definitions computed on an example: a machine sends to two others, a message is taken out, and it sends to itself.
use Rattle.std.proofs.Common.{◌≡◌, ℕ, ◌-◌, ◌^◌, true, false, List, [], ◌∷◌, refl}
use Rattle.std.specs.Prelude.{Some, None}
use Rattle.st_events.specs.declared.machine_id.MachineId.{MachineId}
use Rattle.st_events.specs.declared.message.Message.{Message}
use Rattle.st_outbox.specs.declared.outbox.Outbox.{Outbox}
use Rattle.st_outbox.specs.Outbox.{first_outbox, with_sent, has_message_numbers, first_message, has_messages, taken_out}

-- the machine of a serial
abbrev machine : ℕ → MachineId
machine serial = record { slot = 2; serial = serial }

-- a message of the machine of the serial 1
abbrev message : ℕ → ℕ → ℕ → Message ℕ
message number serial content = record { sender = machine 1; number = number; target = machine serial; content = content }

abbrev outbox_of : List (Message ℕ) → ℕ → Outbox ℕ
outbox_of messages next = record { messages = messages; next_number = next }

-- ---- it sends 50 and 60 to two others, and then takes out what it sent first
sent : with_sent (machine 1) first_outbox ((machine 2, 50) ∷ (machine 3, 60) ∷ []) ≡ outbox_of (message 1 2 50 ∷ message 2 3 60 ∷ []) 3
sent = refl

first : first_message (message 1 2 50 ∷ message 2 3 60 ∷ []) ≡ Some (message 1 2 50)
first = refl

left : taken_out (outbox_of (message 1 2 50 ∷ message 2 3 60 ∷ []) 3) ≡ outbox_of (message 2 3 60 ∷ []) 3
left = refl

-- ---- what is sent later goes behind, also to itself, and numbers are not used again
sent_on : with_sent (machine 1) (outbox_of (message 2 3 60 ∷ []) 3) ((machine 1, 70) ∷ []) ≡ outbox_of (message 2 3 60 ∷ message 3 1 70 ∷ []) 4
sent_on = refl

sent_anew : with_sent (machine 1) (outbox_of [] 4) ((machine 2, 80) ∷ []) ≡ outbox_of (message 4 2 80 ∷ []) 5
sent_anew = refl

-- ---- where nothing waits, nothing is taken out
none : first_message {C = ℕ} [] ≡ None
none = refl

none_waits : has_messages {C = ℕ} [] ≡ false
none_waits = refl

none_left : taken_out (outbox_of [] 4) ≡ outbox_of [] 4
none_left = refl

-- ---- the last number is 2^63 - 1
last : has_message_numbers (outbox_of [] (2 ^ 63 - 1)) ((machine 2, 50) ∷ []) ≡ true
last = refl

none_after : has_message_numbers (outbox_of [] (2 ^ 63 - 1)) ((machine 2, 50) ∷ (machine 2, 60) ∷ []) ≡ false
none_after = refl
