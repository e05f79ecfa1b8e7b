-- A cell is served: its first message is taken out; where it has none, it is given a turn.
use Rattle.std.specs.Prelude.{◌≡◌, ℕ, Option, Some, None, Result, Ok, Err}
use Rattle.st_events.specs.declared.message.Message.{Message}
use Rattle.st_events.specs.declared.refused.Refused.{Refused}
use Rattle.st_events.specs.declared.token.Token.{Token}
use Rattle.st_core.specs.Callbacks.{Callbacks}
use Rattle.st_cell.specs.Calls.{TakesOut, Turns}
use Rattle.st_cell.specs.Cell.{CellState}
use Rattle.st_scheduled.specs.declared.next.Next.{Next}
use Rattle.st_lock_inner.specs.declared.service.Service.{Service}
use Rattle.st_lock_inner.specs.declared.service.Service.TheVariants.{Sent, Turned}

-- what is told of a turn
abbrev pub turned_as : {C : Type 0} → Result Next (Refused Token) → Result (Service C) (Refused Token)
turned_as (Ok next) = Ok (Turned next)
turned_as (Err refused) = Err refused

module _ {M S D C : Type 0} (callbacks : M → Callbacks S D C) where
  -- what follows a take-out that answered so and left this cell: a turn, where there was no message
  abbrev pub ServesAfter : Result (Option (Message C)) (Refused Token) → CellState M S D C → Token → ℕ → Result (Service C) (Refused Token) → CellState M S D C → Type 0
  ServesAfter (Ok (Some message)) left token now result new = (result ≡ Ok (Sent message)) × (new ≡ left)
  ServesAfter (Ok None) left token now result new =
      (turned : Result Next (Refused Token)) × Turns callbacks left token now turned new × (result ≡ turned_as turned)
  ServesAfter (Err refused) left token now result new = (result ≡ Err refused) × (new ≡ left)

  -- a cell is served by a token at a moment
  abbrev pub Serves : CellState M S D C → Token → ℕ → Result (Service C) (Refused Token) → CellState M S D C → Type 0
  Serves old token now result new =
      (taken : Result (Option (Message C)) (Refused Token)) × (left : CellState M S D C)
      × TakesOut callbacks old token taken left × ServesAfter taken left token now result new
