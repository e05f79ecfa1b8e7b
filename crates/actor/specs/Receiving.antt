-- What comes of waiting for an event.
use Rattle.std.specs.Prelude.{◌≡◌, ℕ, ◌-◌, Option, Some, None, Result, Ok, Err}
use Rattle.st_answers.specs.declared.answer.Answer.TheVariants as answer
use Rattle.st_answers.specs.declared.command.Command.TheVariants as command
use Rattle.st_core.specs.Callbacks.{Callbacks}
use Rattle.st_core.specs.MachineState.{Machine}
use Rattle.st_core.specs.Run.{Does}
use Rattle.actor.specs.declared.event.Event.{Event}
use Rattle.actor.specs.declared.next.Next.{Next}
use Rattle.actor.specs.declared.next.Next.TheVariants as next
use Rattle.actor.specs.declared.served.Served.{Served}
use Rattle.actor.specs.declared.served.Served.TheVariants as served
use Rattle.actor.specs.declared.unserved.Unserved.{Unserved}

-- for so long is waited at a moment, where the next time-out is due then, if one is
abbrev pub left_until : Option ℕ → ℕ → Option ℕ
left_until None now = None
left_until (Some due) now = Some (due - now)

module _ {M S D C : Type 0} (callbacks : M → Callbacks S D C) where
  -- this event was posted; or that was refused, the event comes back, and nothing changed
  abbrev pub Posts : Event C → Machine M S D C → Result (Option Served) (Unserved C) → Machine M S D C → Type 0
  Posts event old (Ok end) new =
      (end ≡ None) × ((number : ℕ) × Does callbacks old (command.Post event.entry event.content) (answer.Post (Ok number)) new)
  Posts event old (Err unserved) new = (unserved.event ≡ Some event) × (new ≡ old)

  -- what comes of what waiting gave: the event is posted; or so long was waited, and nothing is done; or nobody sends any more
  abbrev pub Receives : Next C → Machine M S D C → Result (Option Served) (Unserved C) → Machine M S D C → Type 0
  Receives (next.Event event) old result new = Posts event old result new
  Receives next.Due old result new = (result ≡ Ok None) × (new ≡ old)
  Receives next.Left old result new = (result ≡ Ok (Some served.Left)) × (new ≡ old)
