-- Described machines, as their callers see them.
use Rattle.std.specs.Prelude.{◌≡◌, ◌⊎◌, ◌-◌, ◌^◌, ℕ, ◌+◌, List, Ok, Err}
use Rattle.st_core.specs.Callbacks.{Callbacks, callbacks_of}
use Rattle.st_core.specs.MachineState.{Machine}
use Rattle.st_core.specs.Start.{Starts, start_of}
use Rattle.st_core.specs.declared.start.Start.{Start}
use Rattle.st_core.specs.declared.start.Start.TheVariants as start
use Rattle.st_embedded.specs.Table.{Puts}
use Rattle.st_embedded.specs.declared.described_calls.Begun.{Begun}
use Rattle.st_embedded.specs.declared.described_calls.Begun.TheVariants.{Running, Ignored, Stopped}
use Rattle.st_embedded.specs.declared.machines.Machines.{Machines}
use Rattle.st_events.specs.declared.refusal.Refusal.{Refusal}
use Rattle.st_events.specs.declared.refusal.Refusal.TheVariants.{Full, NoMemory}
use Rattle.st_table.specs.declared.interpreter.Interpreter.{Interpreter}
use Rattle.st_table.specs.declared.place.Place.{Place}
use Rattle.st_table.specs.declared.signal.Signal.{Signal}
use Rattle.st_table.specs.declared.value.Value.{Value}
use Rattle.st_table.specs.contracts.interpreter.InterpreterModule.TheImpl.{ghosts}
use Rattle.st_table.specs.contracts.place.PlacePartialEq.TheImpl.{ghosts as places}

-- a machine of a description
abbrev pub Described : Type 0
Described = Machine Interpreter Place (List Value) Signal

-- what a description says, as callbacks
abbrev pub described_callbacks : Interpreter → Callbacks Place (List Value) Signal
described_callbacks = callbacks_of ghosts places.eq

-- the start of a machine of a number, with values, at a moment, comes to this
abbrev pub ComesTo : Interpreter → List Value → ℕ → ℕ → Start Interpreter Place (List Value) Signal (List Value) → Type 0
ComesTo interpreter values number now came =
    Starts {A = List Value} interpreter (Ok came)
    (start_of (described_callbacks interpreter) interpreter (record { slot = 0; serial = number }) (ghosts.init_is interpreter values) now 1)

-- and so does the table: there is a machine of the next number; or there is none, and each is as it was
abbrev pub Begins : Interpreter → List Value → ℕ → Machines → Begun → Machines → Type 0
Begins interpreter values now old (Running number report) new =
    (number ≡ old.next_id)
    × ((after : Described) × ComesTo interpreter values number now (start.Running after report) × Puts old.described new.described number after)
    × (new ≡ record old { described = new.described; next_id = old.next_id + 1 })
Begins interpreter values now old Ignored new = ComesTo interpreter values old.next_id now start.Ignored × (new ≡ old)
Begins interpreter values now old (Stopped reason) new = ComesTo interpreter values old.next_id now (start.Stopped reason) × (new ≡ old)

-- why there is no such start: no number is left, there is no memory, or the start itself is refused
abbrev pub WhyNotBegun : Interpreter → List Value → ℕ → ℕ → Refusal → Type 0
WhyNotBegun interpreter values number now refusal =
    ((refusal ≡ Full) × (number ≡ 2 ^ 64 - 1)) ⊎ (refusal ≡ NoMemory)
    ⊎ ((given_back : Interpreter)
    × Starts {A = List Value} interpreter (Err (record { refusal = refusal; value = given_back }))
    (start_of (described_callbacks interpreter) interpreter (record { slot = 0; serial = number }) (ghosts.init_is interpreter values) now 1))
