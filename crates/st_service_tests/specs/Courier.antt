-- What a courier does with a number.
use Rattle.std.specs.Prelude.{ℕ, ◌+◌, ◌*◌, ◌-◌, ◌^◌, ◌==◌, if◌then◌else◌, min, List, [], ◌∷◌}
use Rattle.st_events.specs.declared.action.Action.{Action}
use Rattle.st_events.specs.declared.action.Action.TheVariants.{Send}
use Rattle.st_events.specs.declared.kind.Kind.{Kind}
use Rattle.st_events.specs.declared.kind.Kind.TheVariants.{Call, Cast, Info, Timeout, Internal}
use Rattle.st_events.specs.declared.machine_id.MachineId.{MachineId}
use Rattle.st_events.specs.declared.outcome.Outcome.{Outcome}
use Rattle.st_events.specs.declared.outcome.Outcome.TheVariants.{NextState, KeepStateAndData}

-- a number that came is sent on, one less, unless it is 0
abbrev pub sent_on : MachineId → ℕ → List (Action ℕ)
sent_on to number = if number == 0 then [] else Send to (number - 1) ∷ []

-- a sum over numbers in which each counts thrice as much as the next one
abbrev pub summed : ℕ → ℕ → ℕ
summed sum number = min (min (sum * 3) (2 ^ 64 - 1) + number) (2 ^ 64 - 1)

-- what a courier does whose messages go to this machine
abbrev pub carried : MachineId → Kind → ℕ → ℕ → ℕ → Outcome ℕ ℕ ℕ
carried to (Call tag) number count sum = KeepStateAndData []
carried to Cast number count sum = KeepStateAndData (Send to number ∷ [])
carried to Info number count sum = NextState (min (count + 1) (2 ^ 32 - 1)) (summed sum number) (sent_on to number)
carried to (Timeout timer) number count sum = KeepStateAndData []
carried to Internal number count sum = KeepStateAndData []
