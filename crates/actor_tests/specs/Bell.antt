-- What a bell does with each wish.
use Rattle.std.specs.Prelude.{ℕ, ◌+◌, ◌-◌, ◌^◌, min, None, [], ◌∷◌}
use Rattle.st_events.specs.declared.action.Action.TheVariants.{Send, Set}
use Rattle.st_events.specs.declared.machine_id.MachineId.{MachineId}
use Rattle.st_events.specs.declared.outcome.Outcome.{Outcome}
use Rattle.st_events.specs.declared.outcome.Outcome.TheVariants as outcome
use Rattle.st_events.specs.declared.time.Time.TheVariants.{After}
use Rattle.st_events.specs.declared.timer.Timer.TheVariants.{State as StateTimer}
use Rattle.actor_tests.specs.declared.tone.Tone.{Tone}
use Rattle.actor_tests.specs.declared.tone.Tone.TheVariants as tone
use Rattle.actor_tests.specs.declared.wish.Wish.{Wish}
use Rattle.actor_tests.specs.declared.wish.Wish.TheVariants as wish

-- the bell's neighbour
abbrev pub neighbour : MachineId
neighbour = record { slot = 2; serial = 1 }

-- it is told to ring
abbrev pub rung : Tone → ℕ → Outcome Tone ℕ Wish
rung tone.Quiet held = outcome.NextState tone.Ringing held (Set StateTimer (After 20) wish.Hush ∷ [])
rung tone.Ringing held = outcome.KeepStateAndData []

-- it is told to be quiet
abbrev pub hushed : Tone → ℕ → Outcome Tone ℕ Wish
hushed tone.Quiet held = outcome.KeepStateAndData []
hushed tone.Ringing held = outcome.NextState tone.Quiet (min (held + 1) (2 ^ 32 - 1)) []

-- it is told something
abbrev pub handled : Wish → Tone → ℕ → Outcome Tone ℕ Wish
handled wish.Ring state held = rung state held
handled wish.Hush state held = hushed state held
handled wish.Tell state held = outcome.KeepStateAndData (Send neighbour wish.Ring ∷ [])
handled wish.Part state held = outcome.Stop 7 None
