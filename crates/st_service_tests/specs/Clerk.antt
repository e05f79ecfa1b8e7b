-- What a clerk does with each order.
use Rattle.std.specs.Prelude.{ℕ, ◌+◌, ◌-◌, ◌^◌, min, true, List, [], ◌∷◌, ◌++◌}
use Rattle.st_events.specs.declared.action.Action.{Action}
use Rattle.st_events.specs.declared.action.Action.TheVariants.{Reply, Postpone, NextEvent, Send, Set}
use Rattle.st_events.specs.declared.kind.Kind.{Kind}
use Rattle.st_events.specs.declared.kind.Kind.TheVariants.{Call, Cast, Info, Timeout, Internal}
use Rattle.st_events.specs.declared.machine_id.MachineId.{MachineId}
use Rattle.st_events.specs.declared.outcome.Outcome.{Outcome}
use Rattle.st_events.specs.declared.outcome.Outcome.TheVariants as outcome
use Rattle.st_events.specs.declared.time.Time.TheVariants.{After}
use Rattle.st_events.specs.declared.timer.Timer.TheVariants.{Named}
use Rattle.st_service_tests.specs.declared.order.Order.{Order}
use Rattle.st_service_tests.specs.declared.order.Order.TheVariants as order
use Rattle.st_service_tests.specs.declared.window.Window.{Window}
use Rattle.st_service_tests.specs.declared.window.Window.TheVariants as window

-- a number is added where the window is open, and else the order waits
abbrev pub added : Window → ℕ → ℕ → Outcome Window ℕ Order
added window.Open held more = outcome.KeepState (min (held + more) (2 ^ 32 - 1)) []
added window.Shut held more = outcome.KeepStateAndData (Postpone true ∷ [])

-- who asks by a call gets the sum
abbrev pub answers : Kind → ℕ → List (Action Order)
answers (Call tag) held = Reply tag (order.Sum held) ∷ []
answers Cast held = []
answers Info held = []
answers (Timeout timer) held = []
answers Internal held = []

-- what a clerk of this id does
abbrev pub handled : MachineId → Kind → Order → Window → ℕ → Outcome Window ℕ Order
handled own kind (order.Add more) state held = added state held more
handled own kind order.Ask state held = outcome.KeepStateAndData (answers kind held)
handled own kind (order.Take more) state held = outcome.KeepStateAndData (answers kind held ++ NextEvent Internal (order.Add more) ∷ [])
handled own kind (order.Sum sum) state held = outcome.KeepStateAndData []
handled own kind order.Shut state held = outcome.NextState window.Shut held []
handled own kind order.Open state held = outcome.NextState window.Open held []
handled own kind (order.Tell to) state held = outcome.KeepStateAndData (Send to order.Open ∷ [])
handled own kind order.Bounce state held = outcome.KeepStateAndData (Send own order.Bounce ∷ [])
handled own kind order.Spin state held = outcome.KeepStateAndData (NextEvent Internal order.Spin ∷ [])
handled own kind (order.Later time) state held = outcome.KeepStateAndData (Set (Named 1) (After time) (order.Add 1) ∷ [])
