-- When machines are to be visited, and what a ticker's thread does next.
use Rattle.std.specs.Prelude.{ℕ, ◌-◌, Bool, true, false, if◌then◌else◌, nat_le, Option, Some, None, List, [], ◌∷◌}
use Rattle.st_events.specs.declared.machine_id.MachineId.{MachineId}
use Rattle.st_due.specs.declared.due_machine.DueMachine.{DueMachine}
use Rattle.st_due.specs.Machines.{moment_of, put, without}
use Rattle.st_ticker.specs.declared.next.Next.{Next}
use Rattle.st_ticker.specs.declared.next.Next.TheVariants as next

-- whether a moment is known that is as early as this one
abbrev pub is_known_by : ℕ → Option ℕ → Bool
is_known_by moment (Some known) = nat_le known moment
is_known_by moment None = false

-- a machine is to be visited at a moment, unless it is to be visited as early already
abbrev pub with_visit : MachineId → ℕ → List DueMachine → List DueMachine
with_visit machine moment machines =
    if is_known_by moment (moment_of machine machines) then machines
    else put (record { moment = moment; machine = machine }) (without machine machines)

-- with nothing noted one sleeps; else until the first is due, or it is visited
abbrev pub next_among : ℕ → List DueMachine → Next
next_among now [] = next.Sleep
next_among now (one ∷ others) = if nat_le one.moment now then next.Visit one.machine else next.Doze (one.moment - now)

-- what a thread does next at a moment, where it is to end or not
abbrev pub next_of : Bool → ℕ → List DueMachine → Next
next_of true now machines = next.End
next_of false now machines = next_among now machines

-- what is noted after that
abbrev pub noted_after : Bool → ℕ → List DueMachine → List DueMachine
noted_after true now machines = machines
noted_after false now [] = []
noted_after false now (one ∷ others) = if nat_le one.moment now then others else one ∷ others
