-- A tournament: of machines at places, the first.
use Rattle.std.specs.Prelude.{◌≡◌, ℕ, ◌+◌, ◌*◌, ◌<◌, ◌≤◌, if◌then◌else◌, Option, Some, None, List, [], ◌∷◌, length, get_or}
use Rattle.std.specs.Option.{option_map}
use Rattle.st_events.specs.declared.machine_id.MachineId.{MachineId}
use Rattle.st_due.specs.declared.contender.Contender.{Contender}
use Rattle.st_due.specs.declared.due_machine.DueMachine.{DueMachine}
use Rattle.st_due.specs.Machines.{before}

-- the machine that stands at a node, if there is one
abbrev pub seen : Contender → Option DueMachine
seen contender = option_map (λ (machine : MachineId). record { moment = contender.moment; machine = machine }) contender.machine

-- the one that comes first, if there is one
abbrev pub earlier : Option DueMachine → Option DueMachine → Option DueMachine
earlier None other = other
earlier (Some one) None = Some one
earlier (Some one) (Some other) = if before one other then Some one else Some other

-- the first of all
abbrev pub earliest : List (Option DueMachine) → Option DueMachine
earliest [] = None
earliest (one ∷ others) = earlier one (earliest others)

-- the node at a place
abbrev pub node_at : List (Option DueMachine) → ℕ → Option DueMachine
node_at nodes k = get_or nodes k None

-- a node is the first of the two below it
abbrev pub IsWon : List (Option DueMachine) → ℕ → Type 0
IsWon nodes k = node_at nodes k ≡ earlier (node_at nodes (2 * k)) (node_at nodes (2 * k + 1))

-- the nodes of a tournament with so many places: those below the places are won
pub record IsPlayed (nodes : List (Option DueMachine)) (places : ℕ) : Type 0 where
  pub counted : length nodes ≡ 2 * places
  pub won : (k : ℕ) → 1 ≤ k → k < places → IsWon nodes k
