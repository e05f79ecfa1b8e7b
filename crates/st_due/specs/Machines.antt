-- Machines in the order in which they are due, and what each call makes of them.
use Rattle.std.specs.Prelude.{◌≡◌, ℕ, ◌-◌, Bool, true, not, ◌&&◌, ◌||◌, ◌==◌, nat_lt, nat_le, if◌then◌else◌, Option, Some, None, is_some, List, [], ◌∷◌, filter}
use Rattle.st_events.specs.declared.machine_id.MachineId.{MachineId}
use Rattle.st_due.specs.declared.due_machine.DueMachine.{DueMachine}

-- the machines that were noted, in the order in which they are due, and how many more are reserved for
pub record Noted : Type 0 where
  pub machines : List DueMachine
  pub reserved : ℕ

-- whether two machines are one: the slot is the same, and the serial
abbrev pub same_machine : MachineId → MachineId → Bool
same_machine one other = (one.slot == other.slot) && (one.serial == other.serial)

-- one comes before another: it is due earlier, or at the same moment and has the lower slot, or of the same slot the
-- lower serial
unfoldable pub before : DueMachine → DueMachine → Bool
before one other =
    nat_lt one.moment other.moment
    || ((one.moment == other.moment) && (nat_lt one.machine.slot other.machine.slot
    || ((one.machine.slot == other.machine.slot) && nat_lt one.machine.serial other.machine.serial)))

-- put in before the first that it comes before
abbrev pub put : DueMachine → List DueMachine → List DueMachine
put one [] = one ∷ []
put one (other ∷ others) =
    if before one other then one ∷ other ∷ others else other ∷ put one others

-- the moment of a machine, if it is there
abbrev pub moment_of : MachineId → List DueMachine → Option ℕ
moment_of machine [] = None
moment_of machine (one ∷ others) = if same_machine machine one.machine then Some one.moment else moment_of machine others

-- without a machine
abbrev pub without : MachineId → List DueMachine → List DueMachine
without machine machines = filter (λ (one : DueMachine). not (same_machine machine one.machine)) machines

-- a machine is due at a moment, and at no other; one that was not there takes a place of those that are reserved
abbrev pub with_noted : Noted → MachineId → ℕ → Noted
with_noted old machine moment = record {
  machines = put (record { moment = moment; machine = machine }) (without machine old.machines);
  reserved = if is_some (moment_of machine old.machines) then old.reserved else old.reserved - 1;
}

-- a machine is not due any more
abbrev pub without_noted : Noted → MachineId → Noted
without_noted old machine = record old { machines = without machine old.machines }

-- the moment of the first
abbrev pub first_moment : List DueMachine → Option ℕ
first_moment [] = None
first_moment (one ∷ others) = Some one.moment

-- the first, where it is due by a moment
abbrev pub due_by : ℕ → List DueMachine → Option DueMachine
due_by now [] = None
due_by now (one ∷ others) = if nat_le one.moment now then Some one else None

-- those that are left once the first is taken out, where it is due by a moment
abbrev pub left_by : ℕ → List DueMachine → List DueMachine
left_by now [] = []
left_by now (one ∷ others) = if nat_le one.moment now then others else one ∷ others

-- one comes before all of them
abbrev pub BeforeAll : DueMachine → List DueMachine → Type 0
BeforeAll one [] = Unit {0}
BeforeAll one (other ∷ others) = (before one other ≡ true) × BeforeAll one others

-- each comes before all that stand behind it
abbrev pub InOrder : List DueMachine → Type 0
InOrder [] = Unit {0}
InOrder (one ∷ others) = BeforeAll one others × InOrder others

-- no machine is there twice
abbrev pub OnceEach : List DueMachine → Type 0
OnceEach [] = Unit {0}
OnceEach (one ∷ others) = (moment_of one.machine others ≡ None) × OnceEach others
