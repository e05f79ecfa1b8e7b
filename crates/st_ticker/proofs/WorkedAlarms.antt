-- The definitions computed on an example: two machines that are to be visited.
use Rattle.std.proofs.Common.{◌≡◌, ℕ, true, false, List, [], ◌∷◌, refl}
use Rattle.st_events.specs.declared.machine_id.MachineId.{MachineId}
use Rattle.st_due.specs.declared.due_machine.DueMachine.{DueMachine}
use Rattle.st_due.specs.Machines.{before}
use Rattle.st_ticker.specs.declared.next.Next.TheVariants as next
use Rattle.st_ticker.specs.Alarms.{with_visit, next_of, noted_after}

-- the machine of a serial in a slot
abbrev machine : ℕ → ℕ → MachineId
machine slot serial = record { slot = slot; serial = serial }

-- that machine, to be visited at a moment
abbrev visit : ℕ → ℕ → ℕ → DueMachine
visit moment slot serial = record { moment = moment; machine = machine slot serial }

-- one at 10, and another at 30
abbrev two : List DueMachine
two = visit 10 6 3 ∷ visit 30 4 1 ∷ []

-- ---- a visit that is earlier than the one that is noted takes its place, and a later one does not
earlier : with_visit (machine 4 1) 5 two ≡ visit 5 4 1 ∷ visit 10 6 3 ∷ []
unfolding before
earlier = refl

later : with_visit (machine 4 1) 40 two ≡ two
later = refl

another : with_visit (machine 4 2) 20 two ≡ visit 10 6 3 ∷ visit 20 4 2 ∷ visit 30 4 1 ∷ []
unfolding before
another = refl

-- ---- before the first visit one sleeps so long; from its moment on it is made, and not noted any more
early : next_of false 4 two ≡ next.Doze 6
early = refl

nothing_taken : noted_after false 4 two ≡ two
nothing_taken = refl

due : next_of false 10 two ≡ next.Visit (machine 6 3)
due = refl

taken : noted_after false 10 two ≡ visit 30 4 1 ∷ []
taken = refl

-- ---- with nothing noted one sleeps, and who is to end ends whatever is noted
nothing : next_of false 10 [] ≡ next.Sleep
nothing = refl

ends : next_of true 10 two ≡ next.End
ends = refl
