-- The definitions computed on an example: two machines of one slot, and one of another.
use Rattle.std.proofs.Common.{◌≡◌, ℕ, false, List, [], ◌∷◌, refl}
use Rattle.std.specs.Prelude.{Some, None}
use Rattle.st_events.specs.declared.machine_id.MachineId.{MachineId}
use Rattle.st_due.specs.declared.due_machine.DueMachine.{DueMachine}
use Rattle.st_due.specs.Machines.{Noted, before, same_machine, moment_of, with_noted, without_noted, first_moment, due_by, left_by}

-- the machine of a serial in a slot
abbrev machine : ℕ → ℕ → MachineId
machine slot serial = record { slot = slot; serial = serial }

-- that machine, due at a moment
abbrev due : ℕ → ℕ → ℕ → DueMachine
due moment slot serial = record { moment = moment; machine = machine slot serial }

abbrev noted : List DueMachine → ℕ → Noted
noted machines reserved = record { machines = machines; reserved = reserved }

-- ---- the first takes a place that was reserved, and an earlier one goes before it
one : with_noted (noted [] 3) (machine 4 1) 20 ≡ noted (due 20 4 1 ∷ []) 2
one = refl

earlier : with_noted (noted (due 20 4 1 ∷ []) 2) (machine 6 3) 10 ≡ noted (due 10 6 3 ∷ due 20 4 1 ∷ []) 1
unfolding before
earlier = refl

-- ---- a second note replaces the first, be it later or earlier, and takes no place
later : with_noted (noted (due 10 6 3 ∷ due 20 4 1 ∷ []) 1) (machine 6 3) 30 ≡ noted (due 20 4 1 ∷ due 30 6 3 ∷ []) 1
unfolding before
later = refl

earlier_again : with_noted (noted (due 20 4 1 ∷ due 30 6 3 ∷ []) 1) (machine 6 3) 5 ≡ noted (due 5 6 3 ∷ due 20 4 1 ∷ []) 1
unfolding before
earlier_again = refl

-- ---- the same slot with another serial is another machine
other_serial : same_machine (machine 4 1) (machine 4 2) ≡ false
other_serial = refl

both : with_noted (noted (due 20 4 2 ∷ []) 1) (machine 4 1) 25 ≡ noted (due 20 4 2 ∷ due 25 4 1 ∷ []) 0
unfolding before
both = refl

-- ---- of one moment the lower slot comes first, and of one slot the lower serial
by_slot : with_noted (noted (due 20 4 2 ∷ due 20 6 1 ∷ []) 1) (machine 5 9) 20 ≡ noted (due 20 4 2 ∷ due 20 5 9 ∷ due 20 6 1 ∷ []) 0
unfolding before
by_slot = refl

by_serial : with_noted (noted (due 20 4 2 ∷ []) 1) (machine 4 1) 20 ≡ noted (due 20 4 1 ∷ due 20 4 2 ∷ []) 0
unfolding before
by_serial = refl

-- ---- a machine that is forgotten is there no more, and all others stay
forgotten : without_noted (noted (due 20 4 1 ∷ due 30 6 3 ∷ []) 1) (machine 4 1) ≡ noted (due 30 6 3 ∷ []) 1
forgotten = refl

forgotten_other : without_noted (noted (due 20 4 1 ∷ due 30 6 3 ∷ []) 1) (machine 4 2) ≡ noted (due 20 4 1 ∷ due 30 6 3 ∷ []) 1
forgotten_other = refl

moment : moment_of (machine 6 3) (due 20 4 1 ∷ due 30 6 3 ∷ []) ≡ Some 30
moment = refl

no_moment : moment_of (machine 6 4) (due 20 4 1 ∷ due 30 6 3 ∷ []) ≡ None
no_moment = refl

-- ---- the first is taken out at its moment, and not before
first : first_moment (due 20 4 1 ∷ due 30 6 3 ∷ []) ≡ Some 20
first = refl

not_yet : due_by 19 (due 20 4 1 ∷ due 30 6 3 ∷ []) ≡ None
not_yet = refl

stays : left_by 19 (due 20 4 1 ∷ due 30 6 3 ∷ []) ≡ due 20 4 1 ∷ due 30 6 3 ∷ []
stays = refl

now : due_by 20 (due 20 4 1 ∷ due 30 6 3 ∷ []) ≡ Some (due 20 4 1)
now = refl

left : left_by 20 (due 20 4 1 ∷ due 30 6 3 ∷ []) ≡ due 30 6 3 ∷ []
left = refl

none_due : due_by 20 [] ≡ None
none_due = refl
