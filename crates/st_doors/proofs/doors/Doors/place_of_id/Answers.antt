use Rattle.std.proofs.Common.{rules, ◌≡◌, ◌≢◌, ◌∙◌, ap, sym, get_or}
use Rattle.st_events.specs.declared.machine_id.MachineId.{MachineId}
use Rattle.st_doors.specs.Numbers.{doors_of_numbered, has_number}
use Rattle.st_doors.proofs.DoorLemmas.{if_none}
use Rattle.st_doors.proofs.IdleLemmas.{no_door}
use Rattle.st_doors.proofs.NumberLemmas.{numbers-rise, numbered-within, id-place, id-missing, id-apart}
use Rattle.st_doors.proofs.doors.Doors.place_of_id.Goals as goal

-- the numbers of the table rise
pub place_of-requires : goal.place_of-requires
place_of-requires c = numbers-rise 0 c.self.inside.entries c.self.inside.next c.self.invariant.1

-- no door has the serial
pub returns-in_err-place-clause-missing : goal.returns-in_err-place-clause-missing
returns-in_err-place-clause-missing c = if_none _ c.from_residual.result (λ _. rw (← c.self.view_is) (id-missing c.args.id c.self.inside.entries c.self.invariant.2 c.in_err-place.ensures.missing))

pub id_at-requires : goal.id_at-requires
id_at-requires c = rw (← c.self.view_is) (numbered-within (has_number c.args.id.serial) c.self.inside.entries c.in_ok-place.place c.in_ok-place.ensures.place)

-- the door with the serial is in the id's place of the table
pub returns-then-id_at-id-clause-place : goal.returns-then-id_at-id-clause-place
returns-then-id_at-id-clause-place c =
    let slot : c.id_at.result.slot ≡ c.args.id.slot = search rules in
    let here : c.id_at.result.slot ≡ (get_or c.args.self.now c.in_ok-place.place no_door).machine.id.slot = ap (λ (id : MachineId). id.slot) (c.id_at.ensures no_door) in
    let same : (get_or (doors_of_numbered c.self.inside.entries) c.in_ok-place.place no_door).machine.id.slot ≡ c.args.id.slot = rw c.self.view_is (sym here ∙ slot) in
    rw (← c.self.view_is) (id-place c.args.id c.self.inside.entries c.in_ok-place.place no_door c.self.invariant.2 c.in_ok-place.ensures.place same)

-- or in another
pub returns-else-id_at-id-clause-missing : goal.returns-else-id_at-id-clause-missing
returns-else-id_at-id-clause-missing c =
    let slot : c.id_at.result.slot ≢ c.args.id.slot = search rules in
    let here : c.id_at.result.slot ≡ (get_or c.args.self.now c.in_ok-place.place no_door).machine.id.slot = ap (λ (id : MachineId). id.slot) (c.id_at.ensures no_door) in
    let apart : (get_or (doors_of_numbered c.self.inside.entries) c.in_ok-place.place no_door).machine.id.slot ≢ c.args.id.slot =
    rw c.self.view_is (λ same. slot (here ∙ same)) in
    rw (← c.self.view_is)
    (id-apart 0 c.args.id c.self.inside.entries c.in_ok-place.place no_door c.self.invariant.2 (numbers-rise 0 c.self.inside.entries c.self.inside.next c.self.invariant.1) c.in_ok-place.ensures.place apart)
