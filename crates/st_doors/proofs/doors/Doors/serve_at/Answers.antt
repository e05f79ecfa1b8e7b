use Rattle.std.proofs.Common.{◌≡◌, get_or, set, ◌∙◌, sym, ap}
use Rattle.st_doors.specs.Doors.{NamedDoor, door_named}
use Rattle.st_doors.specs.Numbers.{doors_of_numbered, with_door}
use Rattle.st_doors.specs.Settling.{CanServe, command_for, message_from, served_door, served_kept, source_for}
use Rattle.st_doors.proofs.DoorLemmas.{on_ok, on_err, if_ok}
use Rattle.st_doors.proofs.IdleLemmas.{no_door}
use Rattle.st_doors.proofs.NumberLemmas.{number-changed, numbered-changed, numbered-at, told-at, doors-same, serials-changed}
use Rattle.st_doors.proofs.ToldLemmas.{id-after}
use Rattle.st_doors.proofs.doors.Doors.serve_at.Goals as goal

-- the door at the place can be served so
pub serve-requires : goal.serve-requires
serve-requires c =
    let here = numbered-at c.self.inside.entries c.args.place c.door_mut.result.now no_door c.door_mut.ensures.door in
    let can : CanServe c.args.service (get_or (doors_of_numbered c.self.inside.entries) c.args.place no_door).machine = rw c.self.view_is (c.requires.can no_door) in
    rw (ap (λ (door : NamedDoor). door.machine) here) at can

-- the door has its name, its number and its id still
pub invariant_of-self : goal.invariant_of-self
invariant_of-self c =
    let entries = c.self.inside.entries in (
      λ name. c.self.invariant.0 name ∙ sym (number-changed entries c.args.place c.serve.new.self name),
      numbered-changed 0 entries c.self.inside.next c.args.place c.serve.new.self c.self.invariant.1,
      serials-changed entries c.args.place c.door_mut.result.now c.serve.new.self c.door_mut.ensures.door
          (id-after c.serve.result c.serve.new.self c.door_mut.result.now (source_for c.args.service) (command_for c.args.service) c.serve.ensures.served c.serve.ensures.unchanged)
          c.self.invariant.2,
    )

-- the message is that of the door at the place
pub returns-clause-message : goal.returns-clause-message
returns-clause-message c = if_ok (λ message. message ≡ message_from c.args.service c.door_mut.result.now.machine)
    (λ message. (d : NamedDoor) → message ≡ message_from c.args.service (get_or c.args.self.now c.args.place d).machine) c.serve.result
    (λ message same d.
    let here : get_or c.args.self.now c.args.place d ≡ door_named (get_or c.args.self.now c.args.place d).name c.door_mut.result.now =
    rw (← c.self.view_is) (numbered-at c.self.inside.entries c.args.place c.door_mut.result.now d c.door_mut.ensures.door) in
    same ∙ sym (ap (λ (door : NamedDoor). message_from c.args.service door.machine) here))
    c.serve.ensures.message

-- the door at the place was served
pub returns-clause-served : goal.returns-clause-served
returns-clause-served c = on_ok (c.serve.new.self ≡ served_kept c.args.service c.door_mut.result.now)
    ((d : NamedDoor) → doors_of_numbered (with_door c.self.inside.entries c.args.place c.serve.new.self) ≡ set c.args.self.now c.args.place (served_door c.args.service (get_or c.args.self.now c.args.place d)))
    c.serve.result
    (λ served d. rw (← c.self.view_is) (told-at c.self.inside.entries c.args.place c.door_mut.result.now c.serve.new.self d (source_for c.args.service) (command_for c.args.service) c.door_mut.ensures.door served))
    c.serve.ensures.served

-- the door is as it was
pub returns-clause-unchanged : goal.returns-clause-unchanged
returns-clause-unchanged c = on_err _ _ c.serve.result (λ unchanged.
    doors-same c.self.inside.entries c.args.place c.door_mut.result.now c.serve.new.self c.door_mut.ensures.door unchanged ∙ c.self.view_is)
    c.serve.ensures.unchanged
