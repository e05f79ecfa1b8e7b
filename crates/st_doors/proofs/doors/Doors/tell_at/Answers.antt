use Rattle.std.proofs.Common.{◌≡◌, get_or, set, sym, ◌∙◌}
use Rattle.st_core.specs.Run.{step_of}
use Rattle.st_doors.specs.Doors.{NamedDoor, door_callbacks, source_of, told_of, told_door, told_kept}
use Rattle.st_doors.specs.Numbers.{doors_of_numbered, with_door}
use Rattle.st_doors.proofs.DoorLemmas.{on_ok, on_err, if_ok}
use Rattle.st_doors.proofs.NumberLemmas.{number-changed, numbered-changed, answered-at, told-at, doors-same, serials-changed}
use Rattle.st_doors.proofs.ToldLemmas.{id-after}
use Rattle.st_doors.proofs.doors.Doors.tell_at.Goals as goal

-- the door has its name, its number and its id still
pub invariant_of-self : goal.invariant_of-self
invariant_of-self c =
    let entries = c.self.inside.entries in (
      λ name. c.self.invariant.0 name ∙ sym (number-changed entries c.args.place c.tell.new.self name),
      numbered-changed 0 entries c.self.inside.next c.args.place c.tell.new.self c.self.invariant.1,
      serials-changed entries c.args.place c.door_mut.result.now c.tell.new.self c.door_mut.ensures.door
          (id-after c.tell.result c.tell.new.self c.door_mut.result.now (source_of c.args.command) c.args.command c.tell.ensures.told c.tell.ensures.unchanged)
          c.self.invariant.2,
    )

-- the answer is that of the door at the place
pub returns-clause-answer : goal.returns-clause-answer
returns-clause-answer c = if_ok (λ answer. answer ≡ (step_of door_callbacks c.door_mut.result.now.machine c.args.command).0)
    (λ answer. (d : NamedDoor) → answer ≡ (told_of c.args.command (get_or c.args.self.now c.args.place d)).0) c.tell.result
    (λ answer same d. rw (← c.self.view_is) (answered-at c.self.inside.entries c.args.place c.door_mut.result.now d c.args.command answer c.door_mut.ensures.door same))
    c.tell.ensures.answer

-- the door at the place was told
pub returns-clause-told : goal.returns-clause-told
returns-clause-told c = on_ok (c.tell.new.self ≡ told_kept c.args.command c.door_mut.result.now)
    ((d : NamedDoor) → doors_of_numbered (with_door c.self.inside.entries c.args.place c.tell.new.self) ≡ set c.args.self.now c.args.place (told_door c.args.command (get_or c.args.self.now c.args.place d)))
    c.tell.result
    (λ told d. rw (← c.self.view_is) (told-at c.self.inside.entries c.args.place c.door_mut.result.now c.tell.new.self d (source_of c.args.command) c.args.command c.door_mut.ensures.door told))
    c.tell.ensures.told

-- the door is as it was
pub returns-clause-unchanged : goal.returns-clause-unchanged
returns-clause-unchanged c = on_err _ _ c.tell.result (λ unchanged.
    doors-same c.self.inside.entries c.args.place c.door_mut.result.now c.tell.new.self c.door_mut.ensures.door unchanged ∙ c.self.view_is)
    c.tell.ensures.unchanged
