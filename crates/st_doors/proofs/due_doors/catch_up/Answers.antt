use Rattle.std.proofs.Common.{◌≡◌, ◌∙◌, sym, ap, set, get_or, true}
use Rattle.st_doors.specs.Doors.{NamedDoor, KeptDoor, door_named, kept_of}
use Rattle.st_doors.specs.Late.{is_late}
use Rattle.st_doors.proofs.LateDoorsLemmas.{late-ticked}
use Rattle.st_doors.proofs.due_doors.catch_up.Goals as goal

-- the tick comes to no more than a later moment
pub returns-in_ok-answer-clause-caught : goal.returns-in_ok-answer-clause-caught
returns-in_ok-answer-clause-caught c = λ d.
    let door : NamedDoor = get_or c.args.doors.now c.args.place d in
    let late : is_late c.args.moment (kept_of door) ≡ true = sym (c.is_late_at.ensures d) ∙ c.if-is_late_at.true in
    c.in_ok-answer.ensures.told d
    ∙ ap (λ (kept : KeptDoor). set c.args.doors.now c.args.place (door_named door.name kept))
    (late-ticked c.args.moment (c.requires.late d).0 (kept_of door) late (c.requires.late d).1)
