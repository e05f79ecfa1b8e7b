use Rattle.std.proofs.Common.{◌∙◌, ap, map}
use Rattle.st_doors.specs.Doors.{NamedDoor, source_of, told_of}
use Rattle.st_doors.specs.Late.{caught_up}
use Rattle.st_doors.specs.Notes.{AreWatched}
use Rattle.st_doors.proofs.DoorLemmas.{err_always}
use Rattle.st_doors.proofs.IdleLemmas.{no_door}
use Rattle.st_doors.proofs.LateDoorsLemmas.{within-caught, caught-seen, caught-within, caught-here, told-seen, told-within}
use Rattle.st_doors.proofs.NotesLemmas.{in_time-noted, watched-anew, watched-caught}
use Rattle.st_doors.proofs.late_doors.LateDoors.tell_at.Goals as goal

pub prepare-requires-clause-place : goal.prepare-requires-clause-place
prepare-requires-clause-place c = within-caught c.self.inside.late c.args.place c.self.inside.doors c.args.self.now c.self.view_is c.requires.place

pub prepare-requires-clause-late : goal.prepare-requires-clause-late
prepare-requires-clause-late c = λ d. in_time-noted c.self.inside.late c.self.inside.traced c.self.inside.due.machines c.self.inside.awake.machines c.args.place c.self.inside.doors d
    (within-caught c.self.inside.late c.args.place c.self.inside.doors c.args.self.now c.self.view_is c.requires.place) c.self.invariant

-- no tick was made up for
pub invariant_of-self : goal.invariant_of-self
invariant_of-self c = rw (c.in_err-prepare.ensures.unchanged, c.in_err-prepare.ensures.due, c.in_err-prepare.ensures.awake) c.self.invariant

pub returns-in_err-prepare-clause-unchanged : goal.returns-in_err-prepare-clause-unchanged
returns-in_err-prepare-clause-unchanged c = err_always _ c.from_residual.result (ap (map (caught_up c.self.inside.late)) c.in_err-prepare.ensures.unchanged ∙ c.self.view_is)

pub tell_at-requires-clause-place : goal.tell_at-requires-clause-place
tell_at-requires-clause-place c = caught-within c.self.inside.late c.args.place c.self.inside.doors c.prepare.new.doors (c.in_ok-prepare.ensures.caught no_door) c.args.self.now c.self.view_is c.requires.place

-- one was, and no more
pub invariant_of-self-in_err-answer : goal.invariant_of-self-in_err-answer
invariant_of-self-in_err-answer c =
    rw (c.in_err-answer.ensures.unchanged, c.in_ok-prepare.ensures.caught no_door, c.in_ok-prepare.ensures.due, c.in_ok-prepare.ensures.awake)
    (watched-caught c.self.inside.late c.self.inside.traced c.self.inside.due.machines c.self.inside.awake.machines c.args.place c.self.inside.doors c.self.invariant)

pub returns-in_err-answer-clause-unchanged : goal.returns-in_err-answer-clause-unchanged
returns-in_err-answer-clause-unchanged c = err_always _ c.from_residual-in_err-answer.result (ap (map (caught_up c.self.inside.late)) c.in_err-answer.ensures.unchanged
    ∙ (caught-seen c.self.inside.late c.args.place c.self.inside.doors c.prepare.new.doors (c.in_ok-prepare.ensures.caught no_door) ∙ c.self.view_is))

pub returns-clause-told : goal.returns-clause-told
returns-clause-told c = λ d. told-seen c.self.inside.late c.args.place c.self.inside.doors c.prepare.new.doors (c.in_ok-prepare.ensures.caught no_door) c.args.self.now c.self.view_is c.requires.place
    (source_of c.args.command) c.args.command c.tell_at.new.self d (c.in_ok-answer.ensures.told no_door)

-- the door at the place is the one that is seen
pub returns-clause-answer : goal.returns-clause-answer
returns-clause-answer c = λ d. c.in_ok-answer.ensures.answer no_door
    ∙ ap (λ (door : NamedDoor). (told_of c.args.command door).0) (caught-here c.self.inside.late c.args.place c.self.inside.doors c.prepare.new.doors (c.in_ok-prepare.ensures.caught no_door) c.args.self.now c.self.view_is c.requires.place d no_door)

pub note_at-requires-clause-place : goal.note_at-requires-clause-place
note_at-requires-clause-place c = told-within c.self.inside.late c.args.place c.self.inside.doors c.prepare.new.doors (c.in_ok-prepare.ensures.caught no_door) c.args.self.now c.self.view_is c.requires.place
    (source_of c.args.command) c.args.command c.tell_at.new.self (c.in_ok-answer.ensures.told no_door)

-- the door has seen the late tick, and is noted anew
pub invariant_of-self-2 : goal.invariant_of-self-2
invariant_of-self-2 c =
    let was : AreWatched c.self.inside.late c.self.inside.traced c.prepare.new.due.machines c.prepare.new.awake.machines c.self.inside.doors =
    rw (c.in_ok-prepare.ensures.due, c.in_ok-prepare.ensures.awake) c.self.invariant in
    watched-anew c.self.inside.late c.self.inside.traced c.prepare.new.due.machines c.prepare.new.awake.machines c.args.place c.self.inside.doors c.prepare.new.doors c.tell_at.new.self
    (source_of c.args.command) c.args.command (c.in_ok-prepare.ensures.caught no_door) (c.in_ok-answer.ensures.told no_door)
    (c.note_at.ensures.watched c.self.inside.late c.self.inside.traced no_door)
    (within-caught c.self.inside.late c.args.place c.self.inside.doors c.args.self.now c.self.view_is c.requires.place) was
