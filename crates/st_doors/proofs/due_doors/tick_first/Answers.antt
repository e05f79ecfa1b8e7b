use Rattle.std.proofs.Common.{◌≡◌, ◌+◌, ◌<◌, ◌≤◌, ◌∙◌, ap, sym, refl, false, List, ◌∷◌, None, Some, get_or, length, arith}
use Rattle.std.proofs.lemmas.List.{length-set}
use Rattle.st_answers.specs.declared.command.Command.TheVariants as command
use Rattle.st_journal.specs.declared.source.Source.TheVariants as source
use Rattle.st_due.specs.declared.due_machine.DueMachine.{DueMachine}
use Rattle.st_due.specs.Machines.{Noted, due_by, left_by}
use Rattle.st_doors.specs.Doors.{NamedDoor, count_in, expired_of, told_door}
use Rattle.st_doors.specs.Notes.{AreWatched, due_count}
use Rattle.st_doors.specs.Settling.{has_id}
use Rattle.st_doors.proofs.DoorLemmas.{IsFirst-within}
use Rattle.st_doors.proofs.IdleLemmas.{labels-told, no_door}
use Rattle.st_doors.proofs.NotesLemmas.{ticked-in_time, ticked-untraced, watched-back, watched-gone, watched-others}
use Rattle.st_doors.proofs.QueueLemmas.{count-first, due-first, due-none}
use Rattle.st_doors.proofs.TwiceLemmas.{counted-set, ticked-set}
use Rattle.st_doors.proofs.due_doors.tick_first.Goals as goal

-- none is due
pub returns-in_default-clause-none : goal.returns-in_default-clause-none
returns-in_default-clause-none c =
    let is : due_by c.args.moment c.reserve.new.due.machines ≡ None = sym c.take.ensures.taken ∙ c.in_default.is in
    let none = due-none c.args.moment c.reserve.new.due.machines c.is_in_order.ensures.order is in
    let left : c.take.new.self.machines ≡ c.reserve.new.due.machines = ap (λ (noted : Noted). noted.machines) c.take.ensures.left ∙ none.0 in
    (refl, rw left none.1)

-- the first is no door
pub returns-in_default-place_of_id-clause-watched : goal.returns-in_default-place_of_id-clause-watched
returns-in_default-place_of_id-clause-watched c =
    let was : AreWatched c.args.late false c.reserve.new.due.machines c.reserve.new.awake.machines c.args.doors.now =
    rw (c.in_ok-reserve.ensures.due, c.in_ok-reserve.ensures.awake) c.requires.watched in
    let first : due_by c.args.moment c.reserve.new.due.machines ≡ Some c.in-Some.first = sym c.take.ensures.taken ∙ c.in-Some.is in
    let left : c.take.new.self.machines ≡ left_by c.args.moment c.reserve.new.due.machines = ap (λ (noted : Noted). noted.machines) c.take.ensures.left in
    let due_is : c.reserve.new.due.machines ≡ c.in-Some.first ∷ c.take.new.self.machines =
    (due-first c.args.moment c.reserve.new.due.machines c.in-Some.first first).0 ∙ ap (λ (others : List DueMachine). c.in-Some.first ∷ others) (sym left) in
    watched-gone c.args.late false c.reserve.new.due.machines c.reserve.new.awake.machines c.take.new.self.machines c.in-Some.first c.args.doors.now due_is was c.in_default-place_of_id.ensures.missing

-- it is one
pub tell_at-requires-clause-place : goal.tell_at-requires-clause-place
tell_at-requires-clause-place c = IsFirst-within (has_id c.in-Some.first.machine) c.args.doors.now c.in-Some-place_of_id.place c.in-Some-place_of_id.ensures.place

-- a tick found no memory: the door is as it was, and stands where it stood
pub returns-in_default-tell_at-clause-watched : goal.returns-in_default-tell_at-clause-watched
returns-in_default-tell_at-clause-watched c =
    let was : AreWatched c.args.late false c.reserve.new.due.machines c.reserve.new.awake.machines c.args.doors.now =
    rw (c.in_ok-reserve.ensures.due, c.in_ok-reserve.ensures.awake) c.requires.watched in
    let first : due_by c.args.moment c.reserve.new.due.machines ≡ Some c.in-Some.first = sym c.take.ensures.taken ∙ c.in-Some.is in
    let left : c.take.new.self.machines ≡ left_by c.args.moment c.reserve.new.due.machines = ap (λ (noted : Noted). noted.machines) c.take.ensures.left in
    let due_is : c.reserve.new.due.machines ≡ c.in-Some.first ∷ c.take.new.self.machines =
    (due-first c.args.moment c.reserve.new.due.machines c.in-Some.first first).0 ∙ ap (λ (others : List DueMachine). c.in-Some.first ∷ others) (sym left) in
    rw c.in_default-tell_at.ensures.unchanged
    (watched-back c.args.late false c.reserve.new.due.machines c.reserve.new.awake.machines c.take.new.self.machines c.in-Some.first c.args.doors.now due_is was c.note.new.self.machines (ap (λ (noted : Noted). noted.machines) c.note.ensures))

-- the door was ticked
pub note_at-requires-clause-place : goal.note_at-requires-clause-place
note_at-requires-clause-place c =
    let found = c.in-Some-place_of_id.ensures.place in
    let less : c.in-Some-place_of_id.place < length c.args.doors.now = IsFirst-within (has_id c.in-Some.first.machine) c.args.doors.now c.in-Some-place_of_id.place found in
    rw (c.in-Ok.ensures.told no_door, length-set) less

pub returns-clause-counted : goal.returns-clause-counted
returns-clause-counted c =
    let was : AreWatched c.args.late false c.reserve.new.due.machines c.reserve.new.awake.machines c.args.doors.now =
    rw (c.in_ok-reserve.ensures.due, c.in_ok-reserve.ensures.awake) c.requires.watched in
    let found = c.in-Some-place_of_id.ensures.place in
    let less : c.in-Some-place_of_id.place < length c.args.doors.now = IsFirst-within (has_id c.in-Some.first.machine) c.args.doors.now c.in-Some-place_of_id.place found in
    let none : (get_or c.args.doors.now c.in-Some-place_of_id.place no_door).history ≡ None = (was.0 c.in-Some-place_of_id.place no_door less).untraced refl in
    let here : NamedDoor = get_or c.args.doors.now c.in-Some-place_of_id.place no_door in
    let count : c.let_go.result.expired ≡ expired_of c.args.moment here = c.let_go.ensures.expired ∙ ap count_in (c.in-Ok.ensures.answer no_door) in
    rw (count, c.in-Ok.ensures.told no_door) (counted-set c.args.moment c.requires.early c.in-Some-place_of_id.place c.args.doors.now less none)

pub returns-clause-fewer : goal.returns-clause-fewer
returns-clause-fewer c =
    let first : due_by c.args.moment c.reserve.new.due.machines ≡ Some c.in-Some.first = sym c.take.ensures.taken ∙ c.in-Some.is in
    let left : c.take.new.self.machines ≡ left_by c.args.moment c.reserve.new.due.machines = ap (λ (noted : Noted). noted.machines) c.take.ensures.left in
    let due_is : c.reserve.new.due.machines ≡ c.in-Some.first ∷ c.take.new.self.machines =
    (due-first c.args.moment c.reserve.new.due.machines c.in-Some.first first).0 ∙ ap (λ (others : List DueMachine). c.in-Some.first ∷ others) (sym left) in
    let early : c.in-Some.first.moment ≤ c.args.moment = (due-first c.args.moment c.reserve.new.due.machines c.in-Some.first first).1 in
    let no_more : due_count c.args.moment c.note_at.new.due.machines ≤ due_count c.args.moment c.take.new.self.machines = c.note_at.ensures.no_more c.args.moment (omega arith) in
    let one_more : due_count c.args.moment c.args.due.now.machines ≡ 1 + due_count c.args.moment c.take.new.self.machines =
    ap (due_count c.args.moment) (sym c.in_ok-reserve.ensures.due ∙ due_is) ∙ count-first c.args.moment c.in-Some.first c.take.new.self.machines early in
    omega (arith, no_more, one_more)

pub returns-clause-ticked : goal.returns-clause-ticked
returns-clause-ticked c =
    let was : AreWatched c.args.late false c.reserve.new.due.machines c.reserve.new.awake.machines c.args.doors.now =
    rw (c.in_ok-reserve.ensures.due, c.in_ok-reserve.ensures.awake) c.requires.watched in
    let found = c.in-Some-place_of_id.ensures.place in
    let less : c.in-Some-place_of_id.place < length c.args.doors.now = IsFirst-within (has_id c.in-Some.first.machine) c.args.doors.now c.in-Some-place_of_id.place found in
    let none : (get_or c.args.doors.now c.in-Some-place_of_id.place no_door).history ≡ None = (was.0 c.in-Some-place_of_id.place no_door less).untraced refl in
    rw (c.in-Ok.ensures.told no_door) (ticked-set c.args.moment c.requires.early c.in-Some-place_of_id.place c.args.doors.now less none)

pub returns-clause-same_labels : goal.returns-clause-same_labels
returns-clause-same_labels c =
    let found = c.in-Some-place_of_id.ensures.place in
    let less : c.in-Some-place_of_id.place < length c.args.doors.now = IsFirst-within (has_id c.in-Some.first.machine) c.args.doors.now c.in-Some-place_of_id.place found in
    rw (c.in-Ok.ensures.told no_door) (labels-told c.args.doors.now c.in-Some-place_of_id.place no_door source.Caller (command.Tick c.args.moment) less)

-- and nothing of it is due by the moment
pub returns-clause-watched : goal.returns-clause-watched
returns-clause-watched c =
    let was : AreWatched c.args.late false c.reserve.new.due.machines c.reserve.new.awake.machines c.args.doors.now =
    rw (c.in_ok-reserve.ensures.due, c.in_ok-reserve.ensures.awake) c.requires.watched in
    let first : due_by c.args.moment c.reserve.new.due.machines ≡ Some c.in-Some.first = sym c.take.ensures.taken ∙ c.in-Some.is in
    let left : c.take.new.self.machines ≡ left_by c.args.moment c.reserve.new.due.machines = ap (λ (noted : Noted). noted.machines) c.take.ensures.left in
    let due_is : c.reserve.new.due.machines ≡ c.in-Some.first ∷ c.take.new.self.machines =
    (due-first c.args.moment c.reserve.new.due.machines c.in-Some.first first).0 ∙ ap (λ (others : List DueMachine). c.in-Some.first ∷ others) (sym left) in
    let found = c.in-Some-place_of_id.ensures.place in
    let less : c.in-Some-place_of_id.place < length c.args.doors.now = IsFirst-within (has_id c.in-Some.first.machine) c.args.doors.now c.in-Some-place_of_id.place found in
    let none : (get_or c.args.doors.now c.in-Some-place_of_id.place no_door).history ≡ None = (was.0 c.in-Some-place_of_id.place no_door less).untraced refl in
    let told = c.in-Ok.ensures.told no_door in
    c.note_at.ensures.watched c.args.late false no_door
    (watched-others c.args.late false c.reserve.new.due.machines c.reserve.new.awake.machines c.take.new.self.machines c.in-Some.first c.args.doors.now due_is was c.in-Some-place_of_id.place (told_door (command.Tick c.args.moment) (get_or c.args.doors.now c.in-Some-place_of_id.place no_door))
    c.tell_at.new.self c.serials_rise.ensures found told)
    (ticked-in_time c.args.late c.args.moment c.in-Some-place_of_id.place c.args.doors.now c.tell_at.new.self less told none c.requires.order c.requires.early)
    (λ _. ticked-untraced c.args.late c.args.moment c.in-Some-place_of_id.place c.args.doors.now c.tell_at.new.self less told none)
