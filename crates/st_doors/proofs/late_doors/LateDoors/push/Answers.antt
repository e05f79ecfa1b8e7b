use Rattle.std.proofs.Common.{◌≡◌, ◌∙◌, ◌||◌, sym, ap, map, refl, get_or, length, Bool, true, false, string_bytes, List, ◌∷◌, [], ◌++◌, arith}
use Rattle.st_doors.specs.Doors.{NamedDoor, door_named}
use Rattle.st_doors.specs.Late.{IsInTime, caught_up, is_late}
use Rattle.st_doors.specs.Notes.{AreWatched}
use Rattle.st_doors.proofs.IdleLemmas.{no_door}
use Rattle.st_doors.proofs.LateDoorsLemmas.{free-caught, caught-not_late, in_time-quiet, none-when, pushed-seen}
use Rattle.st_doors.proofs.NotesLemmas.{last-pushed, watched-pushed}
use Rattle.st_doors.proofs.late_doors.LateDoors.push.Goals as goal

pub push-requires : goal.push-requires
push-requires c = free-caught c.self.inside.late (string_bytes c.args.name) c.self.inside.doors (rw c.self.view_is c.requires)

pub returns-clause-pushed : goal.returns-clause-pushed
returns-clause-pushed c =
    let early : is_late c.self.inside.late c.args.door ≡ false = sym c.is_late.ensures ∙ c.if-is_late.false in
    ap (map (caught_up c.self.inside.late)) c.in_ok-push.ensures.pushed
    ∙ (pushed-seen c.self.inside.late c.self.inside.doors (string_bytes c.args.name) c.args.door early
    ∙ ap (λ (doors : List NamedDoor). doors ++ door_named (string_bytes c.args.name) c.args.door ∷ []) c.self.view_is)

-- the door has seen the late tick
pub invariant_of-self-2 : goal.invariant_of-self-2
invariant_of-self-2 c =
    let traced : Bool = c.self.inside.traced || c.is_traced-traced.result in
    let early : is_late c.self.inside.late c.args.door ≡ false = sym c.is_late.ensures ∙ c.if-is_late.false in
    let last : c.len-place.result ≡ length c.self.inside.doors = c.len-place.ensures in
    let was : AreWatched c.self.inside.late c.self.inside.traced c.reserve.new.due.machines c.reserve.new.awake.machines c.self.inside.doors =
    rw (c.in_ok-reserve.ensures.due, c.in_ok-reserve.ensures.awake) c.self.invariant in
    let it : IsInTime c.self.inside.late 0 c.args.door = in_time-quiet c.self.inside.late 0 c.args.door (caught-not_late c.self.inside.late c.args.door early) (λ moment never. absurd (omega (arith, never))) in
    let here : get_or c.push.new.self c.len-place.result no_door ≡ door_named (string_bytes c.args.name) c.args.door = rw last (last-pushed c.self.inside.late c.self.inside.traced (c.self.inside.traced || c.is_traced-traced.result) c.reserve.new.due.machines c.reserve.new.awake.machines c.self.inside.doors c.push.new.self (door_named (string_bytes c.args.name) c.args.door) c.in_ok-push.ensures.pushed no_door) in
    c.note_at.ensures.watched c.self.inside.late traced no_door
    (rw last (watched-pushed c.self.inside.late c.self.inside.traced (c.self.inside.traced || c.is_traced-traced.result) c.reserve.new.due.machines c.reserve.new.awake.machines c.self.inside.doors c.push.new.self (door_named (string_bytes c.args.name) c.args.door) c.in_ok-push.ensures.pushed (λ runs. (either c.self.inside.traced c.is_traced-traced.result runs).0) was))
    (rw here it)
    (λ runs. rw here (none-when c.args.door.history (sym c.is_traced-traced.ensures ∙ (either c.self.inside.traced c.is_traced-traced.result runs).1)))
  where
    either : (one other : Bool) → (one || other) ≡ false → (one ≡ false) × (other ≡ false)
    either true other is = cc
    either false other is = (refl, is)
