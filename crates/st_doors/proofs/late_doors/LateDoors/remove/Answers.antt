use Rattle.std.proofs.Common.{◌<◌, ◌∙◌, ap, length, map, refl, sym}
use Rattle.st_due.specs.Machines.{Noted}
use Rattle.st_doors.specs.Doors.{has_name, without_door}
use Rattle.st_doors.specs.Late.{caught_up}
use Rattle.st_doors.proofs.DoorLemmas.{IsFirst-within}
use Rattle.st_doors.proofs.LateDoorsLemmas.{missing-caught, without-caught}
use Rattle.st_doors.proofs.NotesLemmas.{watched-left, without-none}
use Rattle.st_doors.proofs.late_doors.LateDoors.remove.Goals as goal

-- there is none
pub returns-in_default : goal.returns-in_default
returns-in_default c =
    let missing = missing-caught c.self.inside.late (has_name c.args.name.now) c.self.inside.doors (λ door. refl) c.in_default.ensures.missing in
    rw (← c.self.view_is) (sym (without-none c.args.name.now (map (caught_up c.self.inside.late) c.self.inside.doors) missing))

pub id_at-id-requires : goal.id_at-id-requires
id_at-id-requires c = IsFirst-within (has_name c.args.name.now) c.self.inside.doors c.in-Some.place c.in-Some.ensures.place

-- the others are watched still
pub invariant_of-self : goal.invariant_of-self
invariant_of-self c =
    let less : c.in-Some.place < length c.self.inside.doors = IsFirst-within (has_name c.args.name.now) c.self.inside.doors c.in-Some.place c.in-Some.ensures.place in
    rw c.remove.ensures
    (watched-left c.self.inside.doors c.serials_rise.ensures c.args.name.now c.in-Some.place c.in-Some.ensures.place less c.id_at-id.result c.id_at-id.ensures
    c.self.inside.late c.self.inside.traced c.self.inside.due.machines c.self.inside.awake.machines c.forget.new.self.machines c.forget-2.new.self.machines
    (ap (λ (noted : Noted). noted.machines) c.forget.ensures) (ap (λ (noted : Noted). noted.machines) c.forget-2.ensures) c.self.invariant)

pub returns : goal.returns
returns c =
    ap (map (caught_up c.self.inside.late)) c.remove.ensures
    ∙ (without-caught c.self.inside.late c.args.name.now c.self.inside.doors ∙ ap (without_door c.args.name.now) c.self.view_is)
