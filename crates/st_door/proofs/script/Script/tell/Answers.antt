use Rattle.std.proofs.Common.{◌≡◌, ◌<◌, length, get_or, ap, arith}
use Rattle.st_doors.specs.Doors.{NamedDoor, kept_of, told_kept}
use Rattle.st_door.specs.Script.{ScriptState}
use Rattle.st_door.proofs.ScriptStateLemmas.{kept-set}
use Rattle.st_doors.proofs.IdleLemmas.{no_door}
use Rattle.st_doors.proofs.ToldLemmas.{id-told}
use Rattle.st_door.proofs.script.Script.tell.Goals as goal

pub widened-from-requires : goal.widened-from-requires
widened-from-requires c =
    let doors : c.self.inside.doors ≡ c.args.self.now.doors = ap (λ (script : ScriptState). script.doors) c.self.view_is in
    let within : c.args.place < length c.self.inside.doors = rw doors c.requires.place in
    omega (arith, within, c.self.invariant.few)

-- the door at the place has the id that it had, and may be ready
pub invariant_of-self-2 : goal.invariant_of-self-2
invariant_of-self-2 c =
    let doors : c.self.inside.doors ≡ c.args.self.now.doors = ap (λ (script : ScriptState). script.doors) c.self.view_is in
    let within : c.args.place < length c.self.inside.doors = rw doors c.requires.place in
    let door : NamedDoor = get_or c.self.inside.doors c.args.place no_door in
    rw (c.in_ok-answer.ensures.told no_door)
    (kept-set c.self.inside.doors c.self.inside.slots c.self.inside.from c.self.inside.until c.args.place _ _ (told_kept c.args.command (kept_of door)) c.self.invariant within
    (id-told door.machine c.args.command)
    c.widened-from.ensures.place.0 c.widened-from.ensures.place.1
    (c.widened-from.ensures.narrow (length c.self.inside.doors) c.self.invariant.within within)
    c.widened-from.ensures.wider)
