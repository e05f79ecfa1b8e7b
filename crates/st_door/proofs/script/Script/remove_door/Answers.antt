use Rattle.std.proofs.Common.{rules, ◌≡◌, ◌-◌, min, length, ap}
use Rattle.st_doors.specs.Doors.{has_name}
use Rattle.st_door.specs.Script.{ScriptState}
use Rattle.st_doors.proofs.DoorLemmas.{IsFirst-within}
use Rattle.st_doors.proofs.IdleLemmas.{no_door}
use Rattle.st_door.proofs.ScriptStateLemmas.{slot-marked, kept-without}
use Rattle.st_door.proofs.script.Script.remove_door.Goals as goal

-- the place is that of the name
pub id_at-slot-requires : goal.id_at-slot-requires
id_at-slot-requires c =
    let doors : c.self.inside.doors ≡ c.args.self.now.doors = ap (λ (script : ScriptState). script.doors) c.self.view_is in
    IsFirst-within (has_name c.args.name.now) c.self.inside.doors c.args.place (rw doors c.requires)

-- the door's place in the table is marked
pub free-requires : goal.free-requires
free-requires c =
    let doors : c.self.inside.doors ≡ c.args.self.now.doors = ap (λ (script : ScriptState). script.doors) c.self.view_is in
    rw (c.id_at-slot.ensures no_door)
    (slot-marked c.self.inside.doors c.self.inside.slots c.args.name.now c.args.place no_door c.self.invariant.marked (rw doors c.requires))

-- and free once it is gone
pub invariant_of-self : goal.invariant_of-self
invariant_of-self c =
    let doors : c.self.inside.doors ≡ c.args.self.now.doors = ap (λ (script : ScriptState). script.doors) c.self.view_is in
    let low : c.saturating_sub-self-inside.result ≡ c.self.inside.from - 1 = search rules in
    let high : c.min-self-inside.result ≡ min c.self.inside.until (length c.remove.new.self) = search rules in
    rw (high, low, c.free.ensures, c.remove.ensures, c.id_at-slot.ensures no_door)
    (kept-without c.self.inside.doors c.self.inside.slots c.self.inside.from c.self.inside.until c.args.name.now c.args.place c.self.invariant (rw doors c.requires))
