use Rattle.std.proofs.Common.{◌≡◌, ◌<◌, length, None, Ok, ap, sym, ◌∙◌, rules, arith}
use Rattle.st_events.specs.declared.machine_id.MachineId.{MachineId}
use Rattle.st_events.specs.declared.refusal.Refusal.TheVariants.{AlreadyStarted}
use Rattle.st_door.specs.declared.effect.Effect.{Effect}
use Rattle.st_door.specs.declared.effect.Effect.TheVariants.{Refuses}
use Rattle.st_doors.specs.Doors.{IsFirst, door_of, has_name}
use Rattle.st_door.specs.Script.{ScriptState, door_start_of, with_start}
use Rattle.st_doors.proofs.DoorLemmas.{IsFirst-within, if_ok, when_none}
use Rattle.st_doors.proofs.IdleLemmas.{no_door}
use Rattle.st_door.proofs.ScriptStateLemmas.{IsFirst-labels, new-taken, new-done, new-place, idle-effect}
use Rattle.st_door.proofs.script.Script.obey_new.Goals as goal

pub id_at-id-requires : goal.id_at-id-requires
id_at-id-requires c = IsFirst-within (has_name c.as_str.result.now) c.args.self.now.doors c.in-Some.taken c.in-Some.ensures.place

pub returns-in-Some-clause-effect : goal.returns-in-Some-clause-effect
returns-in-Some-clause-effect c =
    let first : IsFirst (has_name c.args.name) c.args.self.now.doors c.in-Some.taken = rw (← c.as_str.ensures) c.in-Some.ensures.place in
    ap (λ (id : MachineId). Refuses (AlreadyStarted id)) (c.id_at-id.ensures no_door)
    ∙ sym (ap (λ (s : Effect × ScriptState). s.0) (new-taken c.args.self.now c.args.name c.args.code.now c.in-Some.taken first))

pub returns-in-Some-clause-script : goal.returns-in-Some-clause-script
returns-in-Some-clause-script c =
    let first : IsFirst (has_name c.args.name) c.args.self.now.doors c.in-Some.taken = rw (← c.as_str.ensures) c.in-Some.ensures.place in
    sym (ap (λ (s : Effect × ScriptState). s.1) (new-taken c.args.self.now c.args.name c.args.code.now c.in-Some.taken first))

pub returns-clause-effect : goal.returns-clause-effect
returns-clause-effect c =
    let free : door_of c.args.name c.args.self.now.doors ≡ None = search rules in
    let reserved : length c.args.self.now.doors < 65536 = omega (arith, c.len-place.ensures, c.if-place-ge-DOOR_LIMIT.false) in
    let none : c.in_ok-refusal.field-0 ≡ None = search rules in
    let started : with_start c.args.self.now c.args.name (door_start_of c.args.self.now c.args.code.now) ≡ Ok c.start_door.new.self =
    when_none _ c.in_ok-refusal.field-0 none c.in_ok-refusal.ensures.started in
    let place : length c.args.self.now.doors ≡ c.len-place.result = sym c.len-place.ensures in
    let first : IsFirst (has_name c.args.name) c.start_door.new.self.doors c.len-place.result =
    rw (← place) (new-place c.args.self.now c.start_door.new.self c.args.name c.args.code.now free started) in
    let idle = IsFirst-labels c.args.name c.start_door.new.self.doors c.run_until_idle.new.self.doors c.len-place.result c.in_ok-run_until_idle.ensures.same_labels first in
    if_ok _ _ c.status_effect.result (λ effect says.
    idle-effect c.start_door.new.self c.run_until_idle.new.self c.args.name c.len-place.result _ effect c.in_ok-run_until_idle.ensures.rested
    (new-done c.args.self.now c.start_door.new.self c.args.name c.args.code.now free reserved started) idle (says no_door))
    c.status_effect.ensures
